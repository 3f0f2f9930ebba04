use Rattle.std.specs.Prelude.{◌+◌, ◌&&◌, Bool, map, nat_le, nat_lt, if◌then◌else◌}
use Rattle.std.proofs.Common.{◌≡◌, ◌∷◌, [], false, ℕ, List, refl, ap, ◌∙◌}
use Rattle.rtmfp_forms.specs.Address.{AddressParts}
use Rattle.rtmfp_vlu.specs.Vlu.{vlu, groups_before}
use Rattle.rtmfp_fragments.specs.Pieces.{piece}
use Rattle.endpoint_model.specs.declared.row.Row.{Row}
use Rattle.endpoint_model.specs.State.{State, Did, nothing, then_do, with_row}
use Rattle.endpoint_model.specs.Sending.{last_count, piece_body, sent_bodies}
use Rattle.endpoint_model.proofs.edges.a_longer_packet_goes_out_in_pieces.Goals as goal

pub returns-clause-more : goal.returns-clause-more
unfolding vlu groups_before
returns-clause-more c = refl

one_piece : piece_body 1 (piece 0 false (7 ∷ [])) ≡ 0x7f ∷ 0 ∷ 4 ∷ 0 ∷ 1 ∷ 0 ∷ 7 ∷ []
unfolding vlu groups_before
one_piece = refl

-- what goes out, by how many IDs and counts were used
abbrev goes : State → ℕ → AddressParts → Row → ℕ → ℕ → Did
goes s near to row packets sealed =
    if nat_lt packets last_count && nat_le (sealed + 1) last_count
    then then_do (nothing (with_row s near (record row { packets = packets + 1 })))
    (λ t. sent_bodies t near to (piece_body (packets + 1) (piece 0 false (7 ∷ [])) ∷ []))
    else nothing s

pub returns-clause-first : goal.returns-clause-first
returns-clause-first c s near to row none unused =
    ap (λ (packets : ℕ). goes s near to row packets row.session.sealed) none
    ∙ ap (goes s near to row 0) unused
    ∙ ap (λ (body : List ℕ). then_do (nothing (with_row s near (record row { packets = 1 }))) (λ t. sent_bodies t near to (body ∷ []))) one_piece
