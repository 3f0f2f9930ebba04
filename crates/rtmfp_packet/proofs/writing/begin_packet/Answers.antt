use Rattle.std.proofs.Common.{◌≡◌, ◌∷◌, ◌++◌, [], List, ℕ, subst, sym, ap, ◌∙◌}
use Rattle.rtmfp_packet.specs.Head.{HeadSpells, head_bytes, stamp_bytes}
use Rattle.rtmfp_packet.proofs.Flags.{head_bytes-spells}
use Rattle.rtmfp_packet.proofs.writing.begin_packet.Goals as goal

pub returns-clause-spells : goal.returns-clause-spells
returns-clause-spells c =
    let h = c.args.head.now in
    let first = c.new-packet.ensures ∙ ap (λ (x : ℕ). x ∷ []) c.flags_of.ensures in
    let second = c.append_stamp.ensures.bytes ∙ ap (λ xs. xs ++ stamp_bytes h.stamp) first in
    let written : c.append_stamp-2.new.packet ≡ head_bytes h = c.append_stamp-2.ensures.bytes ∙ ap (λ xs. xs ++ stamp_bytes h.echo) second in
    let P : List ℕ → Type 0 = λ xs. HeadSpells h xs in
    subst P (sym written) (head_bytes-spells h c.append_stamp.ensures.fits c.append_stamp-2.ensures.fits)
