-- What a piece does in its session, by the single steps of which it is made.
use Rattle.std.specs.Prelude.{option_to_list}
use Rattle.std.specs.FinMap.{get}
use Rattle.std.proofs.Common.{ℕ, ◌≡◌, ◌≤◌, ◌+◌, ◌++◌, List, length, Option, Some, None, Result, Ok, Err, IfOk, OnOk, refl, sym, ap, ◌∙◌, subst}
use Rattle.rtmfp_packet.specs.declared.head.PacketFault.{PacketFault}
use Rattle.rtmfp_packet.specs.Whole.{Whole}
use Rattle.rtmfp_fragments.specs.Pieces.{PieceParts}
use Rattle.endpoint_model.specs.declared.entry.Entry.{Entry}
use Rattle.endpoint_model.specs.declared.place.Place.TheVariants.{Session}
use Rattle.endpoint_model.specs.declared.row.Row.{Row}
use Rattle.endpoint_model.specs.Added.{Added}
use Rattle.endpoint_model.specs.Admission.{mode_at}
use Rattle.endpoint_model.specs.Gathering.{gathered_more, piece_taken_by, whole_by, whole_cause, whole_faults}
use Rattle.endpoint_model.specs.State.{State, Sessions, Did, Done, with_sessions}
use Rattle.session_table.specs.Table.{in_row, with_changed}
use Rattle.end_chunks.specs.Pieces.{fault_by_mode}

abbrev made : State → Sessions → List Entry → Did
made s rows entries = record { state = with_sessions s rows; entries = entries }

taken_as : (s : State) (near at id : ℕ) (x : PieceParts) (o : Option Row) →
    piece_taken_by s near at id x o ≡ made s (with_changed (gathered_more s.moment id x) s.sessions near o) (whole_faults s near at (whole_by s.moment o id x))
taken_as s near at id x None = refl
taken_as s near at id x (Some row) = refl

pub piece_done : (s : State) (near at id : ℕ) (x : PieceParts) (rows : Sessions) (whole : Option (List ℕ)) (entry : Option Entry) (before after : Added) →
    rows ≡ in_row (gathered_more s.moment id x) s.sessions near → whole ≡ whole_by s.moment (get s.sessions near) id x → whole_faults s near at whole ≡ option_to_list entry →
    after.entries ≡ before.entries ++ option_to_list entry → before.free ≤ after.free + length (option_to_list entry) → after.room ≡ before.room →
    Done (piece_taken_by s near at id x (get s.sessions near)) (with_sessions s rows) before after
piece_done s near at id x rows whole entry before after rows_are given told entries free room =
    let same : piece_taken_by s near at id x (get s.sessions near) ≡ made s rows (option_to_list entry) =
    taken_as s near at id x (get s.sessions near)
    ∙ ap (λ (r : Sessions). made s r (whole_faults s near at (whole_by s.moment (get s.sessions near) id x))) (sym rows_are)
    ∙ ap (λ (o : Option (List ℕ)). made s rows (whole_faults s near at o)) (sym given)
    ∙ ap (made s rows) told in
    subst (λ (d : Did). Done d (with_sessions s rows) before after) (sym same) (record { state = refl; entries = entries; free = free; room = room })

pub fault_is : (s : State) (near : ℕ) (r : Result Whole PacketFault) → fault_by_mode (mode_at s (Session near)) r ≡ whole_cause s near r
fault_is s near (Err fault) = refl
fault_is s near (Ok packet) = refl

pub ok_anyway : {A E P : Type 0} (r : Result A E) → P → OnOk r P
ok_anyway (Ok x) p = p
ok_anyway (Err e) p = tt

-- what is so of one list of bytes is so of the same
pub if_ok : {A E : Type 0} {P Q : A → Type 0} (r : Result A E) → ((x : A) → P x → Q x) → IfOk r P → IfOk r Q
if_ok (Ok x) f h = f x h
if_ok (Err e) f h = tt
