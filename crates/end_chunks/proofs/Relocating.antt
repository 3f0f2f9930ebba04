-- How a session moves.
use Rattle.std.proofs.Common.{ℕ, ◌≡◌, ◌∷◌, [], ◌++◌, ◌+◌, ◌≤◌, List, Bool, true, false, if◌then◌else◌, Option, Some, None, refl, sym, ap, ◌∙◌, subst}
use Rattle.std.specs.FinMap.{get}
use Rattle.rtmfp_forms.specs.Address.{AddressParts}
use Rattle.mobility.specs.declared.pending.Test.{Test}
use Rattle.mobility.specs.Tests.{is_answered, after_reply}
use Rattle.session_core.specs.Session.{moved_to}
use Rattle.endpoint_model.specs.declared.row.Row.{Row}
use Rattle.endpoint_model.specs.declared.entry.Entry.TheVariants.{Moved}
use Rattle.endpoint_model.specs.Added.{Added}
use Rattle.endpoint_model.specs.State.{State, Did, Done, nothing, with_row}
use Rattle.endpoint_model.specs.InSessions.{answers_by, moved_by, moved_where}

-- the row of a session that moved
abbrev pub moved_row : Row → AddressParts → Row
moved_row row from = record row { session = moved_to from row.session; moves = None }

moves_as : (s : State) (near : ℕ) (from : AddressParts) (bytes : List ℕ) (row : Row) (b : Bool) → is_answered row.moves from bytes ≡ b →
    moved_by s near from bytes (Some row) ≡ moved_where s near row (if b then None else row.moves) (if b then Some from else None)
moves_as s near from bytes row b e = ap (λ (x : Bool). moved_where s near row (if x then None else row.moves) (if x then Some from else None)) e

-- one that moves nothing
pub unmoved : (s : State) (near : ℕ) (from : AddressParts) (bytes : List ℕ) (o : Option Row) → answers_by from bytes o ≡ false → moved_by s near from bytes o ≡ nothing s
unmoved s near from bytes None e = refl
unmoved s near from bytes (Some row) e = moves_as s near from bytes row false e

pub moves_to : (s : State) (near : ℕ) (from : AddressParts) (bytes : List ℕ) (row : Row) → is_answered row.moves from bytes ≡ true →
    moved_by s near from bytes (Some row) ≡ record { state = with_row s near (moved_row row from); entries = Moved near from ∷ [] }
moves_to s near from bytes row e = moves_as s near from bytes row true e

pub test_over : (moves : Option Test) (from : AddressParts) (bytes : List ℕ) → is_answered moves from bytes ≡ true → after_reply moves from bytes ≡ None
test_over moves from bytes e = ap (λ (b : Bool). if b then None else moves) e

pub moved_done : (s now : State) (near : ℕ) (from : AddressParts) (bytes : List ℕ) (row : Row) (new : State) (before after : Added) → s ≡ now → get s.sessions near ≡ Some row →
    answers_by from bytes (get now.sessions near) ≡ true → new ≡ with_row s near (moved_row row from) → after.entries ≡ before.entries ++ Moved near from ∷ [] → before.free ≤ after.free + 1 → after.room ≡ before.room →
    Done (moved_by now near from bytes (get now.sessions near)) new before after
moved_done s now near from bytes row new before after is was answers new_is entries free room =
    let answered : is_answered row.moves from bytes ≡ true = sym (ap (answers_by from bytes) was) ∙ ap (λ (t : State). answers_by from bytes (get t.sessions near)) is ∙ answers in
    let same : moved_by now near from bytes (get now.sessions near) ≡ record { state = with_row s near (moved_row row from); entries = Moved near from ∷ [] } =
    ap (λ (t : State). moved_by t near from bytes (get t.sessions near)) (sym is) ∙ ap (moved_by s near from bytes) was ∙ moves_to s near from bytes row answered in
    let P : Did → Type 0 = λ d. Done d new before after in
    subst P (sym same) (record { state = new_is; entries = entries; free = free; room = room })

-- there is such a session
pub answering : (from : AddressParts) (bytes : List ℕ) (o : Option Row) → answers_by from bytes o ≡ true → (row : Row) × (o ≡ Some row)
answering from bytes None e = absurd (cc)
answering from bytes (Some row) e = (row, refl)
