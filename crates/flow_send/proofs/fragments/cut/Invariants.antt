use Rattle.std.proofs.Common.{◌≡◌, ℕ, ◌*◌, ◌∷◌, drop}
use Rattle.flow_send.specs.Sender.{rows_of, new_row}
use Rattle.flow_send.proofs.fragments.cut.Given as goal

abbrev pub invariant-loop-at : goal.invariant-loop-at
invariant-loop-at l = (l.rest ≡ drop (1000 * l.at) l.message) × ((n : ℕ) → new_row (record { number = n; bytes = l.message }) n ∷ l.more.items ≡ rows_of (record { number = n; bytes = l.message }) n l.at)
