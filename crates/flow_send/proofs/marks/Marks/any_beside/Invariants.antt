use Rattle.std.proofs.Common.{ℕ, ◌≡◌, ◌≢◌, ◌≤◌, ◌<◌, false, get_or}
use Rattle.flow_send.proofs.marks.Marks.any_beside.Given as goal

abbrev pub invariant-loop-other : goal.invariant-loop-other
invariant-loop-other l = (i : ℕ) → l.first ≤ i → i < l.other → i ≢ l.place → get_or l.self.places i false ≡ false
