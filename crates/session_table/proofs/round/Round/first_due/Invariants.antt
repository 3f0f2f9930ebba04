use Rattle.std.proofs.Common.{ℕ, ◌≡◌, ◌-◌, Some, length}
use Rattle.session_table.specs.Inside.{IsAwaitedAt, IsRising}
use Rattle.session_table.proofs.round.Round.first_due.Given as goal

abbrev pub invariant-loop-near : goal.invariant-loop-near
invariant-loop-near l = IsRising l.self.nears.items l.self.next × ((slot : ℕ) → IsAwaitedAt l.rows.things l.self slot) × (l.self.moment ≡ Some l.moment)

abbrev pub decreases-loop-near : goal.decreases-loop-near
decreases-loop-near l = length l.self.nears.items - l.self.next
