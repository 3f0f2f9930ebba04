use Rattle.std.proofs.Common.{◌≡◌, ◌-◌, drop, length}
use Rattle.flow_send.specs.Rows.{first_index}
use Rattle.flow_send.specs.Finder.{is_pending}
use Rattle.flow_send.proofs.finder.Finder.first.Given as goal

abbrev pub invariant-loop-at : goal.invariant-loop-at
invariant-loop-at l = first_index (is_pending l.pending) l.from (drop l.from l.rows.items) ≡ first_index (is_pending l.pending) l.at (drop l.at l.rows.items)

abbrev pub decreases-loop-at : goal.decreases-loop-at
decreases-loop-at l = length l.rows.items - l.at
