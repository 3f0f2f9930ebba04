use Rattle.std.proofs.Common.{◌≡◌, ◌<◌, ◌≤◌, ◌+◌, ◌++◌, ◌^◌, length}
use Rattle.std.specs.List.{sum_by}
use Rattle.flow_send.specs.Rows.{stored_of}
use Rattle.flow_send.proofs.rows.Rows.append.Given as goal

abbrev pub invariant-loop-row : goal.invariant-loop-row
invariant-loop-row l =
    (l.self.rows ++ l.more.items ≡ l.fn.self.rows ++ l.fn.more.items)
    × (l.self.room + length l.fn.more.items ≡ l.fn.self.room + length l.more.items)
    × (length l.more.items ≤ l.self.room)
    × (sum_by stored_of l.self.rows + sum_by stored_of l.more.items < 2 ^ 64)

abbrev pub decreases-loop-row : goal.decreases-loop-row
decreases-loop-row l = length l.more.items
