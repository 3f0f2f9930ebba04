use Rattle.std.proofs.Common.{◌+◌, ◌-◌, ◌≤◌}
use Rattle.flow_send.specs.Marks.{Covers}
use Rattle.flow_send.proofs.backlog.Backlog.clear_blocks.Given as goal

abbrev pub invariant-loop-block : goal.invariant-loop-block
invariant-loop-block l = record {
  covers : Covers l.marks l.self (l.forward + 1) l.rows.rows;
  from : l.from ≤ l.block;
}

abbrev pub decreases-loop-block : goal.decreases-loop-block
decreases-loop-block l = l.end - l.block
