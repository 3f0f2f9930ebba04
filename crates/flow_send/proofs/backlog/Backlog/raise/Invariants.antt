use Rattle.std.proofs.Common.{◌≡◌, ◌≤◌, ◌-◌}
use Rattle.flow_send.proofs.backlog.Backlog.raise.Given as goal

abbrev pub invariant-loop-block : goal.invariant-loop-block
invariant-loop-block l = record {
  same : l.self ≡ l.fn.self;
  from : l.from ≤ l.block;
}

abbrev pub decreases-loop-block : goal.decreases-loop-block
decreases-loop-block l = l.last - l.block
