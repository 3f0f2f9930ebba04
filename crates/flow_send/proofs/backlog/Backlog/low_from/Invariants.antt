use Rattle.std.proofs.Common.{◌≡◌, ◌-◌, ◌%◌}
use Rattle.flow_send.specs.Lows.{IsLowFrom}
use Rattle.flow_send.proofs.backlog.Backlog.low_from.Given as goal

abbrev pub invariant-loop-sharer : goal.invariant-loop-sharer
invariant-loop-sharer l = record {
  low : IsLowFrom l.block l.sharer l.self l.low;
  place : l.sharer % 2056 ≡ l.block % 2056;
}

abbrev pub decreases-loop-sharer : goal.decreases-loop-sharer
decreases-loop-sharer l = l.to - l.sharer
