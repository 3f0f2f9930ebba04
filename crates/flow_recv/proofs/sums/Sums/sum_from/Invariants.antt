use Rattle.std.proofs.Common.{◌≡◌}
use Rattle.flow_recv.specs.Sums.{sum_from}
use Rattle.flow_recv.proofs.sums.Sums.sum_from.Given as goal

abbrev pub invariant-loop-step : goal.invariant-loop-step
invariant-loop-step l = l.sum ≡ sum_from l.self l.block l.step
