use Rattle.std.proofs.Common.{◌≡◌}
use Rattle.rtmfp_report.proofs.group_keys.GroupKeys.learn.Given as goal

abbrev pub invariant-loop-entry : goal.invariant-loop-entry
invariant-loop-entry l = l.self ≡ l.fn.self
