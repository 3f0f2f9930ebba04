use Rattle.std.proofs.Common.{length}
use Rattle.log_audit.proofs.Entering.{IsEntering}
use Rattle.log_audit.proofs.ends.enter_all.Given as goal

abbrev pub invariant-loop-rest : goal.invariant-loop-rest
invariant-loop-rest l = IsEntering l.secrets l.logs l.rest l.before l.prints l.ends.items

abbrev pub decreases-loop-rest : goal.decreases-loop-rest
decreases-loop-rest l = length l.rest
