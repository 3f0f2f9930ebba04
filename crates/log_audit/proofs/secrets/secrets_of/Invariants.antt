use Rattle.std.proofs.Common.{length}
use Rattle.log_audit.proofs.Learning.{AreLearnt}
use Rattle.log_audit.proofs.secrets.secrets_of.Given as goal

abbrev pub invariant-loop-rest : goal.invariant-loop-rest
invariant-loop-rest l = AreLearnt l.logs l.order l.rest l.seen.items l.secrets

abbrev pub decreases-loop-rest : goal.decreases-loop-rest
decreases-loop-rest l = length l.rest
