use Rattle.std.proofs.Common.{length}
use Rattle.log_audit.proofs.Judging.{IsJudging}
use Rattle.log_audit.proofs.auditing.judge_all.Given as goal

abbrev pub invariant-loop-rest : goal.invariant-loop-rest
invariant-loop-rest l = IsJudging l.secrets l.logs l.order l.rest l.number l.seen.items l.all l.ends.items

abbrev pub decreases-loop-rest : goal.decreases-loop-rest
decreases-loop-rest l = length l.rest
