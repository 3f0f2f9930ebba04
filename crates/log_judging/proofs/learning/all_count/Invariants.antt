use Rattle.std.proofs.Common.{length}
use Rattle.log_judging.proofs.Counting.{CountSoFar}
use Rattle.log_judging.proofs.learning.all_count.Given as goal

abbrev pub invariant-loop-rest : goal.invariant-loop-rest
invariant-loop-rest l = CountSoFar l.secrets l.secret l.entries l.rest

abbrev pub decreases-loop-rest : goal.decreases-loop-rest
decreases-loop-rest l = length l.rest
