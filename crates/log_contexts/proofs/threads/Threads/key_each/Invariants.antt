use Rattle.std.proofs.Common.{length}
use Rattle.log_contexts.proofs.Rest.{AreLeft}
use Rattle.log_contexts.proofs.threads.Threads.key_each.Given as goal

abbrev pub invariant-loop-rest : goal.invariant-loop-rest
invariant-loop-rest l = AreLeft l.generation l.fn.nears l.fn.self.table l.rest l.self

abbrev pub decreases-loop-rest : goal.decreases-loop-rest
decreases-loop-rest l = length l.rest
