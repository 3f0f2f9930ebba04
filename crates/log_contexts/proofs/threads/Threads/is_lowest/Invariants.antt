use Rattle.log_contexts.proofs.Walked.{NoneYet}
use Rattle.log_contexts.proofs.threads.Threads.is_lowest.Given as goal

abbrev pub invariant-loop-other : goal.invariant-loop-other
invariant-loop-other l = NoneYet l.digest l.near l.tag l.initial.other-iterator l.other-iterator
