use Rattle.end_loops.proofs.Ticks.{SomeDone}
use Rattle.end_loops.proofs.Falling.{things_due}
use Rattle.end_loops.proofs.ticking.do_due.Given as goal

abbrev pub invariant-loop-item : goal.invariant-loop-item
invariant-loop-item l = SomeDone l.fn.end l.end l.fn.out l.out

abbrev pub decreases-loop-item : goal.decreases-loop-item
decreases-loop-item l = things_due l.end
