use Rattle.startup.specs.Sought.{fits}
use Rattle.startup.proofs.Walked.{IsBestBelow}
use Rattle.startup.proofs.table.lowest_in.Given as goal

abbrev pub invariant-loop-slot : goal.invariant-loop-slot
invariant-loop-slot l = IsBestBelow (fits l.sought) l.rows l.slot l.best
