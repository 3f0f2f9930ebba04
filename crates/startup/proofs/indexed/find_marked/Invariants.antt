use Rattle.std.proofs.Common.{◌≤◌}
use Rattle.startup.specs.Sought.{fits}
use Rattle.startup.specs.Marks.{AreFrom}
use Rattle.startup.proofs.indexed.find_marked.Given as goal

abbrev pub invariant-loop-at : goal.invariant-loop-at
invariant-loop-at l = (l.start ≤ l.at) × AreFrom (fits l.sought) l.marks l.at l.word l.table.attempts
