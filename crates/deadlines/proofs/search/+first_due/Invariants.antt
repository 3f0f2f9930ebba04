use Rattle.std.proofs.Common.{◌-◌}
use Rattle.deadlines.proofs.search.+first_due.Given as goal

abbrev pub decreases-first_due : goal.decreases-first_due
decreases-first_due l = l.count - l.top
