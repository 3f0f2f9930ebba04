use Rattle.deadlines.proofs.Below.{none_of_all}
use Rattle.deadlines.proofs.search.earliest_due.Goals as goal

pub returns-then-entries-moment-clause-none : goal.returns-then-entries-moment-clause-none
returns-then-entries-moment-clause-none c = none_of_all c.args.entries.now c.args.count c.args.moment c.requires.heap c.if-entries-moment.true
