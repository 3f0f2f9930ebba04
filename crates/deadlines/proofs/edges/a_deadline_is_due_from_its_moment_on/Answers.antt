use Rattle.deadlines.proofs.Rows.{none_at_4, last_at_5}
use Rattle.deadlines.proofs.edges.a_deadline_is_due_from_its_moment_on.Goals as goal

pub returns-clause-before : goal.returns-clause-before
returns-clause-before c = none_at_4

pub returns-clause-at : goal.returns-clause-at
returns-clause-at c = last_at_5
