use Rattle.deadlines.proofs.Rows.{last_at_5, first_at_6}
use Rattle.deadlines.proofs.edges.the_lowest_near_id_comes_first.Goals as goal

pub returns-clause-one : goal.returns-clause-one
returns-clause-one c = last_at_5

pub returns-clause-both : goal.returns-clause-both
returns-clause-both c = first_at_6
