use Rattle.log_verdict.proofs.Rows.{learn_fails, later_fails}
use Rattle.log_verdict.proofs.edges.an_event_is_judged_as_a_whole_first.Goals as goal

pub returns-clause-secret : goal.returns-clause-secret
returns-clause-secret c = learn_fails

pub returns-clause-later : goal.returns-clause-later
returns-clause-later c = later_fails
