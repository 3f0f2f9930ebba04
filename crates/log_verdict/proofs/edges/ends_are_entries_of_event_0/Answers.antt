use Rattle.log_verdict.proofs.Rows.{secret_fails, print_fails, both_fail, earlier_fails}
use Rattle.log_verdict.proofs.edges.ends_are_entries_of_event_0.Goals as goal

pub returns-clause-secret : goal.returns-clause-secret
returns-clause-secret c = secret_fails

pub returns-clause-print : goal.returns-clause-print
returns-clause-print c = print_fails

pub returns-clause-both : goal.returns-clause-both
returns-clause-both c = both_fail

pub returns-clause-earlier : goal.returns-clause-earlier
returns-clause-earlier c = earlier_fails
