use Rattle.endpoint_checks.proofs.Stories.{forged_refused, forged_in_sessions_refused}
use Rattle.endpoint_checks.proofs.forged.Goals as goal

pub returns-clause-startup : goal.returns-clause-startup
returns-clause-startup c = forged_refused

pub returns-clause-sessions : goal.returns-clause-sessions
returns-clause-sessions c = forged_in_sessions_refused
