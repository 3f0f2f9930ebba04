use Rattle.endpoint_checks.proofs.Sending.{sends_in_sessions_refused}
use Rattle.endpoint_checks.proofs.sends_in_sessions.Goals as goal

pub returns : goal.returns
returns c = sends_in_sessions_refused
