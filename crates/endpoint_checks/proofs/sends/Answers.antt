use Rattle.endpoint_checks.proofs.Sending.{sends_refused}
use Rattle.endpoint_checks.proofs.sends.Goals as goal

pub returns : goal.returns
returns c = sends_refused
