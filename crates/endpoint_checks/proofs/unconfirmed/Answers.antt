use Rattle.endpoint_checks.proofs.SessionEnding.{unconfirmed_refused}
use Rattle.endpoint_checks.proofs.unconfirmed.Goals as goal

pub returns : goal.returns
returns c = unconfirmed_refused
