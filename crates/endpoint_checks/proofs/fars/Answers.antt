use Rattle.endpoint_checks.proofs.SessionEnding.{fars_refused}
use Rattle.endpoint_checks.proofs.fars.Goals as goal

pub returns : goal.returns
returns c = fars_refused
