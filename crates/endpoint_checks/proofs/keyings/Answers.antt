use Rattle.endpoint_checks.proofs.Bearing.{keyings_refused}
use Rattle.endpoint_checks.proofs.keyings.Goals as goal

pub returns : goal.returns
returns c = keyings_refused
