use Rattle.endpoint_checks.proofs.Closing.{closings_refused}
use Rattle.endpoint_checks.proofs.closings.Goals as goal

pub returns : goal.returns
returns c = closings_refused
