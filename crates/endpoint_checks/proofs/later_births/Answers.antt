use Rattle.endpoint_checks.proofs.Bearing.{later_births_refused}
use Rattle.endpoint_checks.proofs.later_births.Goals as goal

pub returns : goal.returns
returns c = later_births_refused
