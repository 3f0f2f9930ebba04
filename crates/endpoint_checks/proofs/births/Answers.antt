use Rattle.endpoint_checks.proofs.Bearing.{births_refused}
use Rattle.endpoint_checks.proofs.births.Goals as goal

pub returns : goal.returns
returns c = births_refused
