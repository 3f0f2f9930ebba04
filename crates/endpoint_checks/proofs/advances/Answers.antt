use Rattle.endpoint_checks.proofs.Generations.{advances_refused}
use Rattle.endpoint_checks.proofs.advances.Goals as goal

pub returns : goal.returns
returns c = advances_refused
