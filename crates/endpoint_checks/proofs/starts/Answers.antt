use Rattle.endpoint_checks.proofs.Starting.{starts_refused}
use Rattle.endpoint_checks.proofs.starts.Goals as goal

pub returns : goal.returns
returns c = starts_refused
