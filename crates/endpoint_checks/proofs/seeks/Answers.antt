use Rattle.endpoint_checks.proofs.Searched.{seeks_refused}
use Rattle.endpoint_checks.proofs.seeks.Goals as goal

pub returns : goal.returns
returns c = seeks_refused
