use Rattle.endpoint_checks.proofs.Quarrels.{disagreed_refused}
use Rattle.endpoint_checks.proofs.disagreed.Goals as goal

pub returns : goal.returns
returns c = disagreed_refused
