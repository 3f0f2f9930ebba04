use Rattle.endpoint_checks.proofs.Ending.{cancels_refused}
use Rattle.endpoint_checks.proofs.cancels.Goals as goal

pub returns : goal.returns
returns c = cancels_refused
