use Rattle.endpoint_checks.proofs.Stories.{stale_refused}
use Rattle.endpoint_checks.proofs.stale.Goals as goal

pub returns : goal.returns
returns c = stale_refused
