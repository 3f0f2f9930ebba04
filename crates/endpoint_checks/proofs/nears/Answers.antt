use Rattle.endpoint_checks.proofs.SessionEnding.{nears_refused}
use Rattle.endpoint_checks.proofs.nears.Goals as goal

pub returns : goal.returns
returns c = nears_refused
