use Rattle.endpoint_checks.proofs.SessionEnding.{idles_refused}
use Rattle.endpoint_checks.proofs.idles.Goals as goal

pub returns : goal.returns
returns c = idles_refused
