use Rattle.endpoint_checks.proofs.Opening.{openings_refused}
use Rattle.endpoint_checks.proofs.openings.Goals as goal

pub returns : goal.returns
returns c = openings_refused
