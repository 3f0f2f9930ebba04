use Rattle.endpoint_checks.proofs.Opening.{confirms_refused}
use Rattle.endpoint_checks.proofs.confirms.Goals as goal

pub returns : goal.returns
returns c = confirms_refused
