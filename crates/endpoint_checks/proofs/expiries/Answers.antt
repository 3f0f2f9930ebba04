use Rattle.endpoint_checks.proofs.Ending.{expiries_refused}
use Rattle.endpoint_checks.proofs.expiries.Goals as goal

pub returns : goal.returns
returns c = expiries_refused
