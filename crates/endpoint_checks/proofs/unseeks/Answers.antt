use Rattle.endpoint_checks.proofs.Searched.{unseeks_refused}
use Rattle.endpoint_checks.proofs.unseeks.Goals as goal

pub returns : goal.returns
returns c = unseeks_refused
