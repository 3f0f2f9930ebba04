use Rattle.endpoint_checks.proofs.Ending.{ways_refused}
use Rattle.endpoint_checks.proofs.ways.Goals as goal

pub returns : goal.returns
returns c = ways_refused
