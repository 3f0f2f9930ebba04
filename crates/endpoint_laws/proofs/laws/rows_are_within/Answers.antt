use Rattle.endpoint_laws.proofs.Logged.{rows_within}
use Rattle.endpoint_laws.proofs.laws.rows_are_within.Goals as goal

pub returns : goal.returns
returns c = rows_within
