use Rattle.endpoint_laws.proofs.Logged.{uses_within}
use Rattle.endpoint_laws.proofs.laws.uses_are_within.Goals as goal

pub returns : goal.returns
returns c = uses_within
