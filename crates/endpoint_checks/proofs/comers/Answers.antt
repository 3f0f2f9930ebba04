use Rattle.endpoint_checks.proofs.Generations.{comers_refused}
use Rattle.endpoint_checks.proofs.comers.Goals as goal

pub returns : goal.returns
returns c = comers_refused
