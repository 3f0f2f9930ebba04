use Rattle.endpoint_checks.proofs.Generations.{learnts_refused}
use Rattle.endpoint_checks.proofs.learnts.Goals as goal

pub returns : goal.returns
returns c = learnts_refused
