use Rattle.endpoint_checks.proofs.Generations.{answers_in_others_refused}
use Rattle.endpoint_checks.proofs.answers_in_others.Goals as goal

pub returns : goal.returns
returns c = answers_in_others_refused
