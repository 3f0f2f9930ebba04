use Rattle.endpoint_checks.proofs.Generations.{keyings_in_others_refused}
use Rattle.endpoint_checks.proofs.keyings_in_others.Goals as goal

pub returns : goal.returns
returns c = keyings_in_others_refused
