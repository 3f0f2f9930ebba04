use Rattle.endpoint_laws.proofs.Complete.{admissible_keyings_bear as bears}
use Rattle.endpoint_laws.proofs.laws.admissible_keyings_bear.Goals as goal

pub returns : goal.returns
returns c = bears
