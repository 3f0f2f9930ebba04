use Rattle.log_contexts.proofs.Standing.{one_stands}
use Rattle.log_contexts.proofs.laws.one_thing_stands.Goals as goal

pub returns : goal.returns
returns c = one_stands
