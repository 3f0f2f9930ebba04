use Rattle.rendezvous_world.proofs.Agreeing.{agreed}
use Rattle.rendezvous_world.proofs.laws.every_world_is_agreed.Goals as goal

pub returns : goal.returns
returns c = agreed
