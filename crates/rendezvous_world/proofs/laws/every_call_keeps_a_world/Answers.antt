use Rattle.rendezvous_world.proofs.Calling.{called_is_world}
use Rattle.rendezvous_world.proofs.laws.every_call_keeps_a_world.Goals as goal

pub returns : goal.returns
returns c = called_is_world
