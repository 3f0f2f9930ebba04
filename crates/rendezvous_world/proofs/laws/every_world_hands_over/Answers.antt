use Rattle.rendezvous_world.proofs.Handing.{hands_over}
use Rattle.rendezvous_world.proofs.laws.every_world_hands_over.Goals as goal

pub returns : goal.returns
returns c = hands_over
