use Rattle.rendezvous_world.proofs.Dishonest.{every_forged_datagram_is_dishonest}
use Rattle.rendezvous_world.proofs.laws.every_forged_datagram_is_dishonest.Goals as goal

pub returns : goal.returns
returns c = every_forged_datagram_is_dishonest
