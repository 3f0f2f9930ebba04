use Rattle.rendezvous_world.proofs.Sounds.{every_world_is_sound}
use Rattle.rendezvous_world.proofs.laws.every_world_is_sound.Goals as goal

pub returns : goal.returns
returns c = every_world_is_sound
