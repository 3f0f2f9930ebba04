use Rattle.rendezvous_world.proofs.Keeping.{new_world}
use Rattle.rendezvous_world.proofs.Growing.{step_keeps}
use Rattle.rendezvous_world.proofs.laws.every_step_keeps_a_world.Goals as goal

pub returns : goal.returns
returns c = record { first = new_world; next = step_keeps }
