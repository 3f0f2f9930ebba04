use Rattle.rendezvous_world.specs.Deed.{deed_of}
use Rattle.rendezvous_world.proofs.Answered.{call_is}
use Rattle.rendezvous_world.proofs.world.World.take_step.Goals as goal

pub call-requires-clause-deed : goal.call-requires-clause-deed
call-requires-clause-deed c = call_is c.in-Call.end c.in-Call.call c.peer.result (deed_of c.args.step.now) c.in-Call.ensures c.peer.ensures
