use Rattle.rendezvous_world.specs.Inside.{sent_of}
use Rattle.rendezvous_world.specs.Sent.{sent_in}
use Rattle.rendezvous_world.proofs.Fetching.{sent_known}
use Rattle.rendezvous_world.proofs.world.World.fetch_for.Goals as goal

pub is_forged-requires-clause-sent : goal.is_forged-requires-clause-sent
is_forged-requires-clause-sent c = sent_known (sent_in c.args.self.now.lines) c.args.number (sent_of c.in-Some.letter) c.in-Some.ensures.letter
