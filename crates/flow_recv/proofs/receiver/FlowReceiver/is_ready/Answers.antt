use Rattle.flow_recv.proofs.Searching.{all_open}
use Rattle.flow_recv.proofs.receiver.FlowReceiver.is_ready.Goals as goal

pub any_ready-requires-clause-open : goal.any_ready-requires-clause-open
any_ready-requires-clause-open c = let i = c.self.inside in all_open i.through i.above i.runs c.self.invariant.sound.alive
