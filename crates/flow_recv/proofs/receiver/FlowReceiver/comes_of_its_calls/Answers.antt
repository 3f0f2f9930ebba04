use Rattle.std.proofs.Common.{subst}
use Rattle.flow_recv.specs.Receiver.{Receiver}
use Rattle.flow_recv.specs.Reached.{IsReached}
use Rattle.flow_recv.proofs.receiver.FlowReceiver.comes_of_its_calls.Goals as goal

pub returns : goal.returns
returns c = subst (λ (r : Receiver). IsReached r) c.self.view_is c.self.invariant.reached
