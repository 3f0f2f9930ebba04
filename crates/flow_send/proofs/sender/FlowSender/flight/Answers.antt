use Rattle.std.proofs.Common.{subst}
use Rattle.flow_send.specs.Flow.{Flow}
use Rattle.flow_send.specs.Steady.{IsBounded}
use Rattle.flow_send.proofs.Steadies.{bounded}
use Rattle.flow_send.proofs.sender.FlowSender.flight.Goals as goal

pub returns-clause-bounds : goal.returns-clause-bounds
returns-clause-bounds c = subst (λ (f : Flow). IsBounded f.sender) c.self.view_is (bounded _ c.self.invariant.0)
