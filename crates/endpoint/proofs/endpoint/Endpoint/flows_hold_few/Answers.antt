use Rattle.std.proofs.Common.{subst}
use Rattle.endpoint_model.specs.State.{State}
use Rattle.endpoint.specs.Holding.{AllFlowsAreWithin, AllFlowsHoldFew}
use Rattle.endpoint.proofs.HeldThere.{flows_within, flows_few}
use Rattle.endpoint.proofs.endpoint.Endpoint.flows_hold_few.Goals as goal

pub returns-clause-within : goal.returns-clause-within
returns-clause-within c = subst (λ (s : State). AllFlowsAreWithin s) c.self.view_is (flows_within c.flows_are_within.ensures c.self.inside.end c.self.invariant)

pub returns-clause-few : goal.returns-clause-few
returns-clause-few c = subst (λ (s : State). AllFlowsHoldFew s) c.self.view_is (flows_few c.flows_hold_few.ensures c.self.inside.end c.self.invariant)
