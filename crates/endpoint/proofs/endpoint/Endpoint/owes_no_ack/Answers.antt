use Rattle.std.proofs.Common.{subst}
use Rattle.endpoint_model.specs.State.{State}
use Rattle.endpoint.specs.Holding.{NoneOwesAcks}
use Rattle.endpoint.proofs.HeldThere.{none_owed}
use Rattle.endpoint.proofs.endpoint.Endpoint.owes_no_ack.Goals as goal

pub returns : goal.returns
returns c = subst (λ (s : State). NoneOwesAcks s) c.self.view_is (none_owed c.no_ack_is_owed.ensures c.self.inside.end c.self.invariant)
