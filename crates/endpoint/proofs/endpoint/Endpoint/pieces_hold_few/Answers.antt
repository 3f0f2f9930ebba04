use Rattle.std.proofs.Common.{subst}
use Rattle.endpoint_model.specs.State.{State}
use Rattle.endpoint.specs.Holding.{AllPiecesHoldFew}
use Rattle.endpoint.proofs.HeldThere.{pieces_few}
use Rattle.endpoint.proofs.endpoint.Endpoint.pieces_hold_few.Goals as goal

pub returns : goal.returns
returns c = subst (λ (s : State). AllPiecesHoldFew s) c.self.view_is (pieces_few c.pieces_hold_few.ensures c.self.inside.end c.self.invariant)
