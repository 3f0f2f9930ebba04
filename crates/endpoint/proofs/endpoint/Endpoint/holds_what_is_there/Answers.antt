use Rattle.std.proofs.Common.{subst}
use Rattle.endpoint.specs.Holding.{HoldsWhatIsThere}
use Rattle.endpoint.proofs.HeldThere.{held_there}
use Rattle.endpoint.proofs.endpoint.Endpoint.holds_what_is_there.Goals as goal

pub returns : goal.returns
returns c = subst HoldsWhatIsThere c.self.view_is (held_there c.state_of_the_log.ensures c.self.inside.end c.self.invariant)
