use Rattle.endpoint.proofs.Extending.{introduce_stands, seen}
use Rattle.endpoint.proofs.Reaching.{reached_more}
use Rattle.endpoint.proofs.endpoint.Endpoint.introduce.Goals as goal

pub returns-clause-stands : goal.returns-clause-stands
returns-clause-stands c =
    seen _ _ _ _ c.self.view_is (introduce_stands c.self.inside.end c.introduce.new.self c.introduce.ensures)

pub invariant_of-self : goal.invariant_of-self
invariant_of-self c =
    reached_more c.self.inside.end c.introduce.new.self _ c.self.invariant (introduce_stands c.self.inside.end c.introduce.new.self c.introduce.ensures)
    tt
