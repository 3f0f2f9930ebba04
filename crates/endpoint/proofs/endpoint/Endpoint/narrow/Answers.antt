use Rattle.endpoint.proofs.Extending.{narrow_stands, seen}
use Rattle.endpoint.proofs.Reaching.{reached_more}
use Rattle.endpoint.proofs.endpoint.Endpoint.narrow.Goals as goal

pub returns-clause-stands : goal.returns-clause-stands
returns-clause-stands c =
    seen _ _ _ _ c.self.view_is (narrow_stands c.self.inside.end c.narrow.new.self c.args.limit c.narrow.ensures)

pub invariant_of-self : goal.invariant_of-self
invariant_of-self c =
    reached_more c.self.inside.end c.narrow.new.self _ c.self.invariant (narrow_stands c.self.inside.end c.narrow.new.self c.args.limit c.narrow.ensures)
    (c.requires.least, c.requires.most)
