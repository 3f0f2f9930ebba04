use Rattle.endpoint.proofs.Extending.{advanced, advance_stands, seen}
use Rattle.endpoint.proofs.Reaching.{reached_more}
use Rattle.endpoint.proofs.endpoint.Endpoint.advance.Goals as goal

pub returns-clause-stands : goal.returns-clause-stands
returns-clause-stands c =
    seen _ _ _ _ c.self.view_is (
    advance_stands c.self.inside.end c.advance_to_next.new.end c.advance_to_next.result c.args.out.now c.advance_to_next.new.out
    (advanced c.self.inside.end c.advance_to_next.new.end 0 c.advance_to_next.result c.args.out.now c.advance_to_next.new.out
    c.advance_to_next.ensures.number c.advance_to_next.ensures.ok c.advance_to_next.ensures.refused c.advance_to_next.ensures.memory c.advance_to_next.ensures.err))

pub invariant_of-self : goal.invariant_of-self
invariant_of-self c =
    reached_more c.self.inside.end c.advance_to_next.new.end _ c.self.invariant (
    advance_stands c.self.inside.end c.advance_to_next.new.end c.advance_to_next.result c.args.out.now c.advance_to_next.new.out
    (advanced c.self.inside.end c.advance_to_next.new.end 0 c.advance_to_next.result c.args.out.now c.advance_to_next.new.out
    c.advance_to_next.ensures.number c.advance_to_next.ensures.ok c.advance_to_next.ensures.refused c.advance_to_next.ensures.memory c.advance_to_next.ensures.err))
    tt
