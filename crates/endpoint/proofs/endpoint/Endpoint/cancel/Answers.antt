use Rattle.endpoint.proofs.Extending.{cancelled, cancel_stands, seen}
use Rattle.endpoint.proofs.Reaching.{reached_more}
use Rattle.endpoint.proofs.endpoint.Endpoint.cancel.Goals as goal

pub returns-clause-stands : goal.returns-clause-stands
returns-clause-stands c =
    seen _ _ _ _ c.self.view_is (
    cancel_stands c.self.inside.end c.give_up.new.end c.args.n c.give_up.result c.args.out.now c.give_up.new.out
    (cancelled c.self.inside.end c.give_up.new.end 0 c.args.n c.give_up.result c.args.out.now c.give_up.new.out
    c.give_up.ensures.ok c.give_up.ensures.refused c.give_up.ensures.memory c.give_up.ensures.err))

pub invariant_of-self : goal.invariant_of-self
invariant_of-self c =
    reached_more c.self.inside.end c.give_up.new.end _ c.self.invariant (
    cancel_stands c.self.inside.end c.give_up.new.end c.args.n c.give_up.result c.args.out.now c.give_up.new.out
    (cancelled c.self.inside.end c.give_up.new.end 0 c.args.n c.give_up.result c.args.out.now c.give_up.new.out
    c.give_up.ensures.ok c.give_up.ensures.refused c.give_up.ensures.memory c.give_up.ensures.err))
    tt
