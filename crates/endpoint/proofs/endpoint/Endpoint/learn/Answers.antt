use Rattle.endpoint.proofs.Extending.{learnt, learn_stands, seen}
use Rattle.endpoint.proofs.Reaching.{reached_more}
use Rattle.endpoint.proofs.endpoint.Endpoint.learn.Goals as goal

pub returns-clause-stands : goal.returns-clause-stands
returns-clause-stands c =
    seen _ _ _ _ c.self.view_is (
    learn_stands c.self.inside.end c.learn_next.new.end c.args.secret c.learn_next.result c.args.out.now c.learn_next.new.out
    (learnt c.self.inside.end c.learn_next.new.end 0 c.args.secret c.learn_next.result c.args.out.now c.learn_next.new.out
    c.learn_next.ensures.number c.learn_next.ensures.ok c.learn_next.ensures.refused c.learn_next.ensures.memory c.learn_next.ensures.err))

pub invariant_of-self : goal.invariant_of-self
invariant_of-self c =
    reached_more c.self.inside.end c.learn_next.new.end _ c.self.invariant (
    learn_stands c.self.inside.end c.learn_next.new.end c.args.secret c.learn_next.result c.args.out.now c.learn_next.new.out
    (learnt c.self.inside.end c.learn_next.new.end 0 c.args.secret c.learn_next.result c.args.out.now c.learn_next.new.out
    c.learn_next.ensures.number c.learn_next.ensures.ok c.learn_next.ensures.refused c.learn_next.ensures.memory c.learn_next.ensures.err))
    c.are_thirty_two.ensures
