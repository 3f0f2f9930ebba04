use Rattle.std.proofs.Common.{rules, ap, ◌∙◌, subst}
use Rattle.endpoint_model.specs.State.{State, at_moment}
use Rattle.endpoint_model.specs.FlowTimes.{all_late}
use Rattle.end_loops.proofs.Ticks.{SomeDone}
use Rattle.endpoint.proofs.Extending.{ticked_as, tick_stands, seen}
use Rattle.endpoint.proofs.Reaching.{reached_more}
use Rattle.endpoint.proofs.endpoint.Endpoint.tick.Goals as goal

pub returns-clause-some : goal.returns-clause-some
returns-clause-some c = subst (λ (s : State). SomeDone s c.do_due.new.end c.args.out.now c.do_due.new.out) (c.lose_late.ensures ∙ ap (λ (s : State). all_late s) (c.advance.ensures ∙ ap (λ (s : State). at_moment s c.args.moment) c.self.view_is)) c.do_due.ensures.some

pub returns-clause-stands : goal.returns-clause-stands
returns-clause-stands c =
    seen _ _ _ _ c.self.view_is (
    tick_stands c.self.inside.end c.do_due.new.end c.args.moment c.args.draws.now c.do_due.result c.args.out.now c.do_due.new.out
    (ticked_as c.self.inside.end c.do_due.new.end c.args.moment c.args.draws.now c.do_due.result c.args.out.now c.do_due.new.out
    (subst (λ (s : State). SomeDone s c.do_due.new.end c.args.out.now c.do_due.new.out) (c.lose_late.ensures ∙ ap (λ (s : State). all_late s) c.advance.ensures) c.do_due.ensures.some) c.do_due.ensures.all c.do_due.ensures.left))

-- so that a wrong body is refused fast
pub returns-clause-left : goal.returns-clause-left
returns-clause-left c = search rules

pub invariant_of-self : goal.invariant_of-self
invariant_of-self c =
    reached_more c.self.inside.end c.do_due.new.end _ c.self.invariant (
    tick_stands c.self.inside.end c.do_due.new.end c.args.moment c.args.draws.now c.do_due.result c.args.out.now c.do_due.new.out
    (ticked_as c.self.inside.end c.do_due.new.end c.args.moment c.args.draws.now c.do_due.result c.args.out.now c.do_due.new.out
    (subst (λ (s : State). SomeDone s c.do_due.new.end c.args.out.now c.do_due.new.out) (c.lose_late.ensures ∙ ap (λ (s : State). all_late s) c.advance.ensures) c.do_due.ensures.some) c.do_due.ensures.all c.do_due.ensures.left))
    tt
