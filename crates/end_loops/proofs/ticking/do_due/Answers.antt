use Rattle.std.proofs.Common.{◌≡◌, ◌<◌, None, rules, sym, ap, subst, ◌∙◌}
use Rattle.endpoint_model.specs.State.{State}
use Rattle.endpoint_model.specs.Effects.{first_due}
use Rattle.end_loops.specs.DueItems.{due_item}
use Rattle.end_loops.proofs.Ticks.{SomeDone, one_done}
use Rattle.end_loops.proofs.DueItems.{none_first, still_first}
use Rattle.end_loops.proofs.Falling.{things_due, tick_falls}
use Rattle.end_loops.proofs.ticking.do_due.Goals as goal

pub do_item-requires : goal.do_item-requires
do_item-requires c = ap due_item c.in-Some.ensures.same ∙ sym c.in-Some.ensures.item

pub loop-item-smaller : goal.loop-item-smaller
loop-item-smaller c =
    subst (λ (s : State). things_due c.do_item.new.end < things_due s) c.in-Some.ensures.same
    (tick_falls c.first_due.new.end c.do_item.new.end c.in-Some.item (ap due_item c.in-Some.ensures.same ∙ sym c.in-Some.ensures.item) c.in-Ok.ensures.falls c.in-Ok.ensures.ok.state)

pub loop-item-preserved : goal.loop-item-preserved
loop-item-preserved c =
    one_done c.args.end.now c.first_due.new.end c.do_item.new.end c.args.out.now c.loop-item.out c.do_item.new.out
    (subst (λ (s : State). SomeDone c.args.end.now s c.args.out.now c.loop-item.out) (sym c.in-Some.ensures.same) c.loop-item.invariant) c.in-Ok.ensures.ok

pub returns-clause-some : goal.returns-clause-some
returns-clause-some c =
    subst (λ (s : State). SomeDone c.args.end.now s c.args.out.now c.loop-item.out) (sym c.in_default.ensures.same) c.loop-item.invariant

pub returns-clause-all : goal.returns-clause-all
returns-clause-all c = subst (λ (s : State). first_due s ≡ None) (sym c.in_default.ensures.same) (none_first c.loop-item.end (sym c.in_default.ensures.item))

pub returns-in-Err-clause-left : goal.returns-in-Err-clause-left
returns-in-Err-clause-left c =
    still_first c.first_due.new.end c.do_item.new.end c.in-Some.item c.in-Err.ensures.err.state (ap due_item c.in-Some.ensures.same ∙ sym c.in-Some.ensures.item)

-- so that a wrong body is refused fast
pub returns-in-Err-clause-all : goal.returns-in-Err-clause-all
returns-in-Err-clause-all c = search rules
