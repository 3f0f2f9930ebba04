use Rattle.std.proofs.Common.{subst, arith}
use Rattle.std.proofs.lemmas.Bool.{ltb-false, ltb-true}
use Rattle.flow_send.specs.Deadlines.{Reach}
use Rattle.flow_send.proofs.Quiet.{none_before_lower}
use Rattle.flow_send.proofs.backlog.Backlog.is_past.Goals as goal

pub returns-clause-none : goal.returns-clause-none
returns-clause-none c = λ e.
    let i = c.self.inside in
    let reach : Reach i.soonest i.limited c.args.self.now = subst (Reach i.soonest i.limited) c.self.view_is c.self.invariant.2 in
    none_before_lower c.args.moment i.soonest c.args.self.now (ltb-false i.soonest c.args.moment e) reach.deadlines

pub returns-clause-start : goal.returns-clause-start
returns-clause-start c = λ e. let lt = ltb-true c.self.inside.soonest c.args.moment e in omega (arith, lt)
