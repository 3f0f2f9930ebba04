use Rattle.std.proofs.Common.{◌≡◌, Some, Option, is_some, OnOk, sym, ap, ◌∙◌, subst}
use Rattle.startup.specs.declared.answer.Due.{Due}
use Rattle.endpoint_model.specs.declared.row.Row.{Row}
use Rattle.endpoint_model.specs.State.{Did, Done}
use Rattle.endpoint_model.specs.Effects.{attempt_item, item_done}
use Rattle.end_loops.specs.declared.ticking.DueItem.{DueItem}
use Rattle.end_loops.specs.declared.ticking.DueItem.TheVariants.{Attempt, Session}
use Rattle.end_loops.specs.DueItems.{ItemFalls}
use Rattle.end_loops.proofs.DueItems.{next_is, session_done, due_of_it, always}
use Rattle.end_loops.proofs.ticking.do_item.Goals as goal

pub attempt_due-requires : goal.attempt_due-requires
attempt_due-requires c = (next_is c.args.end.now (Attempt c.in-Attempt.sends) (c.requires ∙ ap (λ (i : DueItem). Some i) c.in-Attempt.is)).sends

pub session_due-requires-clause-there : goal.session_due-requires-clause-there
session_due-requires-clause-there c =
    ap (λ (o : Option Row). is_some o) (next_is c.args.end.now (Session c.in-Session.near c.in-Session.due) (c.requires ∙ ap (λ (i : DueItem). Some i) c.in-Session.is)).there

pub session_due-requires-clause-due : goal.session_due-requires-clause-due
session_due-requires-clause-due c =
    due_of_it c.args.end.now c.in-Session.near c.in-Session.due (next_is c.args.end.now (Session c.in-Session.near c.in-Session.due) (c.requires ∙ ap (λ (i : DueItem). Some i) c.in-Session.is))

pub returns-in-Attempt-clause-ok : goal.returns-in-Attempt-clause-ok
returns-in-Attempt-clause-ok c =
    let next = next_is c.args.end.now (Attempt c.in-Attempt.sends) (c.requires ∙ ap (λ (i : DueItem). Some i) c.in-Attempt.is) in
    subst (λ (d : Did). OnOk c.attempt_due.result (Done d c.attempt_due.new.end c.args.out.now c.attempt_due.new.out))
    (ap (λ (o : Option Due). item_done c.args.end.now (attempt_item o)) next.is ∙ next.once) c.attempt_due.ensures.ok

pub returns-in-Session-clause-ok : goal.returns-in-Session-clause-ok
returns-in-Session-clause-ok c =
    subst (λ (d : Did). OnOk c.session_due.result (Done d c.session_due.new.end c.args.out.now c.session_due.new.out))
    (session_done c.args.end.now c.in-Session.near c.in-Session.due (next_is c.args.end.now (Session c.in-Session.near c.in-Session.due) (c.requires ∙ ap (λ (i : DueItem). Some i) c.in-Session.is))) c.session_due.ensures.ok

pub returns-in-Session-clause-falls : goal.returns-in-Session-clause-falls
returns-in-Session-clause-falls c =
    let is : c.args.item ≡ Session c.in-Session.near c.in-Session.due = c.in-Session.is in
    subst (λ (i : DueItem). OnOk c.session_due.result (ItemFalls i c.args.end.now)) (sym is) c.session_due.ensures.falls

pub returns-in-Attempt-clause-falls : goal.returns-in-Attempt-clause-falls
returns-in-Attempt-clause-falls c =
    let is : c.args.item ≡ Attempt c.in-Attempt.sends = c.in-Attempt.is in
    subst (λ (i : DueItem). OnOk c.attempt_due.result (ItemFalls i c.args.end.now)) (sym is) (always c.attempt_due.result)
