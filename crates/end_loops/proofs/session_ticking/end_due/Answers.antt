use Rattle.std.proofs.Common.{rules, ◌≡◌, OnOk, sym, ap, ◌∙◌, subst}
use Rattle.std.specs.FinMap.{get}
use Rattle.session_core.specs.declared.stage.SessionDue.{SessionDue}
use Rattle.session_core.specs.declared.stage.SessionDue.TheVariants.{Over}
use Rattle.endpoint_model.specs.State.{Did, Done}
use Rattle.end_loops.specs.DueItems.{end_due_by}
use Rattle.end_loops.proofs.DueItems.{over_there}
use Rattle.end_loops.proofs.session_ticking.end_due.Goals as goal

pub returns-in-Over-clause-ok : goal.returns-in-Over-clause-ok
returns-in-Over-clause-ok c =
    let is : c.args.due ≡ Over = search rules in
    subst (λ (d : Did). OnOk c.finish_closing.result (Done d c.finish_closing.new.self c.args.out.now c.finish_closing.new.out))
    (sym (over_there c.args.end.now c.args.near (get c.args.end.now.sessions c.args.near) c.requires.there)
    ∙ ap (λ (d : SessionDue). end_due_by c.args.end.now c.args.near d (get c.args.end.now.sessions c.args.near)) (sym is)) c.finish_closing.ensures.ok

-- so that a wrong body is refused fast
pub returns-in-RepeatClose-clause-ok : goal.returns-in-RepeatClose-clause-ok
returns-in-RepeatClose-clause-ok c = search rules
