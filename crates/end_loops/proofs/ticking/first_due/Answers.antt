use Rattle.std.proofs.Common.{rules, sym, ap, ◌∙◌}
use Rattle.startup.specs.Due.{due_sends}
use Rattle.endpoint_model.specs.State.{State}
use Rattle.end_loops.proofs.DueItems.{attempt_told, session_told}
use Rattle.end_loops.proofs.ticking.first_due.Goals as goal

pub returns-in-Some-clause-item : goal.returns-in-Some-clause-item
returns-in-Some-clause-item c = attempt_told c.args.end.now c.in-Some.sends (ap (λ (s : State). due_sends s.startup s.moment) (sym c.end.view_is) ∙ sym c.in-Some.ensures)

pub returns-in-None-clause-item : goal.returns-in-None-clause-item
returns-in-None-clause-item c =
    let told = session_told c.args.end.now (ap (λ (s : State). due_sends s.startup s.moment) (sym c.end.view_is) ∙ sym c.in-None.ensures) in
    search (rules, told)
