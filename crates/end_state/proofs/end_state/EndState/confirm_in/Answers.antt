use Rattle.std.proofs.Common.{refl, sym, ap, ◌∙◌}
use Rattle.std.specs.FinMap.{get}
use Rattle.glare_core.specs.declared.facts.Joined.{Joined}
use Rattle.startup.specs.State.{StartupState}
use Rattle.startup.specs.Attempts.{confirm_fact, after_confirm}
use Rattle.session_core.specs.Session.{confirmed}
use Rattle.session_table.specs.Table.{of_session, with_changed}
use Rattle.endpoint_model.specs.declared.row.Row.{Row}
use Rattle.endpoint_model.specs.State.{State}
use Rattle.end_state.specs.Stored.{state_of}
use Rattle.end_state.proofs.Confirms.{own_stays, confirmed_gives, unconfirmed_gives}
use Rattle.end_state.proofs.end_state.EndState.confirm_in.Goals as goal

pub invariant_of-self : goal.invariant_of-self
invariant_of-self c =
    let i = c.self.inside in
    record {
      print_is = c.self.invariant.print_is ∙ own_stays i.startup.ledger (confirm_fact i.startup c.joined.result.now.peer) ∙ ap (λ (s : StartupState). s.ledger.own) (sym c.confirm-fact.ensures.after);
      few = c.self.invariant.few;
    }

pub returns-in-Some : goal.returns-in-Some
returns-in-Some c =
    let i = c.self.inside in
    let row : Row = c.in-Some.row.now in
    let peer = ap (λ (j : Joined). j.peer) c.joined.ensures in
    confirmed_gives (state_of i.settings i.moment i.sealed i.limit i.groups i.startup i.sessions.rows) c.args.self.now c.args.near row (of_session confirmed row) c.confirm-fact.new.self c.confirm.new.self.rows c.confirm-fact.result c.fact_entry.result
    c.self.view_is (sym c.in-Some.ensures) c.requires refl (c.confirm.ensures ∙ ap (with_changed (of_session confirmed) i.sessions.rows c.args.near) (sym c.in-Some.ensures))
    (c.confirm-fact.ensures.after ∙ ap (after_confirm i.startup) peer) (c.confirm-fact.ensures.fact ∙ ap (confirm_fact i.startup) peer) c.fact_entry.ensures.entries c.fact_entry.ensures.short

pub returns-in-None : goal.returns-in-None
returns-in-None c =
    unconfirmed_gives c.args.self.now c.args.near (ap (λ (s : State). get s.sessions c.args.near) (sym c.self.view_is) ∙ sym c.in-None.ensures)
