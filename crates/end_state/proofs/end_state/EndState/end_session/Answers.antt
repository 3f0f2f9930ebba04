use Rattle.std.proofs.Common.{sym, ap, ◌∙◌}
use Rattle.std.specs.FinMap.{get}
use Rattle.glare_core.specs.declared.facts.Joined.{Joined}
use Rattle.startup.specs.State.{StartupState}
use Rattle.startup.specs.Attempts.{end_fact, after_end}
use Rattle.endpoint_model.specs.State.{State}
use Rattle.end_state.specs.Stored.{state_of}
use Rattle.end_state.proofs.Confirms.{own_after_end}
use Rattle.end_state.proofs.Endings.{told_gives, untold_gives}
use Rattle.end_state.proofs.end_state.EndState.end_session.Goals as goal

pub invariant_of-self : goal.invariant_of-self
invariant_of-self c =
    let i = c.self.inside in
    record {
      print_is = c.self.invariant.print_is ∙ own_after_end i.startup c.joined.result.now.peer (end_fact i.startup c.joined.result.now.peer c.args.why) ∙ ap (λ (s : StartupState). s.ledger.own) (sym c.end-fact.ensures.after);
      few = c.self.invariant.few;
    }

pub returns-in-Some : goal.returns-in-Some
returns-in-Some c =
    let i = c.self.inside in
    let peer = ap (λ (j : Joined). j.peer) c.joined.ensures in
    told_gives (state_of i.settings i.moment i.sealed i.limit i.groups i.startup i.sessions.rows) c.args.self.now c.args.near c.args.why c.in-Some.row.now c.end-fact.new.self c.end-fact.result c.fact_entry.result
    c.self.view_is (sym c.in-Some.ensures) (c.end-fact.ensures.after ∙ ap (λ p. after_end i.startup p c.args.why) peer) (c.end-fact.ensures.fact ∙ ap (λ p. end_fact i.startup p c.args.why) peer)
    c.fact_entry.ensures.entries c.fact_entry.ensures.short

pub returns-in-None : goal.returns-in-None
returns-in-None c =
    untold_gives c.args.self.now c.args.near c.args.why (ap (λ (s : State). get s.sessions c.args.near) (sym c.self.view_is) ∙ sym c.in-None.ensures)
