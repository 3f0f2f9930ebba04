-- A flow that a call opens has in the history the order that its metadata tell.
use Rattle.std.proofs.Common.{◌≡◌, ℕ, ◌==◌, cond, List, [], ◌∷◌, length, Bool, true, false}
use Rattle.std.proofs.Common.{Option, Some, None, refl, sym, ap, subst, ◌∙◌}
use Rattle.std.specs.Option.{option_map}
use Rattle.std.specs.FinMap.{get}
use Rattle.rtmfp_base.proofs.Maps.{get_inserted}
use Rattle.flow_send.specs.Flow.{Flow}
use Rattle.glare_core.specs.declared.facts.Fact.{Fact}
use Rattle.session_flows.specs.Told.{begins_with_a}
use Rattle.session_flows.specs.Calling.{new_flow, opening}
use Rattle.endpoint_model.specs.declared.row.Row.{Row}
use Rattle.endpoint_model.specs.declared.entry.Entry.{Entry}
use Rattle.endpoint_model.specs.declared.entry.Entry.TheVariants.{FlowOpened}
use Rattle.endpoint_model.specs.Event.{OnFlows, Answer, Began, Searching, Done, Succeeds, NotOpened, NotSought, Refused, NotAdded}
use Rattle.endpoint_model.specs.Event.{Stopped, OutOfMemory}
use Rattle.endpoint_model.specs.FlowCall.{FlowCall, OpenFlow}
use Rattle.endpoint_model.specs.State.{State, with_row, Does as DoesSo}
use Rattle.endpoint_model.specs.InSessions.{held_row}
use Rattle.endpoint_model.specs.OnFlows.{call_refusal_by, flow_called_by}
use Rattle.endpoint_model.specs.Log.{Answers}
use Rattle.flow_history.specs.Flow.{Opened, Touch, BySender, ByReceiver, Goes, Beside}
use Rattle.flow_history.specs.Flow.{SendingBegins, SendingEnds, Opens, Acts}
use Rattle.flow_history.specs.Flow.{Step, Steps, sending_after, sending_at}
use Rattle.flow_history.specs.Run.{OpensAs, IsOrdered}
use Rattle.flow_history.specs.Deeds.{Name, name, History, steps_of}
use Rattle.flow_history.specs.Log.{HasOrder}
use Rattle.session_deeds.specs.Shows.{opened_of}
use Rattle.session_deeds.proofs.Lists.{push_there}
use Rattle.endpoint_handing.specs.Told.{sending_context}
use Rattle.endpoint_handing.proofs.Kept.{End, away, RowKept, StateKept}

-- ---- an open flow has the order in which it was opened

after_is : (kept : Option (Option Opened)) (t : Touch) (k : Opened) (b : Bool) → OpensAs b t → ((j : Opened) → kept ≡ Some (Some j) → j.arriving ≡ b) → sending_after kept t ≡ Some (Some k) → k.arriving ≡ b
after_is kept (BySender SendingBegins) k b opens was e = absurd cc
after_is kept (BySender SendingEnds) k b opens was e = absurd cc
after_is None (BySender (Opens a)) k b opens was e = absurd cc
after_is (Some None) (BySender (Opens a)) k b opens was e = let is : a ≡ k.arriving = cc in sym is ∙ opens
after_is (Some (Some j)) (BySender (Opens a)) k b opens was e = was k e
after_is None (BySender (Acts act)) k b opens was e = absurd cc
after_is (Some None) (BySender (Acts act)) k b opens was e = absurd cc
after_is (Some (Some j)) (BySender (Acts act)) k b opens was e = let is : j.arriving ≡ k.arriving = cc in sym is ∙ was j refl
after_is kept (ByReceiver t) k b opens was e = was k e
after_is kept (Goes chunks acks) k b opens was e = was k e
after_is kept Beside k b opens was e = was k e

step_is : (mine : Bool) (s : Step) (kept : Option (Option Opened)) (k : Opened) (b : Bool) → OpensAs b s.touch → ((j : Opened) → kept ≡ Some (Some j) → j.arriving ≡ b) → cond mine (sending_after kept s.touch) kept ≡ Some (Some k) → k.arriving ≡ b
step_is true s kept k b opens was e = after_is kept s.touch k b opens was e
step_is false s kept k b opens was e = was k e

pub open_has_order : (steps : Steps) (who : ℕ) (k : Opened) (b : Bool) → IsOrdered b steps → sending_at steps who ≡ Some (Some k) → k.arriving ≡ b
open_has_order [] who k b order e = absurd cc
open_has_order (s ∷ earlier) who k b order e =
    step_is (s.who == who) s (sending_at earlier who) k b order.0 (λ j is. open_has_order earlier who j b order.1 is) e

-- ---- the call that opened it

module _ (e : End) (facts : List Fact) (s t : State) (h : History) (near priority : ℕ) (metadata : List ℕ) (answers : Option ℕ) (kept : StateKept e facts t h) where
  abbrev call : FlowCall
  call = OpenFlow priority metadata answers

  module _ (row : Row) (left : t ≡ with_row s near (record row { flows = (opening row.flows metadata answers priority).flows })) where
    abbrev new : Row
    new = record row { flows = (opening row.flows metadata answers priority).flows }

    there : get t.sessions near ≡ Some new
    there = ap (λ (u : State). get u.sessions near) left ∙ get_inserted s.sessions near new

    is_open : sending_at (steps_of (name (away row.session) (length row.flows.sending)) h) e.who ≡ Some (Some (opened_of (new_flow row.flows metadata answers priority)))
    is_open =
        let k : RowKept e facts near new h = kept.rows near new there in
        k.flows.sends (length row.flows.sending)
        ∙ ap (λ (o : Option Opened). Some o) (k.flows.shows.opened (length row.flows.sending)
        ∙ ap (λ (o : Option Flow). option_map opened_of o) (push_there row.flows.sending (new_flow row.flows metadata answers priority)))

    of_row : (n : Name) (b : Bool) (entries : List Entry) → entries ≡ FlowOpened near (length row.flows.sending) ∷ [] → entries ≡ FlowOpened near n.flow ∷ [] → sending_context e.own near facts ≡ Some n.context → HasOrder b n h → begins_with_a metadata ≡ b
    of_row n b entries are opened context order =
        let k : RowKept e facts near new h = kept.rows near new there in
        let one : FlowOpened near (length row.flows.sending) ∷ [] ≡ FlowOpened near n.flow ∷ [] = sym are ∙ opened in
        let flow : length row.flows.sending ≡ n.flow = cc in
        let both : Some (away row.session) ≡ Some n.context = sym k.named ∙ context in
        let at : away row.session ≡ n.context = cc in
        let named : name (away row.session) (length row.flows.sending) ≡ n = λ i. record { context = at i; flow = flow i } in
        open_has_order (steps_of n h) e.who (opened_of (new_flow row.flows metadata answers priority)) b order
        (subst (λ (m : Name). sending_at (steps_of m h) e.who ≡ Some (Some (opened_of (new_flow row.flows metadata answers priority)))) named is_open)

  by_row : (o : Option Row) → held_row s near ≡ o → call_refusal_by call o ≡ None → (n : Name) (b : Bool) (entries : List Entry) → DoesSo (flow_called_by s near call o) t [] entries →
      entries ≡ FlowOpened near n.flow ∷ [] → sending_context e.own near facts ≡ Some n.context → HasOrder b n h → begins_with_a metadata ≡ b
  by_row None is free n b entries does opened context order = absurd cc
  by_row (Some row) is free n b entries does opened context order = of_row row does.state n b entries does.entries opened context order

  pub opened_in_order : (answer : Answer) (n : Name) (b : Bool) (entries : List Entry) → Answers s (OnFlows near call) answer entries t → entries ≡ FlowOpened near n.flow ∷ [] → sending_context e.own near facts ≡ Some n.context →
      HasOrder b n h → begins_with_a metadata ≡ b
  opened_in_order Done n b entries does opened context order = by_row (held_row s near) refl does.0 n b entries does.1 opened context order
  opened_in_order (Refused refusal) n b entries does opened context order = absurd (let clash : [] ≡ FlowOpened near n.flow ∷ [] = sym does.1.entries ∙ opened in cc)
  opened_in_order (Began k) n b entries does opened context order = absurd does
  opened_in_order (Succeeds generation) n b entries does opened context order = absurd does
  opened_in_order (NotOpened refusal) n b entries does opened context order = absurd does
  opened_in_order (Searching id) n b entries does opened context order = absurd does
  opened_in_order (NotSought refusal) n b entries does opened context order = absurd does
  opened_in_order (NotAdded refusal) n b entries does opened context order = absurd does
  opened_in_order (Stopped stop) n b entries does opened context order = absurd does
  opened_in_order OutOfMemory n b entries does opened context order = absurd does
