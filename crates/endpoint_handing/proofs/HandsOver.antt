-- Every history of ends hands over what was queued, where all that ends do with flows goes with
-- flows that do.
use Rattle.std.proofs.Common.{ℕ, List, [], ◌∷◌, ◌++◌, true, false, inl, inr, refl, sym, subst}
use Rattle.rtmfp_data_chunks.specs.HandsOver.{HandsOver, HandsOnce}
use Rattle.endpoint_model.specs.Event.{Setup, Event}
use Rattle.endpoint_model.specs.State.{State, fresh}
use Rattle.endpoint_model.specs.Log.{StandsFor}
use Rattle.endpoint_laws.specs.History.{Happened, History, log_of, TakesPart}
use Rattle.endpoint_laws.specs.Contexts.{Secrets}
use Rattle.flow_history.specs.Log.{Entry as Tell, queued_of, abandoned_of, handed_of}
use Rattle.flow_history.proofs.Entries.{history_hands_over, history_hands_once}
use Rattle.flow_history.proofs.Keeps.{tested}
use Rattle.flow_history.proofs.Orders.{has_an_order}
use Rattle.endpoint_handing.specs.Laws.{IsOfEnds, EveryHistoryHandsOver, EveryHistoryHandsOnce}
use Rattle.endpoint_handing.specs.Laws.{EveryFlowHasAnOrder, EveryMessageIsTold}
use Rattle.endpoint_handing.proofs.Kept.{End}
use Rattle.endpoint_handing.proofs.Owed.{FlowsHand}
use Rattle.endpoint_handing.proofs.Logs.{log_mine, log_beside, leads_before, takes_part}
use Rattle.endpoint_handing.proofs.Histories.{Given, given_less, Carried, carried}

-- ---- each end stands for its log, at each moment

abbrev SomeState : (ℕ → Setup) → History → ℕ → Type 0
SomeState ends history a = (s : State) × StandsFor (ends a) (log_of a history) s

state_at : (ends : ℕ → Setup) (history : History) (a : ℕ) → (TakesPart a history → SomeState ends history a) → SomeState ends history a
state_at ends history a stands = elim (takes_part a history) [
  | inl part ↦ stands part
  | inr none ↦ (fresh (ends a), subst (λ (l : List Event). StandsFor (ends a) l (fresh (ends a))) (sym none) refl)
]

state_before : (ends : ℕ → Setup) (x : Happened) (earlier : History) (a : ℕ) → SomeState ends (x ∷ earlier) a → SomeState ends earlier a
state_before ends x earlier a now = elim (tested x.who a) [
  | inl same ↦ subst (λ (b : ℕ). SomeState ends earlier b) same.0
      (let ours : SomeState ends (x ∷ earlier) x.who = subst (λ (b : ℕ). SomeState ends (x ∷ earlier) b) (sym same.0) now in
      let before = leads_before (log_of x.who earlier) x.event (fresh (ends x.who)) ours.0 (subst (λ (l : List Event). StandsFor (ends x.who) l ours.0) (log_mine x earlier) ours.1) in
      (before.middle, before.leads))
  | inr other ↦ (now.0, subst (λ (l : List Event). StandsFor (ends a) l now.0) (log_beside x earlier a other.1) now.1)
]

states_early : (ends : ℕ → Setup) (later early : History) → ((a : ℕ) → SomeState ends (later ++ early) a) → (a : ℕ) → SomeState ends early a
states_early ends [] early stand = stand
states_early ends (x ∷ later) early stand = states_early ends later early (λ a. state_before ends x (later ++ early) a (stand a))

-- ---- what is given

given_of : (secrets : Secrets) (ends : ℕ → Setup) (history : History) → IsOfEnds secrets ends history → Given secrets ends history
given_of secrets ends history of_ends = record {
  setup = of_ends.setup;
  calls = of_ends.calls;
  group = of_ends.group;
  honest = of_ends.honest;
  fresh = of_ends.fresh;
}

given_early : (secrets : Secrets) (ends : ℕ → Setup) (later early : History) → Given secrets ends (later ++ early) → Given secrets ends early
given_early secrets ends [] early given = given
given_early secrets ends (x ∷ later) early given = given_early secrets ends later early (given_less secrets ends x (later ++ early) given)

-- ---- the laws

module _ (owed : (e : End) → FlowsHand e) where
  module _ (secrets : Secrets) (ends : ℕ → Setup) (later early : History) (of_ends : IsOfEnds secrets ends (later ++ early)) where
    stand : (a : ℕ) → SomeState ends early a
    stand = states_early ends later early (λ a. state_at ends (later ++ early) a (of_ends.stands a))

    early_carried : Carried secrets ends early (λ a. (stand a).0)
    early_carried = carried secrets ends owed early (given_early secrets ends later early (given_of secrets ends (later ++ early) of_ends)) (λ a. (stand a).0) (λ a. (stand a).1)

  pub every_history_hands_over : EveryHistoryHandsOver
  every_history_hands_over secrets ends later early of_ends n order =
      let c = early_carried secrets ends later early of_ends in
      subst (λ (l : List Tell). HandsOver (queued_of n l) (abandoned_of n l) (handed_of n l)) c.log (history_hands_over [] c.flows c.lawful c.honest n (c.order false n order))

  pub every_flow_has_an_order : EveryFlowHasAnOrder
  every_flow_has_an_order secrets ends later early of_ends n =
      let c = early_carried secrets ends later early of_ends in
      elim (has_an_order c.flows c.lawful c.honest n) [ inl order ↦ inl (c.back false n order) | inr order ↦ inr (c.back true n order) ]

  pub every_message_is_told : EveryMessageIsTold
  every_message_is_told secrets ends later early of_ends = (early_carried secrets ends later early of_ends).named

  pub every_history_hands_once : EveryHistoryHandsOnce
  every_history_hands_once secrets ends later early of_ends n order =
      let c = early_carried secrets ends later early of_ends in
      subst (λ (l : List Tell). HandsOnce (queued_of n l) (handed_of n l)) c.log (history_hands_once [] c.flows c.lawful c.honest n (c.order true n order))
