-- In which order the messages of a flow are handed over.
use Rattle.std.specs.Prelude.{ℕ, ◌≡◌, Bool, List, [], ◌∷◌, Option, Some}
use Rattle.glare_core.specs.declared.facts.Fact.{Fact}
use Rattle.session_flows.specs.Told.{begins_with_a}
use Rattle.endpoint_model.specs.declared.entry.Entry.TheVariants.{FlowOpened}
use Rattle.endpoint_model.specs.Event.{Setup, own_of, OnFlows, Event}
use Rattle.endpoint_model.specs.FlowCall.{OpenFlow}
use Rattle.endpoint_laws.specs.History.{History, facts_at}
use Rattle.flow_history.specs.Deeds.{Name}
use Rattle.endpoint_handing.specs.Told.{sending_context}

-- The event is a call that opens this flow with these metadata, at an end that stated these facts
-- before.
pub record OpensIt (n : Name) (own : List ℕ) (facts : List Fact) (e : Event) (metadata : List ℕ)
    : Type 0 where
  pub near : ℕ
  pub priority : ℕ
  pub answers : Option ℕ
  pub call : e.call ≡ OnFlows near (OpenFlow priority metadata answers)
  pub opened : e.entries ≡ FlowOpened near n.flow ∷ []
  pub context : sending_context own near facts ≡ Some n.context

-- Wherever the flow is opened, its metadata begin with the byte 97 ("a"), so that its messages are
-- handed over as they arrive; or nowhere, so that they are handed over in the order of their
-- numbers.
abbrev pub HasOrder : Bool → Name → (ℕ → Setup) → History → Type 0
HasOrder arriving n ends [] = Unit {0}
HasOrder arriving n ends (h ∷ earlier) =
    ((metadata : List ℕ) →
    OpensIt n (own_of (ends h.who)) (facts_at h.who earlier) h.event metadata →
    begins_with_a metadata ≡ arriving)
    × HasOrder arriving n ends earlier
