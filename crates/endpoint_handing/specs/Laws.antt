-- The law of handing over, for ends that send each other datagrams.
use Rattle.std.specs.Prelude.{ℕ, ◌⊎◌, true, false, ◌++◌}
use Rattle.rtmfp_data_chunks.specs.HandsOver.{HandsOver, HandsOnce}
use Rattle.endpoint_model.specs.Event.{Setup}
use Rattle.endpoint_model.specs.State.{State}
use Rattle.endpoint_model.specs.Log.{StandsFor}
use Rattle.endpoint_laws.specs.Laws.{IsSetup, AreCalls}
use Rattle.endpoint_laws.specs.History.{History, log_of, TakesPart, IsHonest, IsFresh}
use Rattle.endpoint_laws.specs.Contexts.{Secrets}
use Rattle.endpoint_laws.specs.Agreed.{HaveOneMap}
use Rattle.flow_history.specs.Deeds.{Name}
use Rattle.flow_history.specs.Log.{queued_of, abandoned_of, handed_of}
use Rattle.endpoint_handing.specs.Told.{told, AllTold}
use Rattle.endpoint_handing.specs.Orders.{HasOrder}

-- The ends that take part are of one group, which has these secrets; each stands for its log in some
-- state; what opens was sent; and no nonce was drawn twice.
pub record IsOfEnds (secrets : Secrets) (ends : ℕ → Setup) (history : History) : Type 0 where
  pub setup : (who : ℕ) → TakesPart who history → IsSetup (ends who)
  pub calls : (who : ℕ) → AreCalls (log_of who history)
  pub group : HaveOneMap secrets ends history
  pub stands : (who : ℕ) → TakesPart who history → (s : State) ×
      StandsFor (ends who) (log_of who history) s
  pub honest : IsHonest secrets ends history
  pub fresh : IsFresh ends history

-- At each moment of such a history each flow in queueing order hands over what was queued on it:
-- whole, once, in the order of its numbers, and skipping only abandoned messages.
abbrev pub EveryHistoryHandsOver : Type 0
EveryHistoryHandsOver =
    (secrets : Secrets) (ends : ℕ → Setup) (later early : History) →
    IsOfEnds secrets ends (later ++ early) → (n : Name) →
    HasOrder false n ends early →
    HandsOver (queued_of n (told ends early)) (abandoned_of n (told ends early))
    (handed_of n (told ends early))

-- Each flow in arrival order hands over whole messages that were queued on it, and none twice.
abbrev pub EveryHistoryHandsOnce : Type 0
EveryHistoryHandsOnce =
    (secrets : Secrets) (ends : ℕ → Setup) (later early : History) →
    IsOfEnds secrets ends (later ++ early) → (n : Name) →
    HasOrder true n ends early →
    HandsOnce (queued_of n (told ends early)) (handed_of n (told ends early))

-- A flow is opened once at most, so it has one of the two orders.
abbrev pub EveryFlowHasAnOrder : Type 0
EveryFlowHasAnOrder =
    (secrets : Secrets) (ends : ℕ → Setup) (later early : History) →
    IsOfEnds secrets ends (later ++ early) → (n : Name) →
    HasOrder false n ends early ⊎ HasOrder true n ends early

-- Whatever an end states of a message is told of a flow.
abbrev pub EveryMessageIsTold : Type 0
EveryMessageIsTold =
    (secrets : Secrets) (ends : ℕ → Setup) (later early : History) →
    IsOfEnds secrets ends (later ++ early) → AllTold ends early
