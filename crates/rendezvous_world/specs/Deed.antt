-- What a step does: it adds an end, it sets the moment, it lets an end make a call, or it brings a
-- datagram to one. Steps are told apart here alone; what else is said of them goes by their deeds.
use Rattle.std.specs.Prelude.{ℕ, ◌||◌, nat_lt, Bool, true, false, List}
use Rattle.rtmfp_forms.specs.Address.{AddressParts}
use Rattle.endpoint_model.specs.FlowCall.{FlowCall, OpenFlow, Queue as QueueCall, Abandon as AbandonCall, Finish as FinishCall}
use Rattle.rendezvous_world.specs.declared.step.Step.{Step}
use Rattle.rendezvous_world.specs.declared.step.Step.TheVariants.{End, At, Introduce, Narrow, Redirect, Open, Seek, Unseek, Cancel, Close, Flow, Queue, Abandon, Finish, Learn, Advance, Deliver, Bent, Inject, Forge, Tick}

-- A call that an end makes; an open and a row name another end by its number. A learn is of the
-- secret of the generation after the current one.
pub data StepCall : Type 0 where
  Opens : (peer : ℕ) → (list : List AddressParts) → StepCall
  Seeks : (name : List ℕ) → (list : List AddressParts) → StepCall
  Unseeks : (near : ℕ) → StepCall
  Cancels : (n : ℕ) → StepCall
  Closes : (near : ℕ) → StepCall
  CallsFlows : (near : ℕ) → (call : FlowCall) → StepCall
  Introduces : StepCall
  Narrows : (limit : ℕ) → StepCall
  Redirects : (peer : ℕ) → (list : List AddressParts) → StepCall
  Learns : StepCall
  Advances : StepCall
  Ticks : StepCall

-- How a datagram is had: it was sent as this one, counted from 1; it was, and a bit of this byte is
-- turned; it is these bytes; or it is this plain packet, sealed by somebody who is no end.
pub data Source : Type 0 where
  Delivered : (number : ℕ) → Source
  Turned : (number : ℕ) → (place : ℕ) → Source
  Injected : (bytes : List ℕ) → Source
  Sealed : (plain : List ℕ) → Source

pub data Deed : Type 0 where
  NewEnd : (name : List ℕ) → (max_peers : ℕ) → (max_sessions : ℕ) → (cert : List ℕ) → Deed
  NewMoment : (moment : ℕ) → Deed
  Calls : (end : ℕ) → (call : StepCall) → Deed
  Brings : (end : ℕ) → (from : AddressParts) → (source : Source) → Deed

abbrev pub deed_of : Step → Deed
deed_of (End name max_peers max_sessions cert) = NewEnd name max_peers max_sessions cert
deed_of (At moment) = NewMoment moment
deed_of (Open end peer list) = Calls end (Opens peer list)
deed_of (Seek end name list) = Calls end (Seeks name list)
deed_of (Unseek end near) = Calls end (Unseeks near)
deed_of (Cancel end n) = Calls end (Cancels n)
deed_of (Close end near) = Calls end (Closes near)
deed_of (Flow end near priority metadata answers) =
    Calls end (CallsFlows near (OpenFlow priority metadata answers))
deed_of (Queue end near flow options message) =
    Calls end (CallsFlows near (QueueCall flow message options))
deed_of (Abandon end near flow seq) = Calls end (CallsFlows near (AbandonCall flow seq))
deed_of (Finish end near flow) = Calls end (CallsFlows near (FinishCall flow))
deed_of (Introduce end) = Calls end Introduces
deed_of (Narrow end limit) = Calls end (Narrows limit)
deed_of (Redirect end peer list) = Calls end (Redirects peer list)
deed_of (Learn end) = Calls end Learns
deed_of (Advance end) = Calls end Advances
deed_of (Deliver number end from) = Brings end from (Delivered number)
deed_of (Bent number place end from) = Brings end from (Turned number place)
deed_of (Inject end from bytes) = Brings end from (Injected bytes)
deed_of (Forge end from plain) = Brings end from (Sealed plain)
deed_of (Tick end) = Calls end Ticks

-- the end that it calls; of others it says nothing
abbrev pub end_of : Deed → ℕ
end_of (Calls end call) = end
end_of (Brings end from source) = end
end_of deed = 0

-- an end learns a secret
abbrev pub learns : Deed → Bool
learns (Calls end Learns) = true
learns deed = false

-- an end is narrowed to a limit that it can't have
abbrev pub narrows_beyond : Deed → Bool
narrows_beyond (Calls end (Narrows limit)) = nat_lt limit 96 || nat_lt 1164 limit
narrows_beyond deed = false

-- It calls an end.
abbrev pub IsCalling : Deed → Type 0
IsCalling (NewEnd name max_peers max_sessions cert) = ⊥
IsCalling (NewMoment moment) = ⊥
IsCalling deed = Unit {0}
