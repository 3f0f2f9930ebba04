-- What is found of the datagram of a call.
use Rattle.std.specs.Prelude.{ℕ, List, ◌≡◌, Option, Some, None}
use Rattle.endpoint_model.specs.Event.{Setup, ReceiveCall}
use Rattle.endpoint_laws.specs.Past.{Past}
use Rattle.endpoint_laws.specs.Contexts.{Secrets}
use Rattle.log_values.specs.declared.log.LoggedCall.{LoggedCall}
use Rattle.log_values.specs.declared.log.LoggedCall.TheVariants.{Receive}
use Rattle.log_contexts.specs.declared.taking.Taking.TheVariants.{Nothing}
use Rattle.log_arrivals.specs.declared.arrival.Arrival.TheVariants.{Nowhere}
use Rattle.log_arrivals.specs.declared.arrived.Arrived.{Arrived}
use Rattle.log_arrivals.specs.declared.given.Given.{Given}
use Rattle.log_arrivals.specs.Arrived.{IsArrived, IsGiven}

-- the datagram that a call is given, if it is given one
abbrev pub given_in : LoggedCall → Option (List ℕ)
given_in (Receive from datagram) = Some datagram
given_in call = None

-- what is found where no datagram is given
abbrev pub nowhere : Arrived
nowhere = record { arrival = Nowhere; context = None; taking = Nothing }

-- It is what there is to find of the datagram of the call, if there is one.
abbrev pub IsArrivedIn : Secrets → Setup → Past → Option ReceiveCall → List ℕ → Arrived → Type 0
IsArrivedIn secrets setup past None plain a = a ≡ nowhere
IsArrivedIn secrets setup past (Some r) plain a =
    IsArrived secrets setup past r.datagram plain a

-- The session in which it opens is given it so.
abbrev pub IsGivenIn : Secrets → Setup → Past → Option ReceiveCall → Given → Type 0
IsGivenIn secrets setup past None g = ⊥
IsGivenIn secrets setup past (Some r) g = IsGiven secrets setup past r.datagram g
