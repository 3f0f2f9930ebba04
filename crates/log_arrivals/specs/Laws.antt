-- The law of what is found of datagrams.
use Rattle.std.specs.Prelude.{ℕ, List, ◌≡◌, Option, Some}
use Rattle.endpoint_model.specs.Event.{Setup, ReceiveCall}
use Rattle.endpoint_laws.specs.Past.{Past, datagram_of}
use Rattle.endpoint_laws.specs.Contexts.{Secrets}
use Rattle.log_contexts.specs.Contexts.{OpensThere}
use Rattle.log_arrivals.specs.declared.arrived.Arrived.{Arrived}
use Rattle.log_arrivals.specs.declared.given.Given.{Given}
use Rattle.log_arrivals.specs.Arrivals.{ArrivesIn}
use Rattle.log_arrivals.specs.Calls.{IsArrivedIn, IsGivenIn}

pub record FoundTells : Type 0 where
  pub arrives : (secrets : Secrets) (setup : Setup) (past : Past) (call : Option ReceiveCall)
      (plain : List ℕ) (a : Arrived) → IsArrivedIn secrets setup past call plain a →
      ArrivesIn secrets setup past call plain a.arrival
  pub given : (secrets : Secrets) (setup : Setup) (past : Past) (call : Option ReceiveCall)
      (g : Given) → IsGivenIn secrets setup past call g → (datagram : List ℕ) ×
      (datagram_of call ≡ Some datagram) ×
      OpensThere secrets setup past g.near g.thing g.generation datagram g.count g.fits
