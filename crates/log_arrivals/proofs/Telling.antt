-- What is found of the datagram of a call tells where it opens.
use Rattle.std.proofs.Common.{ℕ, ◌≡◌, List, Option, Some, None, refl, ap}
use Rattle.endpoint_model.specs.Event.{Setup, ReceiveCall}
use Rattle.endpoint_laws.specs.Past.{Past, datagram_of}
use Rattle.endpoint_laws.specs.Contexts.{Secrets}
use Rattle.log_contexts.specs.Contexts.{OpensThere}
use Rattle.log_arrivals.specs.declared.arrival.Arrival.{Arrival}
use Rattle.log_arrivals.specs.declared.arrived.Arrived.{Arrived}
use Rattle.log_arrivals.specs.declared.given.Given.{Given}
use Rattle.log_arrivals.specs.Arrivals.{ArrivesIn}
use Rattle.log_arrivals.specs.Calls.{IsArrivedIn, IsGivenIn}
use Rattle.log_arrivals.specs.Laws.{FoundTells}

abbrev where_of : Arrived → Arrival
where_of a = a.arrival

arrives : (secrets : Secrets) (setup : Setup) (past : Past) (call : Option ReceiveCall) (plain : List ℕ) (a : Arrived) → IsArrivedIn secrets setup past call plain a → ArrivesIn secrets setup past call plain a.arrival
arrives secrets setup past None plain a is = ap where_of is
arrives secrets setup past (Some r) plain a is = is.arrival

given : (secrets : Secrets) (setup : Setup) (past : Past) (call : Option ReceiveCall) (g : Given) → IsGivenIn secrets setup past call g →
    (datagram : List ℕ) × (datagram_of call ≡ Some datagram) × OpensThere secrets setup past g.near g.thing g.generation datagram g.count g.fits
given secrets setup past None g is = absurd is
given secrets setup past (Some r) g is = (r.datagram, refl, is)

pub it_tells : FoundTells
it_tells = record { arrives = arrives; given = given }
