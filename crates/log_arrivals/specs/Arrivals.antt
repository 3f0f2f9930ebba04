-- In which context the datagram of an event opens at an end that did this before the event.
use Rattle.std.specs.Prelude.{ℕ, ◌≡◌, List, Option, Some, None}
use Rattle.crypto_profile.specs.declared.keys.Context.{Context}
use Rattle.crypto_profile.specs.declared.keys.Context.TheVariants.{Startup}
use Rattle.packet_scramble.specs.Datagram.{sid_of}
use Rattle.glare_core.specs.declared.facts.Held.{Held}
use Rattle.endpoint_model.specs.Event.{Setup, ReceiveCall}
use Rattle.endpoint_laws.specs.Past.{Past}
use Rattle.endpoint_laws.specs.Contexts.{Secrets, StartupContextsOf, OpensFirst}
use Rattle.endpoint_laws.specs.Lawful.{OpensInSession}
use Rattle.log_arrivals.specs.declared.arrival.Arrival.{Arrival}
use Rattle.log_arrivals.specs.declared.arrival.Arrival.TheVariants.{Nowhere, Startup as InStartup, Session as InSession}

-- The datagram opens in the startup context of this generation, the first of its session ID's in
-- which it does, and has this plain packet.
pub record StartsAt (secrets : Secrets) (setup : Setup) (past : Past) (datagram : List ℕ)
    (generation : ℕ) (plain : List ℕ) : Type 0 where
  pub contexts : List Context
  pub named : StartupContextsOf secrets setup past (sid_of datagram) contexts
  pub opens : OpensFirst secrets contexts (sid_of datagram) datagram (Startup generation) plain

-- It opens in this thing, the session under its session ID, and has this plain packet.
pub record GoesOnAt (secrets : Secrets) (setup : Setup) (past : Past) (datagram : List ℕ)
    (thing : Held) (plain : List ℕ) : Type 0 where
  pub at : OpensInSession secrets setup past (sid_of datagram) thing datagram
  pub plain_is : at.plain ≡ plain

-- This is where the datagram opens: there and nowhere else, with this plain packet and no other.
pub record IsArrivalOf (secrets : Secrets) (setup : Setup) (past : Past) (datagram plain : List ℕ)
    (arrival : Arrival) : Type 0 where
  pub startup : (generation : ℕ) → arrival ≡ InStartup generation →
      StartsAt secrets setup past datagram generation plain
  pub starts : (generation : ℕ) (other : List ℕ) →
      StartsAt secrets setup past datagram generation other →
      (arrival ≡ InStartup generation) × (other ≡ plain)
  pub session : arrival ≡ InSession →
      (thing : Held) × GoesOnAt secrets setup past datagram thing plain
  pub goes_on : (near : ℕ) (thing : Held) (at : OpensInSession secrets setup past near thing datagram) →
      (arrival ≡ InSession) × (near ≡ sid_of datagram) × (at.plain ≡ plain)

-- the same of the datagram of a call, if it is given one
abbrev pub ArrivesIn : Secrets → Setup → Past → Option ReceiveCall → List ℕ → Arrival → Type 0
ArrivesIn secrets setup past None plain arrival = arrival ≡ Nowhere
ArrivesIn secrets setup past (Some r) plain arrival =
    IsArrivalOf secrets setup past r.datagram plain arrival
