-- What is found of a datagram that an end is given.
use Rattle.std.specs.Prelude.{ℕ, List, ◌≡◌, Bool, true, Option, Some, Ok}
use Rattle.crypto_profile.specs.declared.keys.Context.{Context}
use Rattle.packet_scramble.specs.Datagram.{sid_of}
use Rattle.rtmfp_packet.specs.declared.head.Mode.{Mode}
use Rattle.rtmfp_packet.specs.Whole.{Whole}
use Rattle.rtmfp_packet.specs.Reading.{PacketReading}
use Rattle.endpoint_model.specs.Event.{Setup}
use Rattle.endpoint_laws.specs.Past.{Past}
use Rattle.endpoint_laws.specs.Contexts.{Secrets, ContextsOf, OpensFirst}
use Rattle.log_packets.specs.Opening.{sid_in}
use Rattle.log_contexts.specs.Contexts.{OpensThere}
use Rattle.log_contexts.specs.declared.taking.Taking.{Taking}
use Rattle.log_contexts.specs.Taking.{IsTakingOf}
use Rattle.log_arrivals.specs.declared.arrived.Arrived.{Arrived}
use Rattle.log_arrivals.specs.declared.given.Given.{Given}
use Rattle.log_arrivals.specs.Arrivals.{IsArrivalOf}
use Rattle.log_arrivals.specs.Contexts.{arrival_of}

-- It is how an end that did this takes the datagram, if that is long enough to have a session ID.
abbrev pub IsTakingFor : Secrets → Setup → Past → List ℕ → Taking → Type 0
IsTakingFor secrets setup past datagram taking = (sid : ℕ) → sid_in datagram ≡ Some sid →
    IsTakingOf secrets setup past sid taking

-- This is the context in which it opens, the first one of its session ID in which it does, if it
-- opens at all.
pub record IsContextOf (secrets : Secrets) (setup : Setup) (past : Past) (datagram : List ℕ)
    (found : Option Context) : Type 0 where
  pub there : (contexts : List Context) (context : Context) (plain : List ℕ) →
      ContextsOf secrets setup past (sid_of datagram) contexts →
      OpensFirst secrets contexts (sid_of datagram) datagram context plain →
      found ≡ Some context
  pub is : (context : Context) → found ≡ Some context → (contexts : List Context) ×
      (plain : List ℕ) × ContextsOf secrets setup past (sid_of datagram) contexts ×
      OpensFirst secrets contexts (sid_of datagram) datagram context plain

-- It is what there is to find of the datagram, at an end that did this: where it opens, with this
-- plain packet, in which context, and how the end takes it.
pub record IsArrived (secrets : Secrets) (setup : Setup) (past : Past) (datagram plain : List ℕ)
    (a : Arrived) : Type 0 where
  pub arrival : IsArrivalOf secrets setup past datagram plain a.arrival
  pub context : IsContextOf secrets setup past datagram a.context
  pub arrival_is : a.arrival ≡ arrival_of a.context
  pub taking : IsTakingFor secrets setup past datagram a.taking

-- The session in which it opens is given it so.
abbrev pub IsGiven : Secrets → Setup → Past → List ℕ → Given → Type 0
IsGiven secrets setup past datagram g =
    OpensThere secrets setup past g.near g.thing g.generation datagram g.count g.fits

-- Whether this plain packet reads as one with this mode.
pub record HasMode (plain : List ℕ) (mode : Mode) (fits : Bool) : Type 0 where
  pub yes : fits ≡ true → (packet : Whole) × PacketReading plain (Ok packet) ×
      (packet.head.mode ≡ mode)
  pub no : (packet : Whole) → PacketReading plain (Ok packet) → packet.head.mode ≡ mode →
      fits ≡ true
