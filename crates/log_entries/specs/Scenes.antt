-- What is known of an event while its entries are judged.
use Rattle.std.specs.Prelude.{ℕ, List, ◌≡◌, Option, Some, None}
use Rattle.crypto_profile.specs.Sealing.{number_of}
use Rattle.packet_scramble.specs.Datagram.{sid_of}
use Rattle.std.specs.Prelude.{drop}
use Rattle.endpoint_model.specs.Event.{Setup, Event, receive_in}
use Rattle.endpoint_model.specs.Views.{Sending}
use Rattle.endpoint_laws.specs.Past.{Past}
use Rattle.endpoint_laws.specs.Contexts.{Secrets}
use Rattle.log_values.specs.Events.{call_of}
use Rattle.log_packets.specs.Opening.{IsSealed}
use Rattle.log_arrivals.specs.Arrivals.{ArrivesIn}
use Rattle.log_facts.specs.Coming.{IsTaken}
use Rattle.log_births.specs.declared.party.Way.{Way}
use Rattle.log_births.specs.Births.{IsPartyOf, IsWay}
use Rattle.log_events.specs.Underway.{IsUnderway}
use Rattle.log_events.specs.Watch.{IsWatchOf}
use Rattle.log_events.specs.declared.watch.EndWatch.{EndWatch}
use Rattle.log_entries.specs.declared.scene.Scene.{Scene}

-- It is the event, of an end that was given this and did this before it.
pub record IsSceneOf (secrets : Secrets) (setup : Setup) (now : ℕ) (e : Event) (before : Past)
    (s : Scene) : Type 0 where
  pub party_is : IsPartyOf setup s.party
  pub call_is : e.call ≡ call_of s.nonce.now s.call.now
  pub arrives : ArrivesIn secrets setup before (receive_in e.call) s.plain.now s.arrival
  pub takes : (past : Past) → IsUnderway secrets setup now e before past →
      IsTaken secrets setup past (receive_in e.call) s.took

-- The event is judged so far, and this is what is kept of its end; and what the birth is told that
-- may come next.
pub record IsHere (secrets : Secrets) (setup : Setup) (now : ℕ) (e : Event) (before past : Past)
    (w : EndWatch) (way : Option Way) : Type 0 where
  pub underway : IsUnderway secrets setup now e before past
  pub watch : IsWatchOf secrets setup now past w
  pub way_is : IsWay now past way

-- The plain packet is held of the datagram that goes out, if one does.
abbrev pub HoldsSent : Secrets → Option Sending → List ℕ → Type 0
HoldsSent secrets None plain = Unit {0}
HoldsSent secrets (Some sent) plain = IsSealed secrets sent.context sent.datagram
    (sid_of sent.datagram) (number_of (drop 4 sent.datagram)) plain
