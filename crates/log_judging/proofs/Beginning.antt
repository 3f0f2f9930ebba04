-- An event begins, and its entries are to be judged.
use Rattle.std.proofs.Common.{ℕ, ◌≡◌, List, Option, Some, None, Ok, IfSome, sym, subst}
use Rattle.rtmfp_packet.specs.Whole.{Whole}
use Rattle.rtmfp_packet.specs.Reading.{PacketReading}
use Rattle.endpoint_model.specs.Event.{Setup, Event, receive_in}
use Rattle.endpoint_laws.specs.Past.{Past, with_begun}
use Rattle.endpoint_laws.specs.Contexts.{Secrets}
use Rattle.log_values.specs.Events.{call_of}
use Rattle.log_digest.specs.Nonces.{NonceSet, AreNonces}
use Rattle.log_facts.specs.Coming.{IsPacketOf, IsRead}
use Rattle.log_arrivals.specs.declared.arrival.Arrival.{Arrival}
use Rattle.log_arrivals.specs.declared.arrival.Arrival.TheVariants.{Nowhere, Startup, Session}
use Rattle.log_arrivals.specs.Arrivals.{ArrivesIn}
use Rattle.log_births.specs.Births.{IsPartyOf}
use Rattle.log_births.proofs.Making.{none_before}
use Rattle.log_events.specs.Watch.{HasBegun}
use Rattle.log_events.specs.declared.watch.EndWatch.{EndWatch}
use Rattle.log_entries.specs.declared.scene.Scene.{Scene}
use Rattle.log_judging.specs.Entries.{IsGoingOn}

is_read : (arrival : Arrival) (plain : List ℕ) (packet : Option Whole) → IsPacketOf plain packet → IsRead arrival plain packet
is_read Nowhere plain packet is = tt
is_read (Startup generation) plain packet is = is
is_read Session plain packet is = is

packet_of : (plain : List ℕ) (packet : Option Whole) → IfSome packet (λ whole. PacketReading plain (Ok whole)) → (whole : Whole) → packet ≡ Some whole → PacketReading plain (Ok whole)
packet_of plain None reads whole e = absurd (let clash : None ≡ Some whole = e in cc)
packet_of plain (Some p) reads whole e = let same : p ≡ whole = cc in subst (λ (q : Whole). PacketReading plain (Ok q)) same reads

pub it_begins : (secrets : Secrets) (setup : Setup) (now : ℕ) (e : Event) (before : Past) (stated : List (List ℕ)) (s : Scene) (held : List ℕ) (read packet : Option Whole) (w : EndWatch) (n : NonceSet) →
    IsPartyOf setup s.party → e.call ≡ call_of s.nonce.now s.call.now → s.plain.now ≡ held → packet ≡ read → ArrivesIn secrets setup before (receive_in e.call) held s.arrival →
    HasBegun secrets setup now e before w s.took → IfSome read (λ whole. PacketReading held (Ok whole)) → ((whole : Whole) → PacketReading held (Ok whole) → read ≡ Some whole) → AreNonces stated n →
    IsGoingOn secrets setup now e before (with_begun now e before) stated s packet w None n
it_begins secrets setup now e before stated s held read packet w n party call plain same arrives begun reads only nonces = record {
  scene_is = record {
    party_is = party;
    call_is = call;
    arrives = subst (λ (bytes : List ℕ). ArrivesIn secrets setup before (receive_in e.call) bytes s.arrival) (sym plain) arrives;
    takes = begun.takes;
  };
  reads =
      subst (λ (bytes : List ℕ). IsRead s.arrival bytes packet) (sym plain)
      (subst (λ (whole : Option Whole). IsRead s.arrival held whole) (sym same) (is_read s.arrival held read (record { is = packet_of held read reads; only = only })));
  here = record { underway = begun.underway; watch = begun.watch; way_is = none_before now now e before };
  nonces_are = nonces;
}
