-- When a datagram that goes out meets its line of the table, by what is kept.
use Rattle.std.specs.Prelude.{ℕ, List, ◌≡◌, ◌==◌, true, Some, Ok}
use Rattle.std.specs.List.{list_any}
use Rattle.crypto_profile.specs.declared.keys.Context.{Context}
use Rattle.rtmfp_packet.specs.Whole.{Whole}
use Rattle.rtmfp_packet.specs.Reading.{PacketReading}
use Rattle.endpoint_model.specs.Event.{Setup, ReceiveCall, own_of, receive_in}
use Rattle.endpoint_model.specs.Keying.{chunks_of}
use Rattle.endpoint_laws.specs.Past.{Past, before_event, facts_of}
use Rattle.endpoint_laws.specs.Contexts.{Secrets, startup_contexts}
use Rattle.endpoint_laws.specs.Lawful.{nonces_of}
use Rattle.log_values.specs.Events.{call_of}
use Rattle.log_digest.specs.Digest.{IsDigestOf}
use Rattle.log_digest.specs.Nonces.{AreNonces}
use Rattle.log_digest.specs.Numbers.{AreNumbersOf}
use Rattle.log_contexts.specs.Contexts.{AreContextsOf}
use Rattle.log_arrivals.specs.Arrivals.{ArrivesIn}
use Rattle.log_packets.specs.Asked.{SomeChunk, IsKeyingWith}
use Rattle.log_outs.specs.declared.sender.Sender.{Sender}
use Rattle.log_outs.specs.declared.sender.Cause.{Cause}
use Rattle.log_outs.specs.Sessions.{ClosesOwn, is_in_session}
use Rattle.log_outs.specs.Numbers.{is_new}
use Rattle.log_outs.specs.Keyings.{ChunkMay, Each}

-- ---- what the caller tells

-- It is what is kept of an end that was given this and did this.
pub record IsSenderOf (secrets : Secrets) (setup : Setup) (past : Past) (s : Sender) : Type 0 where
  pub cert_is : setup.cert ≡ s.cert.now
  pub own_is : own_of setup ≡ s.own.now
  pub last : ℕ
  pub digest : IsDigestOf last past s.digest.now
  pub contexts : AreContextsOf secrets setup past s.contexts.now
  pub numbers : AreNumbersOf past s.numbers.now
  pub nonces : AreNonces (nonces_of (facts_of past)) s.nonces.now
  pub closing : ClosesOwn past

-- It is what is known of the event in which such an end did the last of it. Since the event began
-- its startup contexts stayed, if its call is given a datagram.
pub record IsCauseOf (secrets : Secrets) (setup : Setup) (past : Past) (nonce : List ℕ)
    (why : Cause) : Type 0 where
  pub arrives : ArrivesIn secrets setup (before_event past)
      (receive_in (call_of nonce why.call.now)) why.plain.now why.arrival
  pub stays : (r : ReceiveCall) → receive_in (call_of nonce why.call.now) ≡ Some r →
      startup_contexts setup past ≡ startup_contexts setup (before_event past)

-- ---- what is asked

-- The keyings of the packet that these bytes are may go out so, if they are one.
abbrev pub KeyingsMay : Sender → Cause → List ℕ → Context → ℕ → Type 0
KeyingsMay s why plain context sid = (packet : Whole) → PacketReading plain (Ok packet) →
    Each (ChunkMay s why context sid) (chunks_of packet)

-- A packet with this plain form may go out in this context, under this session ID and with this
-- number.
pub record MayGoOut (s : Sender) (why : Cause) (plain : List ℕ) (context : Context)
    (number : List ℕ) (sid : ℕ) : Type 0 where
  pub once : is_new s.numbers.now s.nonces.now context number ≡ true
  pub session : is_in_session s.own.now s.digest.now s.contexts.now context sid ≡ true
  pub keyings : KeyingsMay s why plain context sid

-- ---- the keyings that go out

-- They are the session IDs of the initiators' keyings of the packet that these bytes are, if they
-- are one.
pub record HoldsKeyings (plain ids : List ℕ) : Type 0 where
  pub there : (packet : Whole) → PacketReading plain (Ok packet) → (near : ℕ) →
      SomeChunk (IsKeyingWith near) (chunks_of packet) → list_any (λ id. id == near) ids ≡ true
  pub is : (near : ℕ) → list_any (λ id. id == near) ids ≡ true → (packet : Whole) ×
      PacketReading plain (Ok packet) × SomeChunk (IsKeyingWith near) (chunks_of packet)
