-- Whose keyings are in a datagram that goes out, by what is kept.
use Rattle.std.specs.Prelude.{ℕ, List, ◌≡◌, ◌==◌, ◌<◌, ◌^◌, Bool, true, false, ◌&&◌, Option, Some, None, Ok}
use Rattle.std.specs.FinMap.{get}
use Rattle.std.specs.Str.{bytes_eq}
use Rattle.crypto_profile.specs.declared.keys.Context.{Context}
use Rattle.crypto_profile.specs.declared.keys.Context.TheVariants.{Startup, Session}
use Rattle.glare_core.specs.declared.facts.Joined.{Joined}
use Rattle.rtmfp_packet.specs.declared.head.Mode.TheVariants.{Startup as StartupMode}
use Rattle.rtmfp_packet.specs.Whole.{Whole}
use Rattle.rtmfp_packet.specs.Walk.{Placed}
use Rattle.rtmfp_packet.specs.Reading.{PacketReading}
use Rattle.rtmfp_chunks.specs.Chunk.{IIKeying, RIKeying, Spells}
use Rattle.endpoint_model.specs.Keying.{IsAmong, chunks_of, responder_part}
use Rattle.log_values.specs.declared.log.LoggedCall.{LoggedCall}
use Rattle.log_values.specs.declared.log.LoggedCall.TheVariants.{Receive as ReceiveCall}
use Rattle.log_arrivals.specs.declared.arrival.Arrival.TheVariants.{Startup as InStartup}
use Rattle.log_contexts.specs.Kept.{generation_in, keying_at, tag_at}
use Rattle.log_contexts.specs.Lowest.{IsLowest}
use Rattle.log_packets.specs.Opening.{is_sid, sid_in}
use Rattle.log_packets.specs.Asked.{SomeChunk, IsHelloFrom, InitiatorFields, ResponderFields}
use Rattle.log_outs.specs.declared.sender.Sender.{Sender}
use Rattle.log_outs.specs.declared.sender.Cause.{Cause}
use Rattle.log_outs.specs.declared.attempts.Attempt.{Attempt}
use Rattle.log_outs.specs.Standing.{attempt_at, born_at}

-- ---- the hello of the event

-- whether the call gives a datagram under session ID 0
abbrev pub is_to_zero : LoggedCall → Bool
is_to_zero (ReceiveCall from datagram) = is_sid (sid_in datagram) 0
is_to_zero call = false

-- The event's datagram opened in startup of this generation under session ID 0.
pub record CameIn (why : Cause) (generation : ℕ) : Type 0 where
  pub at : why.arrival ≡ InStartup generation
  pub zero : is_to_zero why.call.now ≡ true

-- The packet is one of startup with a responder's hello that an attempt with this tag and this peer
-- takes.
pub record Welcomes (tag peer : List ℕ) (packet : Whole) : Type 0 where
  pub mode : packet.head.mode ≡ StartupMode
  pub hello : SomeChunk (IsHelloFrom tag peer) (chunks_of packet)

-- The bytes are such a packet.
pub record IsGreeting (tag peer plain : List ℕ) : Type 0 where
  pub packet : Whole
  pub reads : PacketReading plain (Ok packet)
  pub welcomes : Welcomes tag peer packet

-- The event's datagram has such a hello, and of all attempts and searches with the tag none has a
-- lower session ID than this one.
pub record TakesHello (s : Sender) (why : Cause) (near : ℕ) (tag peer : List ℕ) : Type 0 where
  pub hello : IsGreeting tag peer why.plain.now
  pub lowest : IsLowest s.contexts.now.threads s.digest.now tag near

abbrev pub TakesItsHello : Sender → Cause → ℕ → Option (List ℕ) → List ℕ → Type 0
TakesItsHello s why near None peer = ⊥
TakesItsHello s why near (Some tag) peer = TakesHello s why near tag peer

-- The event brings a hello in this generation that the attempt with this peer takes, which has this
-- tag.
pub record Greets (s : Sender) (why : Cause) (near : ℕ) (tag : Option (List ℕ)) (peer : List ℕ)
    (generation : ℕ) : Type 0 where
  pub came : CameIn why generation
  pub takes : TakesItsHello s why near tag peer

-- ---- the keying of an attempt

-- It goes out in the generation of the one before, or in that of the hello.
abbrev pub GoesIn : Sender → Cause → ℕ → Option ℕ → Option (List ℕ) → List ℕ → ℕ → Type 0
GoesIn s why near (Some went) tag peer generation = went ≡ generation
GoesIn s why near None tag peer generation = Greets s why near tag peer generation

-- whether its certificate is that of the end and its component that of the attempt
abbrev pub is_of_attempt : List ℕ → Attempt → InitiatorFields → Bool
is_of_attempt cert a k = bytes_eq k.cert cert && bytes_eq k.part a.part

-- It is the keying of this attempt, if there is one, and goes out as it may in startup of this
-- generation.
abbrev pub AttemptMay : Sender → Cause → ℕ → InitiatorFields → Option Attempt → Type 0
AttemptMay s why generation k None = ⊥
AttemptMay s why generation k (Some a) = (is_of_attempt s.cert.now a k ≡ true) ×
    GoesIn s why k.near (keying_at k.near s.contexts.now.threads)
    (tag_at k.near s.contexts.now.threads) a.peer generation

-- It is the keying of an attempt that is held, and goes out as it may.
abbrev pub InitiatorMay : Sender → Cause → Context → InitiatorFields → Type 0
InitiatorMay s why (Startup generation) k =
    AttemptMay s why generation k (attempt_at k.near s.digest.now)
InitiatorMay s why (Session generation ni nr fp_i fp_r sid_i sid_r to_responder) k = ⊥

-- ---- the keying of a session that was born here

abbrev pub is_of_birth : List ℕ → Option Joined → Option ℕ → Context → ℕ → List ℕ → Bool
is_of_birth own (Some j) (Some began) (Startup generation) sid part =
    (j.far == sid) && ((began == generation) && bytes_eq part (responder_part j.nr j.k own j.ni))
is_of_birth own j began context sid part = false

-- It is the keying of a session that was born here and is held, and goes out as it may.
abbrev pub responder_may : Sender → Context → ℕ → ResponderFields → Bool
responder_may s context sid k =
    is_of_birth s.own.now (born_at k.near s.digest.now)
    (generation_in (get s.contexts.now.sessions k.near)) context sid k.part

abbrev pub IsSmallBirth : Option Joined → Type 0
IsSmallBirth None = Unit {0}
IsSmallBirth (Some j) = j.far < 2 ^ 32

-- ---- chunks

abbrev pub fields_i : ℕ → List ℕ → List ℕ → List ℕ → List ℕ → InitiatorFields
fields_i near cookie cert part sign =
    record { near = near; cookie = cookie; cert = cert; part = part; sign = sign }

abbrev pub fields_r : ℕ → List ℕ → List ℕ → ResponderFields
fields_r near part sign = record { near = near; part = part; sign = sign }

-- If the chunk is an initiator's keying it may go out, and if it is a responder's.
abbrev pub InitiatorsMay : Sender → Cause → Context → Placed → Type 0
InitiatorsMay s why context c = (near : ℕ) (cookie cert part sign : List ℕ) →
    Spells (IIKeying near cookie cert part sign) c.kind c.payload →
    InitiatorMay s why context (fields_i near cookie cert part sign)

abbrev pub RespondersMay : Sender → Context → ℕ → Placed → Type 0
RespondersMay s context sid c = (near : ℕ) (part sign : List ℕ) →
    Spells (RIKeying near part sign) c.kind c.payload →
    responder_may s context sid (fields_r near part sign) ≡ true

pub record ChunkMay (s : Sender) (why : Cause) (context : Context) (sid : ℕ) (c : Placed) : Type 0
  where
    pub initiators : InitiatorsMay s why context c
    pub responders : RespondersMay s context sid c

-- each of these chunks is so
abbrev pub Each : (Placed → Type 0) → List Placed → Type 0
Each IsSo chunks = (c : Placed) → IsAmong c chunks → IsSo c
