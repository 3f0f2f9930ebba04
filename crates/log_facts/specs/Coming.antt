-- What a checker knows of the datagram of an event.
use Rattle.std.specs.Prelude.{ℕ, List, ◌∷◌, ◌≡◌, true, false, Bool, Option, Some, None, Ok}
use Rattle.crypto_profile.specs.declared.keys.Context.TheVariants.{Startup}
use Rattle.packet_scramble.specs.Datagram.{sid_of}
use Rattle.rtmfp_packet.specs.Walk.{Placed}
use Rattle.rtmfp_packet.specs.Whole.{Whole}
use Rattle.rtmfp_packet.specs.Reading.{PacketReading}
use Rattle.rtmfp_chunks.specs.Chunk.{CloseAck}
use Rattle.glare_core.specs.declared.facts.Held.{Held}
use Rattle.glare_core.specs.Things.{IsSession}
use Rattle.endpoint_model.specs.Event.{Setup, Call, ReceiveCall, receive_in}
use Rattle.endpoint_laws.specs.Past.{Past, Taken, IsClosing, before_event, taken_since}
use Rattle.endpoint_laws.specs.Contexts.{Secrets, BegunUnder, OpensInStartup, ReadsUnder, StandsUnder, inward}
use Rattle.endpoint_laws.specs.Taken.{Passes, TakesChunkIn}
use Rattle.log_digest.specs.declared.spot.Spot.{Spot}
use Rattle.log_digest.specs.declared.spot.Spot.TheVariants.{Searching, Holding, Closing}
use Rattle.log_lines.specs.Decisions.{is_session}
use Rattle.log_packets.specs.Opening.{sid_in}
use Rattle.log_packets.specs.Asked.{IsHelloOf, SomeChunk, Tells}
use Rattle.log_arrivals.specs.declared.arrival.Arrival.{Arrival}
use Rattle.log_arrivals.specs.declared.arrival.Arrival.TheVariants.{Nowhere, Startup as InStartup, Session as InSession}
use Rattle.log_arrivals.specs.Arrivals.{ArrivesIn}

-- ---- where it opens, and how it reads

-- the session ID of the datagram, if the call is given one that is long enough to open
abbrev pub sid_under : Option ReceiveCall → Option ℕ
sid_under None = None
sid_under (Some r) = sid_in r.datagram

-- the generation of the startup context in which it opens, if it opens in one
abbrev pub startup_at : Arrival → Option ℕ
startup_at Nowhere = None
startup_at (InStartup generation) = Some generation
startup_at InSession = None

-- whether it opens in a session
abbrev pub is_in_session : Arrival → Bool
is_in_session Nowhere = false
is_in_session (InStartup generation) = false
is_in_session InSession = true

-- It is the packet as which these bytes are read, if they are read as one.
pub record IsPacketOf (plain : List ℕ) (packet : Option Whole) : Type 0 where
  pub is : (whole : Whole) → packet ≡ Some whole → PacketReading plain (Ok whole)
  pub only : (whole : Whole) → PacketReading plain (Ok whole) → packet ≡ Some whole

-- It is that of the datagram, where that opens.
abbrev pub IsRead : Arrival → List ℕ → Option Whole → Type 0
IsRead Nowhere plain packet = Unit {0}
IsRead (InStartup generation) plain packet = IsPacketOf plain packet
IsRead InSession plain packet = IsPacketOf plain packet

-- This is where the datagram of the event's call opens by what was done before the event, and the
-- packet that it is.
pub record Comes (secrets : Secrets) (setup : Setup) (past : Past) (received : Option ReceiveCall)
    (plain : List ℕ) (arrival : Arrival) (packet : Option Whole) : Type 0 where
  pub arrives : ArrivesIn secrets setup (before_event past) received plain arrival
  pub reads : IsRead arrival plain packet

-- ---- what an answer says

-- The call is given a datagram that opens in a startup context, by what was done before its event,
-- and goes under this session ID; and its packet is so under the secret of that context.
pub record IsSaidBy (secrets : Secrets) (setup : Setup) (past : Past) (r : ReceiveCall) (sid : ℕ)
    (IsSo : List ℕ → Whole → Type 0) : Type 0 where
  pub generation : ℕ
  pub opens : OpensInStartup secrets setup (before_event past) r.datagram generation
  pub packet : Whole
  pub reads : ReadsUnder secrets (Startup generation) sid r.datagram packet
  pub so : IsSo reads.opens.secret packet

abbrev pub IsSaid : Secrets → Setup → Past → Option ReceiveCall → ℕ →
    (List ℕ → Whole → Type 0) → Type 0
IsSaid secrets setup past None sid IsSo = ⊥
IsSaid secrets setup past (Some r) sid IsSo = IsSaidBy secrets setup past r sid IsSo

-- A search is this, and one of these chunks is a responder's hello of its name and of this peer.
abbrev pub IsSoughtBy : Spot → List ℕ → List ℕ → List Placed → Type 0
IsSoughtBy (Searching name tag drawn at) peer ni chunks =
    (drawn ≡ ni) × SomeChunk (IsHelloOf tag name peer) chunks
IsSoughtBy (Holding with_peer at) peer ni chunks = ⊥
IsSoughtBy (Closing thing at) peer ni chunks = ⊥

-- ---- what sessions take

-- whether a session is closing that stands so
abbrev pub is_closing : Option Spot → Bool
is_closing None = false
is_closing (Some (Searching name tag drawn at)) = false
is_closing (Some (Holding with_peer at)) = false
is_closing (Some (Closing thing at)) = is_session thing

-- This stood under the session ID before the event, and nothing else did.
pub record StoodAlone (past : Past) (near : ℕ) (thing : Held) : Type 0 where
  pub stands : StandsUnder (before_event past) near thing
  pub alone : (other : Held) → StandsUnder (before_event past) near other → other ≡ thing

-- The session takes the datagram of this call.
pub record TakesIt (secrets : Secrets) (setup : Setup) (past : Past) (thing : Held) (near : ℕ)
    (r : ReceiveCall) : Type 0 where
  pub moment : ℕ
  pub before : List Taken
  pub last : taken_since near past ≡ record { moment = moment; datagram = r.datagram } ∷ before
  pub generation : ℕ
  pub begun : BegunUnder secrets setup thing generation past
  pub passes : Passes secrets setup generation thing near before r.datagram

-- Before the event a session stood under the session ID that began in this generation, and took
-- datagrams in the same context: this one, as it was then.
pub record StoodBefore (secrets : Secrets) (setup : Setup) (past : Past) (thing : Held) (near : ℕ)
    (generation : ℕ) : Type 0 where
  pub was : Held
  pub stands : StandsUnder (before_event past) near was
  pub is_session : IsSession was
  pub begun : BegunUnder secrets setup was generation (before_event past)
  pub same : inward setup generation was ≡ inward setup generation thing

-- Whether this session takes it; then it stood there before the event.
pub record IsTakenBy (secrets : Secrets) (setup : Setup) (past : Past) (r : ReceiveCall)
    (thing : Held) (near : ℕ) (took : Bool) : Type 0 where
  pub tells : Tells (TakesIt secrets setup past thing near r) took
  pub stood : took ≡ true → (generation : ℕ) → BegunUnder secrets setup thing generation past →
      StoodBefore secrets setup past thing near generation

-- Whether the session that stands under the datagram's session ID takes it, if one does.
abbrev pub IsTaken : Secrets → Setup → Past → Option ReceiveCall → Bool → Type 0
IsTaken secrets setup past None took = Unit {0}
IsTaken secrets setup past (Some r) took = (thing : Held) →
    StandsUnder past (sid_of r.datagram) thing → IsSession thing →
    IsTakenBy secrets setup past r thing (sid_of r.datagram) took

-- The session under this session ID is closing, and the call takes a datagram in it that has the
-- answer to a close.
pub record IsClosedByAnswer (secrets : Secrets) (setup : Setup) (call : Call) (past : Past)
    (near : ℕ) : Type 0 where
  pub thing : Held
  pub at : ℕ
  pub closing : IsClosing near thing at past
  pub by : TakesChunkIn secrets setup past thing near (receive_in call) CloseAck
