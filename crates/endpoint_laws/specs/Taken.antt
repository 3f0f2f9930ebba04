-- The datagrams that a session took.
use Rattle.std.specs.Prelude.{ℕ, ◌≡◌, ◌≢◌, ◌+◌, ◌<◌, ◌⊎◌, List, [], ◌∷◌, drop, Option, Some, None}
use Rattle.crypto_profile.specs.declared.keys.Context.{Context}
use Rattle.rtmfp_packet.specs.declared.head.Mode.{Mode}
use Rattle.rtmfp_packet.specs.declared.head.Mode.TheVariants.{Initiator as FromInitiator, Responder as FromResponder, Startup as FromStartup}
use Rattle.rtmfp_packet.specs.Whole.{Whole}
use Rattle.rtmfp_packet.specs.Walk.{Placed}
use Rattle.rtmfp_chunks.specs.Chunk.{Chunk, Spells}
use Rattle.glare_core.specs.declared.facts.Held.{Held}
use Rattle.glare_core.specs.declared.facts.Held.TheVariants.{Opening, HalfOpen, KeptAsResponder, KeptAsInitiator}
use Rattle.session_core.specs.Hearing.{count_of}
use Rattle.endpoint_model.specs.Event.{Setup, ReceiveCall}
use Rattle.endpoint_model.specs.Keying.{IsAmong, chunks_of}
use Rattle.endpoint_laws.specs.Past.{Past, Taken, taken_since}
use Rattle.endpoint_laws.specs.Contexts.{Secrets, inward, OpensUnder, ReadsUnder, BegunUnder}

-- ---- which of them it took

-- the count of a session's packet, by its datagram
abbrev pub count_in : List ℕ → ℕ
count_in datagram = count_of (drop 4 datagram)

-- The count isn't 0, and of these none that opens in the context has it, or one that is 1,024 or
-- more above it.
abbrev pub IsNewAfter : Secrets → Context → ℕ → ℕ → List Taken → Type 0
IsNewAfter secrets context near count [] = count ≢ 0
IsNewAfter secrets context near count (t ∷ before) =
    ((plain : List ℕ) → OpensUnder secrets context near t.datagram plain →
    (count_in t.datagram ≢ count) × (count_in t.datagram < count + 1024)) ×
    IsNewAfter secrets context near count before

-- The datagram goes under the session ID and opens in this context, its number is new after these,
-- and it is a packet of this mode.
pub record PassesIn (secrets : Secrets) (context : Context) (mode : Mode) (near : ℕ)
    (before : List Taken) (datagram : List ℕ) : Type 0 where
  pub packet : Whole
  pub reads : ReadsUnder secrets context near datagram packet
  pub number : IsNewAfter secrets context near (count_in datagram) before
  pub mode_is : packet.head.mode ≡ mode

-- It took one of these at this moment.
abbrev pub TookIn : Secrets → Context → Mode → ℕ → ℕ → List Taken → Type 0
TookIn secrets context mode near moment [] = ⊥
TookIn secrets context mode near moment (t ∷ before) =
    (PassesIn secrets context mode near before t.datagram × (t.moment ≡ moment)) ⊎
    TookIn secrets context mode near moment before

-- the mode of the packets that a session takes
abbrev pub inward_mode : Held → Mode
inward_mode (Opening n near ni) = FromStartup
inward_mode (HalfOpen j) = FromInitiator
inward_mode (KeptAsResponder j) = FromInitiator
inward_mode (KeptAsInitiator j) = FromResponder

-- A session of this end, which is this thing under this session ID and began in this generation,
-- took the datagram after these.
abbrev pub Passes : Secrets → Setup → ℕ → Held → ℕ → List Taken → List ℕ → Type 0
Passes secrets setup generation thing near before datagram =
    PassesIn secrets (inward setup generation thing) (inward_mode thing) near before datagram

abbrev pub TookAt : Secrets → Setup → ℕ → Held → ℕ → ℕ → List Taken → Type 0
TookAt secrets setup generation thing near moment taken =
    TookIn secrets (inward setup generation thing) (inward_mode thing) near moment taken

-- ---- the datagram of a call

-- The session takes the datagram of this call, and among its chunks is this one.
pub record TakesChunkOf (secrets : Secrets) (setup : Setup) (past : Past) (thing : Held) (near : ℕ)
    (r : ReceiveCall) (chunk : Chunk) : Type 0 where
  pub moment : ℕ
  pub before : List Taken
  pub last : taken_since near past ≡ record { moment = moment; datagram = r.datagram } ∷ before
  pub generation : ℕ
  pub begun : BegunUnder secrets setup thing generation past
  pub passes : Passes secrets setup generation thing near before r.datagram
  pub placed : Placed
  pub among : IsAmong placed (chunks_of passes.packet)
  pub spells : Spells chunk placed.kind placed.payload

abbrev pub TakesChunkIn : Secrets → Setup → Past → Held → ℕ → Option ReceiveCall → Chunk → Type 0
TakesChunkIn secrets setup past thing near None chunk = ⊥
TakesChunkIn secrets setup past thing near (Some r) chunk =
    TakesChunkOf secrets setup past thing near r chunk
