-- Contexts of sessions and of session IDs, and when a datagram opens in one.
use Rattle.std.specs.Ordering.{nat_cmp}
use Rattle.std.specs.FinMap.{FinMap, get}
use Rattle.std.specs.Prelude.{ℕ, ◌≡◌, ◌≢◌, ◌⊎◌, List, [], ◌∷◌, drop, Bool, true, false, Some, Ok, Option, None}
use Rattle.crypto_profile.specs.declared.keys.Context.{Context}
use Rattle.crypto_profile.specs.declared.keys.Context.TheVariants.{Startup, Session}
use Rattle.crypto_profile.specs.Sealing.{Opens}
use Rattle.packet_scramble.specs.Datagram.{sid_of}
use Rattle.rtmfp_packet.specs.Whole.{Whole}
use Rattle.rtmfp_packet.specs.Reading.{PacketReading}
use Rattle.rtmfp_packet.specs.Walk.{Placed}
use Rattle.rtmfp_chunks.specs.Chunk.{IIKeying, Spells}
use Rattle.glare_core.specs.declared.facts.Fact.{Fact}
use Rattle.glare_core.specs.declared.facts.Fact.TheVariants.{Born, Opened}
use Rattle.glare_core.specs.declared.facts.Held.{Held}
use Rattle.glare_core.specs.declared.facts.Held.TheVariants.{Opening, HalfOpen, KeptAsResponder, KeptAsInitiator}
use Rattle.glare_core.specs.Standing.{held}
use Rattle.glare_core.specs.Things.{near_of, IsSession}
use Rattle.glare_core.specs.Tells.{Values, as_initiator, as_responder}
use Rattle.endpoint_model.specs.Event.{Setup, own_of, ReceiveCall}
use Rattle.endpoint_model.specs.Views.{Sending}
use Rattle.endpoint_model.specs.Keying.{IsAmong, chunks_of}
use Rattle.endpoint_laws.specs.Past.{Past, Search, facts_of, IsClosing, IsSearch, WasLearnt, current_of, next_of, out_done, fact_done, started_id, GoesOn, sought_id, sought_done, before_event, last_call, receive_of}

-- secrets of a group, by their generations
abbrev pub Secrets : Type 0
Secrets = FinMap nat_cmp (List ℕ)

-- the generation of a context
abbrev pub generation_of : Context → ℕ
generation_of (Startup generation) = generation
generation_of (Session generation ni nr fp_i fp_r sid_i sid_r to_responder) = generation

-- They have what an end was given first, and all that it learnt.
pub record Knows (secrets : Secrets) (setup : Setup) (past : Past) : Type 0 where
  pub first : get secrets setup.generation ≡ Some setup.secret
  pub learnt : (generation : ℕ) (secret : List ℕ) → WasLearnt generation secret past →
      get secrets generation ≡ Some secret

-- the context of a session that began in this generation, in one direction
abbrev pub session_context : ℕ → Values → Bool → Context
session_context generation v to_responder =
    Session generation v.ni v.nr v.initiator v.responder v.near_i v.near_r to_responder

-- the context in which an end takes datagrams for what it holds, and began in this generation:
-- startup for an attempt, and a session's own, towards this end
abbrev pub inward : Setup → ℕ → Held → Context
inward setup generation (Opening n near ni) = Startup generation
inward setup generation (HalfOpen j) =
    session_context generation (as_responder (own_of setup) j) true
inward setup generation (KeptAsResponder j) =
    session_context generation (as_responder (own_of setup) j) true
inward setup generation (KeptAsInitiator j) =
    session_context generation (as_initiator (own_of setup) j) false

-- the context in which an end sends in a session that it holds, away from this end
abbrev pub outward : Setup → ℕ → Held → Context
outward setup generation (Opening n near ni) = Startup generation
outward setup generation (HalfOpen j) =
    session_context generation (as_responder (own_of setup) j) false
outward setup generation (KeptAsResponder j) =
    session_context generation (as_responder (own_of setup) j) false
outward setup generation (KeptAsInitiator j) =
    session_context generation (as_initiator (own_of setup) j) true

-- With some peer this is held under this session ID.
pub record HeldUnder (facts : List Fact) (near : ℕ) (thing : Held) : Type 0 where
  pub peer : List ℕ
  pub is_held : held peer facts ≡ Some thing
  pub id : near_of thing ≡ near

-- This is held or closing under this session ID.
abbrev pub StandsUnder : Past → ℕ → Held → Type 0
StandsUnder past near thing = HeldUnder (facts_of past) near thing ⊎
    ((at : ℕ) × IsClosing near thing at past)

-- A search stands under this session ID.
pub record SearchUnder (past : Past) (near : ℕ) : Type 0 where
  pub which : Search
  pub at : ℕ
  pub stands : IsSearch near which at past

-- ---- what opens

-- The datagram goes under this session ID, opens in this context under the secret of its
-- generation, and has this plain packet.
pub record OpensUnder (secrets : Secrets) (context : Context) (sid : ℕ)
    (datagram plain : List ℕ) : Type 0 where
  pub secret : List ℕ
  pub known : get secrets (generation_of context) ≡ Some secret
  pub id : sid_of datagram ≡ sid
  pub opens : Opens secret context sid (drop 4 datagram) plain

-- This is the first of these contexts in which the datagram opens so.
abbrev pub OpensFirst : Secrets → List Context → ℕ → List ℕ → Context → List ℕ → Type 0
OpensFirst secrets [] sid datagram context plain = ⊥
OpensFirst secrets (first ∷ later) sid datagram context plain =
    ((first ≡ context) × OpensUnder secrets context sid datagram plain) ⊎
    (((other : List ℕ) → OpensUnder secrets first sid datagram other → ⊥) ×
    OpensFirst secrets later sid datagram context plain)

-- It is read so.
pub record ReadsUnder (secrets : Secrets) (context : Context) (sid : ℕ) (datagram : List ℕ)
    (packet : Whole) : Type 0 where
  pub plain : List ℕ
  pub opens : OpensUnder secrets context sid datagram plain
  pub reads : PacketReading plain (Ok packet)

-- ---- startup contexts

abbrev pub next_contexts : Option ℕ → List Context
next_contexts None = []
next_contexts (Some generation) = Startup generation ∷ []

-- the contexts of session ID 0, in order: startup of the current generation, and of the next one
-- where that is known
abbrev pub startup_contexts : Setup → Past → List Context
startup_contexts setup past = Startup (current_of setup past) ∷ next_contexts (next_of past)

-- The datagram went out in the startup context of this generation, under whatever session ID, with
-- the initiator's keying of an attempt with this one.
pub record IsKeyingOf (secrets : Secrets) (near generation : ℕ) (sent : Sending) : Type 0 where
  pub context : sent.context ≡ Startup generation
  pub sid : ℕ
  pub packet : Whole
  pub reads : ReadsUnder secrets (Startup generation) sid sent.datagram packet
  pub chunk : Placed
  pub among : IsAmong chunk (chunks_of packet)
  pub cookie : List ℕ
  pub cert : List ℕ
  pub part : List ℕ
  pub sign : List ℕ
  pub spells : Spells (IIKeying near cookie cert part sign) chunk.kind chunk.payload

abbrev pub IsKeying : Secrets → ℕ → ℕ → Option Sending → Type 0
IsKeying secrets near generation None = ⊥
IsKeying secrets near generation (Some sent) = IsKeyingOf secrets near generation sent

-- Since an attempt was started or a search began under this session ID last, its keying went out in
-- this generation, and in none later.
abbrev pub KeyingWent : Secrets → ℕ → ℕ → Past → Type 0
KeyingWent secrets near generation [] = ⊥
KeyingWent secrets near generation (s ∷ earlier) =
    IsKeying secrets near generation (out_done s.what) ⊎
    (((other : ℕ) → IsKeying secrets near other (out_done s.what) → ⊥) ×
    GoesOn near (started_id (fact_done s.what)) × GoesOn near (sought_id (sought_done s.what)) ×
    KeyingWent secrets near generation earlier)

-- The attempt or search under this session ID is in the hello stage: no keying of it went out.
abbrev pub IsInHello : Secrets → ℕ → Past → Type 0
IsInHello secrets near past =
    (generation : ℕ) → KeyingWent secrets near generation past → ⊥

-- An attempt or a search under this session ID takes datagrams in this generation: in that of its
-- keying, and in the current one while it is in the hello stage.
abbrev pub IsAttemptIn : Secrets → Setup → ℕ → ℕ → Past → Type 0
IsAttemptIn secrets setup near generation past = KeyingWent secrets near generation past ⊎
    (IsInHello secrets near past × (generation ≡ current_of setup past))

-- An attempt is held under this session ID.
pub record AttemptUnder (past : Past) (near : ℕ) : Type 0 where
  pub peer : List ℕ
  pub n : ℕ
  pub ni : List ℕ
  pub is_held : held peer (facts_of past) ≡ Some (Opening n near ni)

-- The contexts of a session ID outside of sessions, at an end that did this, in order: of 0 those
-- above, and of an attempt's or a search's, startup of its generation.
abbrev pub StartupContextsOf : Secrets → Setup → Past → ℕ → List Context → Type 0
StartupContextsOf secrets setup past sid contexts =
    ((sid ≡ 0) × (contexts ≡ startup_contexts setup past)) ⊎
    ((sid ≢ 0) × (SearchUnder past sid ⊎ AttemptUnder past sid) × ((generation : ℕ) ×
    IsAttemptIn secrets setup sid generation past × (contexts ≡ Startup generation ∷ [])))

-- At an end that did this, the datagram opens in the startup context of this generation.
pub record OpensInStartup (secrets : Secrets) (setup : Setup) (past : Past) (datagram : List ℕ)
    (generation : ℕ) : Type 0 where
  pub contexts : List Context
  pub named : StartupContextsOf secrets setup past (sid_of datagram) contexts
  pub plain : List ℕ
  pub opens : OpensFirst secrets contexts (sid_of datagram) datagram (Startup generation) plain

abbrev pub CallOpensIn : Secrets → Setup → Past → Option ReceiveCall → ℕ → Type 0
CallOpensIn secrets setup past None generation = ⊥
CallOpensIn secrets setup past (Some r) generation =
    OpensInStartup secrets setup past r.datagram generation

-- The datagram of the last event that began opened in the startup context of this generation, by
-- what was done before that event.
abbrev pub EventOpenedIn : Secrets → Setup → Past → ℕ → Type 0
EventOpenedIn secrets setup past generation =
    CallOpensIn secrets setup (before_event past) (receive_of (last_call past)) generation

-- ---- contexts of sessions

-- the fact with which a session that is kept began here
abbrev pub BeganWith : Held → Fact → Type 0
BeganWith (Opening n near ni) fact = ⊥
BeganWith (HalfOpen j) fact = fact ≡ Born j
BeganWith (KeptAsResponder j) fact = fact ≡ Born j
BeganWith (KeptAsInitiator j) fact = fact ≡ Opened j

-- The fact begins this session.
abbrev pub Begins : Held → Option Fact → Type 0
Begins thing None = ⊥
Begins thing (Some fact) = BeganWith thing fact

-- The session began in this generation: in which the datagram opened of the event of its Born or
-- Opened, the last one if there are several.
abbrev pub BegunUnder : Secrets → Setup → Held → ℕ → Past → Type 0
BegunUnder secrets setup thing generation [] = ⊥
BegunUnder secrets setup thing generation (s ∷ earlier) =
    (Begins thing (fact_done s.what) × EventOpenedIn secrets setup earlier generation) ⊎
    ((Begins thing (fact_done s.what) → ⊥) × BegunUnder secrets setup thing generation earlier)

-- The contexts of a session ID at an end that did this, in order: outside of sessions those above,
-- and a session's own for that of a session that is held or closing.
abbrev pub ContextsOf : Secrets → Setup → Past → ℕ → List Context → Type 0
ContextsOf secrets setup past sid contexts =
    StartupContextsOf secrets setup past sid contexts ⊎
    ((thing : Held) × (generation : ℕ) × StandsUnder past sid thing × IsSession thing ×
    BegunUnder secrets setup thing generation past ×
    (contexts ≡ inward setup generation thing ∷ []))
