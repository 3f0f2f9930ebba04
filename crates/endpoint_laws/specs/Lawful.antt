-- Lawful logs. Each entry meets its line of this table, judged by its event and by the entries
-- before it.
use Rattle.std.specs.Prelude.{ℕ, true, false, ◌≡◌, ◌≢◌, ◌+◌, ◌^◌, ◌<◌, ◌≤◌, ◌⊎◌, List, [], ◌∷◌, length, drop, Option, Some, None, Ok}
use Rattle.std.specs.FinMap.{get}
use Rattle.crypto_profile.specs.declared.keys.Context.{Context}
use Rattle.crypto_profile.specs.declared.keys.Context.TheVariants.{Startup, Session}
use Rattle.crypto_profile.specs.Sealing.{sealed_in, number_of}
use Rattle.packet_scramble.specs.Datagram.{datagram}
use Rattle.rtmfp_packet.specs.declared.head.Mode.TheVariants.{Startup as StartupMode}
use Rattle.rtmfp_packet.specs.Whole.{Whole}
use Rattle.rtmfp_packet.specs.Walk.{Placed}
use Rattle.rtmfp_packet.specs.Reading.{PacketReading}
use Rattle.rtmfp_chunks.specs.Chunk.{RHello, RIKeying, Close as CloseChunk, CloseAck, Spells}
use Rattle.sha2.specs.Sha256.{sha256}
use Rattle.identity.specs.Certificates.{IsCertificate}
use Rattle.glare_core.specs.declared.facts.Why.{Why}
use Rattle.glare_core.specs.declared.facts.Why.TheVariants.{Cancelled, Expired, Glare, Override, Unconfirmed, Near, Far, Idle}
use Rattle.glare_core.specs.declared.facts.Fact.{Fact}
use Rattle.glare_core.specs.declared.facts.Fact.TheVariants.{Started, Born, Opened, Confirmed, Ended}
use Rattle.glare_core.specs.declared.facts.Held.{Held}
use Rattle.glare_core.specs.declared.facts.Held.TheVariants.{Opening, HalfOpen, KeptAsResponder, KeptAsInitiator}
use Rattle.glare_core.specs.declared.facts.Joined.{Joined}
use Rattle.glare_core.specs.Standing.{held, count}
use Rattle.glare_core.specs.Things.{IsSession}
use Rattle.glare_core.specs.Stands.{Stands, IsBornOf, IsForBorn}
use Rattle.glare_core.specs.Told.{AllDifferent}
use Rattle.endpoint_model.specs.declared.entry.Entry.{Entry}
use Rattle.endpoint_model.specs.Views.{Sending, NamedSearch, EndedSearch, fact_in, out_in, closed_in, sought_in, unsought_in, learnt_in, advanced_in}
use Rattle.endpoint_model.specs.declared.config.Draws.{Draws}
use Rattle.endpoint_model.specs.Event.{Setup, own_of, Call, OpenCall, SeekCall, ReceiveCall, open_in, seek_in, unseek_in, cancel_in, close_in, receive_in, tick_in, learn_in, is_advance, Event, moment_at}
use Rattle.endpoint_laws.specs.Past.{Past, before_event, current_of, next_of, Search, IsSearch, tag_of, with_event, facts_of, is_in_use, IsClosing, taken_since, nothing_done, with_begun, with_entry, with_fact, WasStated, WentOut}
use Rattle.endpoint_laws.specs.Contexts.{Secrets, generation_of, ReadsUnder, StandsUnder, inward, outward, OpensUnder, OpensFirst, startup_contexts, SearchUnder, AttemptUnder, KeyingWent, IsInHello, OpensInStartup, BeganWith, BegunUnder}
use Rattle.endpoint_laws.specs.Taken.{TookAt, TakesChunkIn}
use Rattle.endpoint_model.specs.Keying.{IsSigned, IsAmong, KeyingsAre, chunks_of, initiator_part, responder_part}
use Rattle.endpoint_laws.specs.Admissible.{Admissible, Offer}

-- The session ID isn't 0, and none that is in use.
pub record IsFree (near : ℕ) (past : Past) : Type 0 where
  pub some : near ≢ 0
  pub unused : is_in_use near past ≡ false

-- ---- the call that an entry comes of

-- The call opens an attempt towards this peer, with this nonce.
abbrev pub OpensIn : Option OpenCall → List ℕ → List ℕ → Type 0
OpensIn None peer ni = ⊥
OpensIn (Some o) peer ni = (o.peer ≡ peer) × (ni ≡ o.draws.nonce)

abbrev pub Opens : Call → List ℕ → List ℕ → Type 0
Opens call peer ni = OpensIn (open_in call) peer ni

-- The call seeks an end with this name.
abbrev pub SeeksIn : Option SeekCall → List ℕ → Type 0
SeeksIn None name = ⊥
SeeksIn (Some seek) name = seek.name ≡ name

abbrev pub Seeks : Call → List ℕ → Type 0
Seeks call name = SeeksIn (seek_in call) name

abbrev pub UnseeksIn : Option ℕ → ℕ → Type 0
UnseeksIn None near = ⊥
UnseeksIn (Some id) near = id ≡ near

abbrev pub Unseeks : Call → ℕ → Type 0
Unseeks call near = UnseeksIn (unseek_in call) near

abbrev pub CancelsIn : Option ℕ → ℕ → Type 0
CancelsIn None n = ⊥
CancelsIn (Some m) n = m ≡ n

abbrev pub Cancels : Call → ℕ → Type 0
Cancels call n = CancelsIn (cancel_in call) n

abbrev pub ClosesIn : Option ℕ → ℕ → Type 0
ClosesIn None near = ⊥
ClosesIn (Some id) near = id ≡ near

abbrev pub ClosesSession : Call → ℕ → Type 0
ClosesSession call near = ClosesIn (close_in call) near

abbrev pub TicksIn : Option Draws → Type 0
TicksIn None = ⊥
TicksIn (Some draws) = Unit {0}

abbrev pub IsTick : Call → Type 0
IsTick call = TicksIn (tick_in call)

-- The call takes a datagram with an admissible keying that makes this offer, and the nonce is of
-- its draws.
abbrev pub BearsIn : Secrets → Setup → Past → ℕ → Option ReceiveCall → Offer → List ℕ → Type 0
BearsIn secrets setup past now None offer nr = ⊥
BearsIn secrets setup past now (Some r) offer nr =
    Admissible secrets setup past now r.from r.datagram offer × (nr ≡ r.draws.nonce)

abbrev pub Bears : Secrets → Setup → Past → ℕ → Call → Offer → List ℕ → Type 0
Bears secrets setup past now call offer nr =
    BearsIn secrets setup past now (receive_in call) offer nr

-- The datagram opens in the startup context of this generation under the attempt's session ID, and
-- a responder's keying in it answers the attempt.
pub record AnswersAttempt (secrets : Secrets) (generation : ℕ) (j : Joined)
    (datagram : List ℕ) : Type 0 where
  pub packet : Whole
  pub reads : ReadsUnder secrets (Startup generation) j.near datagram packet
  pub chunk : Placed
  pub among : IsAmong chunk (chunks_of packet)
  pub sign : List ℕ
  pub spells : Spells (RIKeying j.far (responder_part j.nr j.k j.peer j.ni) sign) chunk.kind
      chunk.payload
  -- the count is what these 8 bytes say
  pub number : j.k < 2 ^ 64
  pub signed : IsSigned reads.opens.secret chunk.payload sign

-- The call takes such a datagram, which opens in that context by what was done before its event.
abbrev pub TakesAnswerIn : Secrets → Setup → Past → Option ReceiveCall → Joined → Type 0
TakesAnswerIn secrets setup past None j = ⊥
TakesAnswerIn secrets setup past (Some r) j = (generation : ℕ) ×
    OpensInStartup secrets setup (before_event past) r.datagram generation ×
    AnswersAttempt secrets generation j r.datagram

abbrev pub TakesAnswer : Secrets → Setup → Past → Call → Joined → Type 0
TakesAnswer secrets setup past call j = TakesAnswerIn secrets setup past (receive_in call) j

-- The datagram opens in the startup context of this generation under session ID 0, and a
-- responder's hello in it has the tag of a search under this session ID with this nonce, and a
-- certificate of the search's name and of this peer.
pub record AnswersSearch (secrets : Secrets) (generation : ℕ) (past : Past)
    (datagram peer : List ℕ) (n near : ℕ) (ni : List ℕ) : Type 0 where
  pub packet : Whole
  pub reads : ReadsUnder secrets (Startup generation) 0 datagram packet
  pub chunk : Placed
  pub among : IsAmong chunk (chunks_of packet)
  pub tag : List ℕ
  pub cookie : List ℕ
  pub cert : List ℕ
  pub spells : Spells (RHello tag cookie cert) chunk.kind chunk.payload
  pub is_cert : IsCertificate cert
  pub peer_is : peer ≡ sha256 cert
  pub at : ℕ
  pub stands : IsSearch near (record { name = drop 16 cert; tag = tag; ni = ni }) at past
  -- the nonce and the number go out in 16 bytes and 8
  pub nonce_size : length ni ≡ 16
  pub number : n < 2 ^ 64

abbrev pub TakesHelloIn : Secrets → Setup → Past → Option ReceiveCall → List ℕ → ℕ → ℕ → List ℕ →
    Type 0
TakesHelloIn secrets setup past None peer n near ni = ⊥
TakesHelloIn secrets setup past (Some r) peer n near ni = (generation : ℕ) ×
    OpensInStartup secrets setup (before_event past) r.datagram generation ×
    AnswersSearch secrets generation past r.datagram peer n near ni

abbrev pub TakesHello : Secrets → Setup → Past → Call → List ℕ → ℕ → ℕ → List ℕ → Type 0
TakesHello secrets setup past call peer n near ni =
    TakesHelloIn secrets setup past (receive_in call) peer n near ni

-- The datagram opens under this session ID, in the context of this session of an end that did
-- this.
pub record OpensInSession (secrets : Secrets) (setup : Setup) (past : Past) (near : ℕ)
    (thing : Held) (datagram : List ℕ) : Type 0 where
  pub stands : StandsUnder past near thing
  pub is_session : IsSession thing
  pub generation : ℕ
  pub begun : BegunUnder secrets setup thing generation past
  pub plain : List ℕ
  pub opens : OpensUnder secrets (inward setup generation thing) near datagram plain

-- The call takes such a datagram, by what was done before its event.
abbrev pub TakesUnderIn : Secrets → Setup → Past → Option ReceiveCall → ℕ → Held → Type 0
TakesUnderIn secrets setup past None near thing = ⊥
TakesUnderIn secrets setup past (Some r) near thing =
    OpensInSession secrets setup (before_event past) near thing r.datagram

abbrev pub TakesUnder : Secrets → Setup → Past → Call → ℕ → Held → Type 0
TakesUnder secrets setup past call near thing =
    TakesUnderIn secrets setup past (receive_in call) near thing

-- ---- the lines of facts

-- An attempt starts by an open, under a session ID that is free; or by the answer to a search,
-- under the search's.
abbrev pub StartedLine : Secrets → Setup → Call → Past → List ℕ → ℕ → ℕ → List ℕ → Type 0
StartedLine secrets setup call past peer n near ni = (Opens call peer ni × IsFree near past) ⊎
    TakesHello secrets setup past call peer n near ni

-- What was done before a Born, and before the Ended directly before it that makes way for it, if
-- there is one.
abbrev pub WayMade : ℕ → Past → Past → List ℕ → Type 0
WayMade now past before peer = (past ≡ before) ⊎ ((near : ℕ) × (why : Why) × IsForBorn why ×
    (past ≡ with_fact now (Ended peer near why) before))

pub record BornLine (secrets : Secrets) (setup : Setup) (now : ℕ) (call : Call) (past : Past)
    (j : Joined) : Type 0 where
  pub before : Past
  pub way : WayMade now past before j.peer
  pub by : Bears secrets setup before now call
      (record { peer = j.peer; n = j.n; ni = j.ni; far = j.far }) j.nr
  pub id : IsFree j.near past

pub record ConfirmedLine (secrets : Secrets) (setup : Setup) (call : Call) (past : Past)
    (peer : List ℕ) (near : ℕ) : Type 0 where
  pub j : Joined
  pub session : held peer (facts_of past) ≡ Some (HalfOpen j)
  pub by : TakesUnder secrets setup past call near (HalfOpen j)

-- so many milliseconds after its start, an attempt expires
abbrev pub lifetime : ℕ
lifetime = 95000

-- The attempt with this session ID was started at least so long ago.
pub record IsOverdue (now : ℕ) (past : Past) (peer : List ℕ) (near : ℕ) : Type 0 where
  pub n : ℕ
  pub ni : List ℕ
  pub is_held : held peer (facts_of past) ≡ Some (Opening n near ni)
  pub start : ℕ
  pub started : WasStated start (Started peer n near ni) past
  pub over : start + lifetime ≤ now

pub record CancelledLine (call : Call) (facts : List Fact) (peer : List ℕ) : Type 0 where
  pub n : ℕ
  pub near : ℕ
  pub ni : List ℕ
  pub is_held : held peer facts ≡ Some (Opening n near ni)
  pub by : Cancels call n

-- There is this fact, a Born of this peer.
abbrev pub IsBornIn : List ℕ → Option Fact → Type 0
IsBornIn peer None = ⊥
IsBornIn peer (Some fact) = IsBornOf peer fact

-- The next entry of the event is a Born of this peer.
abbrev pub BornFollows : List ℕ → List Entry → Type 0
BornFollows peer [] = ⊥
BornFollows peer (entry ∷ rest) = IsBornIn peer (fact_in entry)

-- The half-open session with this peer was born at least 20,000 ms ago.
pub record IsUnconfirmed (now : ℕ) (past : Past) (peer : List ℕ) : Type 0 where
  pub j : Joined
  pub is_held : held peer (facts_of past) ≡ Some (HalfOpen j)
  pub birth : ℕ
  pub born : WasStated birth (Born j) past
  pub over : birth + 20000 ≤ now

-- The session is held, and the call takes a datagram in it that has a close.
pub record FarLine (secrets : Secrets) (setup : Setup) (call : Call) (past : Past) (peer : List ℕ)
    (near : ℕ) : Type 0 where
  pub thing : Held
  pub is_held : held peer (facts_of past) ≡ Some thing
  pub by : TakesChunkIn secrets setup past thing near (receive_in call) CloseChunk

-- The session began at least 120,000 ms ago, and took nothing since then.
pub record IsIdle (secrets : Secrets) (setup : Setup) (now : ℕ) (past : Past) (peer : List ℕ)
    (near : ℕ) : Type 0 where
  pub thing : Held
  pub is_held : held peer (facts_of past) ≡ Some thing
  pub first : ℕ
  pub fact : Fact
  pub began_with : BeganWith thing fact
  pub began : WasStated first fact past
  pub old : first + 120000 ≤ now
  pub generation : ℕ
  pub begun : BegunUnder secrets setup thing generation past
  pub quiet : (moment : ℕ) →
      TookAt secrets setup generation thing near moment (taken_since near past) →
      moment + 120000 ≤ now

abbrev pub EndedLine : Secrets → Setup → ℕ → Call → Past → List Entry → List ℕ → ℕ → Why → Type 0
EndedLine secrets setup now call past rest peer near Cancelled =
    CancelledLine call (facts_of past) peer
EndedLine secrets setup now call past rest peer near Expired =
    IsTick call × IsOverdue now past peer near
EndedLine secrets setup now call past rest peer near Glare = BornFollows peer rest
EndedLine secrets setup now call past rest peer near Override = BornFollows peer rest
EndedLine secrets setup now call past rest peer near Unconfirmed =
    IsTick call × IsUnconfirmed now past peer
EndedLine secrets setup now call past rest peer near Near = ClosesSession call near
EndedLine secrets setup now call past rest peer near Far = FarLine secrets setup call past peer near
EndedLine secrets setup now call past rest peer near Idle =
    IsTick call × IsIdle secrets setup now past peer near

-- What a fact asks of its event, beside what the facts before it ask.
abbrev pub FactLine : Secrets → Setup → ℕ → Call → Past → List Entry → Fact → Type 0
FactLine secrets setup now call past rest (Started peer n near ni) =
    StartedLine secrets setup call past peer n near ni
FactLine secrets setup now call past rest (Born j) = BornLine secrets setup now call past j
FactLine secrets setup now call past rest (Opened j) = TakesAnswer secrets setup past call j
FactLine secrets setup now call past rest (Confirmed peer near) =
    ConfirmedLine secrets setup call past peer near
FactLine secrets setup now call past rest (Ended peer near why) =
    EndedLine secrets setup now call past rest peer near why

-- The number of an attempt is one of 64 bits, as its keying has 8 bytes for it.
abbrev pub IsCounted : Fact → Type 0
IsCounted (Started peer n near ni) = n < 2 ^ 64
IsCounted (Born j) = Unit {0}
IsCounted (Opened j) = Unit {0}
IsCounted (Confirmed peer near) = Unit {0}
IsCounted (Ended peer near why) = Unit {0}

-- ---- the line of a datagram that goes out

-- It is a datagram that went out in this context with this number.
abbrev pub IsNumbered : Context → List ℕ → Option Sending → Type 0
IsNumbered context number None = ⊥
IsNumbered context number (Some sent) = (sent.context ≡ context) ×
    (number_of (drop 4 sent.datagram) ≡ number)

-- An earlier datagram went out in this context with this number.
abbrev pub WasNumbered : Context → List ℕ → Past → Type 0
WasNumbered context number past = WentOut (IsNumbered context number) past

-- the nonces of the attempts that were started, and of the sessions that were born
abbrev pub nonces_of : List Fact → List (List ℕ)
nonces_of [] = []
nonces_of (Started peer n near ni ∷ earlier) = ni ∷ nonces_of earlier
nonces_of (Born j ∷ earlier) = j.nr ∷ nonces_of earlier
nonces_of (Opened j ∷ earlier) = nonces_of earlier
nonces_of (Confirmed peer near ∷ earlier) = nonces_of earlier
nonces_of (Ended peer near why ∷ earlier) = nonces_of earlier

-- In a session's context this is asked only where the nonces are all different.
abbrev pub AsFarAs : Context → List Fact → Type 0
AsFarAs (Startup generation) facts = Unit {0}
AsFarAs (Session generation ni nr fp_i fp_r sid_i sid_r to_responder) facts =
    AllDifferent (nonces_of facts)

-- An attempt or a search stands under this session ID, and its hellos have this tag.
abbrev pub IsTagged : Past → List ℕ → ℕ → Type 0
IsTagged past tag near = (SearchUnder past near ⊎ AttemptUnder past near) ×
    (tag_of near past ≡ Some tag)

-- The datagram opens in the startup context of this generation under session ID 0, and has a
-- responder's hello that the attempt with this peer takes, which is under this session ID: of all
-- attempts and searches with the hello's tag it has the lowest, and the certificate is the peer's.
pub record HasHello (secrets : Secrets) (setup : Setup) (past : Past) (peer : List ℕ)
    (near generation : ℕ) (datagram : List ℕ) : Type 0 where
  pub packet : Whole
  pub reads : ReadsUnder secrets (Startup generation) 0 datagram packet
  pub opens : OpensFirst secrets (startup_contexts setup past) 0 datagram (Startup generation)
      reads.plain
  pub mode : packet.head.mode ≡ StartupMode
  pub chunk : Placed
  pub among : IsAmong chunk (chunks_of packet)
  pub tag : List ℕ
  pub cookie : List ℕ
  pub cert : List ℕ
  pub spells : Spells (RHello tag cookie cert) chunk.kind chunk.payload
  pub tag_is : tag_of near past ≡ Some tag
  pub lowest : (other : ℕ) → IsTagged past tag other → near ≤ other
  pub narrow : length cookie ≤ 128
  pub is_cert : IsCertificate cert
  pub peer_is : peer ≡ sha256 cert

abbrev pub TakesHelloOf : Secrets → Setup → Past → List ℕ → ℕ → ℕ → Option ReceiveCall → Type 0
TakesHelloOf secrets setup past peer near generation None = ⊥
TakesHelloOf secrets setup past peer near generation (Some r) =
    HasHello secrets setup past peer near generation r.datagram

-- The keying of an attempt goes out in the generation of those before, and the first one in that in
-- which the responder's hello came that the attempt takes.
abbrev pub KeyingGoesIn : Secrets → Setup → Past → Call → List ℕ → ℕ → ℕ → Type 0
KeyingGoesIn secrets setup past call peer near generation =
    KeyingWent secrets near generation past ⊎
    (IsInHello secrets near past ×
    TakesHelloOf secrets setup past peer near generation (receive_in call))

-- An initiator's keying goes out in the startup context of its attempt alone, with the certificate
-- of this end, and the session ID and the component of an attempt that is held.
pub record KeyingOfAttempt (secrets : Secrets) (setup : Setup) (call : Call) (past : Past)
    (context : Context) (near : ℕ) (cert part : List ℕ) : Type 0 where
  pub own : cert ≡ setup.cert
  pub peer : List ℕ
  pub n : ℕ
  pub ni : List ℕ
  pub is_held : held peer (facts_of past) ≡ Some (Opening n near ni)
  pub values : part ≡ initiator_part ni n peer
  pub generation : ℕ
  pub goes : KeyingGoesIn secrets setup past call peer near generation
  pub startup : context ≡ Startup generation

-- The session is held, and was born here.
abbrev pub IsBornHere : Option Held → Joined → Type 0
IsBornHere thing j = (thing ≡ Some (HalfOpen j)) ⊎ (thing ≡ Some (KeptAsResponder j))

-- A responder's keying goes out in the startup context alone in which the session was born, under
-- the far session ID of a session that was born here and is held, with its values.
pub record KeyingOfBorn (secrets : Secrets) (setup : Setup) (past : Past) (context : Context)
    (sid near : ℕ) (part : List ℕ) : Type 0 where
  pub j : Joined
  pub generation : ℕ
  pub born : BegunUnder secrets setup (HalfOpen j) generation past
  pub startup : context ≡ Startup generation
  pub is_held : IsBornHere (held j.peer (facts_of past)) j
  pub sid_is : sid ≡ j.far
  pub near_is : near ≡ j.near
  pub values : part ≡ responder_part j.nr j.k (own_of setup) j.ni

-- the far session ID of a session
abbrev pub IsFarOf : Held → ℕ → Type 0
IsFarOf (Opening n near ni) sid = ⊥
IsFarOf (HalfOpen j) sid = sid ≡ j.far
IsFarOf (KeptAsResponder j) sid = sid ≡ j.far
IsFarOf (KeptAsInitiator j) sid = sid ≡ j.far

-- A datagram in a session's context goes under the far ID of a session that is held or closing, in
-- the direction away from this end, in the generation in which the session began.
abbrev pub InSession : Secrets → Setup → Past → ℕ → Context → Type 0
InSession secrets setup past sid (Startup generation) = Unit {0}
InSession secrets setup past sid (Session generation ni nr fp_i fp_r sid_i sid_r to_responder) =
    (thing : Held) × (near : ℕ) × StandsUnder past near thing ×
    BegunUnder secrets setup thing generation past ×
    (Session generation ni nr fp_i fp_r sid_i sid_r to_responder
    ≡ outward setup generation thing) × IsFarOf thing sid

pub record OutLine (secrets : Secrets) (setup : Setup) (call : Call) (past : Past)
    (sent : List ℕ) (context : Context) : Type 0 where
  pub sid : ℕ
  pub number : List ℕ
  pub plain : List ℕ
  pub numbered : length number ≡ 16
  -- under the secret of the context's generation
  pub secret : List ℕ
  pub known : get secrets (generation_of context) ≡ Some secret
  pub is : sent ≡ datagram sid (sealed_in secret context sid number plain)
  pub once : AsFarAs context (facts_of past) → WasNumbered context number past → ⊥
  pub keyings : (packet : Whole) → PacketReading plain (Ok packet) →
      KeyingsAre (λ near cookie cert part sign. KeyingOfAttempt secrets setup call past context near
      cert part) (λ near part sign. KeyingOfBorn secrets setup past context sid near part) packet
  pub session : InSession secrets setup past sid context

-- ---- the line of a session that is over

-- The session under this session ID is closing; the call takes a datagram in it that has the answer
-- to a close, or time has gone on for 19,000 ms since it was closed.
pub record ClosedLine (secrets : Secrets) (setup : Setup) (now : ℕ) (call : Call) (past : Past)
    (near : ℕ) : Type 0 where
  pub thing : Held
  pub at : ℕ
  pub closing : IsClosing near thing at past
  pub by : TakesChunkIn secrets setup past thing near (receive_in call) CloseAck ⊎
      (IsTick call × (at + 19000 ≤ now))

-- ---- the lines of searches

-- A search begins by a seek of its name, under a session ID that is free.
pub record SoughtLine (call : Call) (past : Past) (near : ℕ) (name : List ℕ) : Type 0 where
  pub by : Seeks call name
  pub id : IsFree near past

-- A search is cancelled by its unseek, and expires at a tick, so long after it began.
abbrev pub SearchEnds : Call → ℕ → ℕ → ℕ → Why → Type 0
SearchEnds call near at now Cancelled = Unseeks call near
SearchEnds call near at now Expired = IsTick call × (at + lifetime ≤ now)
SearchEnds call near at now Glare = ⊥
SearchEnds call near at now Override = ⊥
SearchEnds call near at now Unconfirmed = ⊥
SearchEnds call near at now Near = ⊥
SearchEnds call near at now Far = ⊥
SearchEnds call near at now Idle = ⊥

-- A search stands under this session ID, and ends so.
pub record UnsoughtLine (now : ℕ) (call : Call) (past : Past) (near : ℕ) (why : Why)
    : Type 0 where
  pub which : Search
  pub at : ℕ
  pub stands : IsSearch near which at past
  pub by : SearchEnds call near at now why

-- ---- the lines of generations

abbrev pub LearnsIn : Option (List ℕ) → Type 0
LearnsIn None = ⊥
LearnsIn (Some secret) = Unit {0}

-- The call is a learn, no next generation is known, and the number is the current one plus 1.
pub record LearntLine (setup : Setup) (call : Call) (past : Past) (generation : ℕ)
    : Type 0 where
  pub by : LearnsIn (learn_in call)
  pub none : next_of past ≡ None
  pub number : generation ≡ current_of setup past + 1

-- The call is an advance, and the number is that of the next generation, which is known.
pub record AdvancedLine (call : Call) (past : Past) (generation : ℕ) : Type 0 where
  pub by : is_advance call ≡ true
  pub number : next_of past ≡ Some generation

-- ---- the table

-- the line of what an entry says of a search, if it does: that it begins, or that it is over
abbrev pub SearchLine : ℕ → Call → Past → Option NamedSearch → Option EndedSearch → Type 0
SearchLine now call past (Some sought) ended = SoughtLine call past sought.near sought.name
SearchLine now call past None (Some ended) = UnsoughtLine now call past ended.near ended.why
SearchLine now call past None None = Unit {0}

-- the line of what an entry says of the group's generations, if it does
abbrev pub GenerationLine : Setup → Call → Past → Option ℕ → Option ℕ → Type 0
GenerationLine setup call past (Some learnt) advanced = LearntLine setup call past learnt
GenerationLine setup call past None (Some advanced) = AdvancedLine call past advanced
GenerationLine setup call past None None = Unit {0}

-- the line of an entry, which is a fact, a datagram that goes out, the end of a closing, the
-- beginning or the end of a search, a generation that was learnt or became the current one, or none
-- of these
abbrev pub LineOf : Secrets → Setup → ℕ → Call → Past → List Entry → Option Fact → Option Sending →
    Option ℕ → Option NamedSearch → Option EndedSearch → Option ℕ → Option ℕ → Type 0
LineOf secrets setup now call past rest (Some fact) sent over sought ended learnt advanced =
    Stands (own_of setup) (count (facts_of past)) (facts_of past) fact ×
    FactLine secrets setup now call past rest fact × IsCounted fact
LineOf secrets setup now call past rest None (Some sent) over sought ended learnt advanced =
    OutLine secrets setup call past sent.datagram sent.context
LineOf secrets setup now call past rest None None (Some near) sought ended learnt advanced =
    ClosedLine secrets setup now call past near
LineOf secrets setup now call past rest None None None sought ended learnt advanced =
    SearchLine now call past sought ended × GenerationLine setup call past learnt advanced

abbrev pub Line : Secrets → Setup → ℕ → Call → Past → List Entry → Entry → Type 0
Line secrets setup now call past rest entry =
    LineOf secrets setup now call past rest (fact_in entry) (out_in entry) (closed_in entry)
    (sought_in entry) (unsought_in entry) (learnt_in entry) (advanced_in entry)

-- the entries of an event, in order
abbrev pub EntriesLawful : Secrets → Setup → ℕ → Call → Past → List Entry → Type 0
EntriesLawful secrets setup now call past [] = Unit {0}
EntriesLawful secrets setup now call past (entry ∷ rest) =
    Line secrets setup now call past rest entry ×
    EntriesLawful secrets setup now call (with_entry now entry past) rest

-- the events of a log, the oldest first, after what was done before
abbrev pub LawfulFrom : Secrets → Setup → ℕ → Past → List Event → Type 0
LawfulFrom secrets setup last past [] = Unit {0}
LawfulFrom secrets setup last past (e ∷ events) =
    EntriesLawful secrets setup (moment_at last e) e.call (with_begun (moment_at last e) e past)
    e.entries ×
    LawfulFrom secrets setup (moment_at last e) (with_event (moment_at last e) e past) events

abbrev pub IsLawful : Secrets → Setup → List Event → Type 0
IsLawful secrets setup log = LawfulFrom secrets setup 0 nothing_done log
