-- The laws of opened datagrams.
use Rattle.std.specs.Prelude.{ℕ, List, length, ◌≡◌, ◌<◌, ◌≤◌, ◌^◌, Bool, true, Option, Some, Ok}
use Rattle.std.specs.FinMap.{get}
use Rattle.crypto_profile.specs.declared.keys.Context.{Context}
use Rattle.crypto_profile.specs.declared.keys.Context.TheVariants.{Startup}
use Rattle.glare_core.specs.declared.facts.Joined.{Joined}
use Rattle.rtmfp_packet.specs.declared.head.Mode.TheVariants.{Startup as StartupMode}
use Rattle.rtmfp_packet.specs.Reading.{PacketReading}
use Rattle.rtmfp_packet.specs.Whole.{Whole}
use Rattle.endpoint_model.specs.Keying.{chunks_of}
use Rattle.endpoint_model.specs.Views.{Sending}
use Rattle.endpoint_laws.specs.Contexts.{Secrets, OpensUnder, ReadsUnder, IsKeyingOf, startup_contexts}
use Rattle.endpoint_laws.specs.Lawful.{AnswersAttempt, AnswersSearch, HasHello, IsTagged}
use Rattle.endpoint_laws.specs.Past.{Past, Search, IsSearch, tag_of}
use Rattle.endpoint_model.specs.Event.{Setup}
use Rattle.log_packets.specs.Opening.{sid_in, startup_of, IsFirstOpened, IsOpened}
use Rattle.log_packets.specs.Asked.{Tells, SomeChunk, IsAnswer, IsHelloFrom, IsHelloOf, IsKeyingWith}

-- A datagram opens under its own session ID, and one that has none opens nowhere.
abbrev pub EachOpensUnderItsOwn : Type 0
EachOpensUnderItsOwn = (secrets : Secrets) (context : Context) (sid : ℕ) (bytes plain : List ℕ) →
    OpensUnder secrets context sid bytes plain → sid_in bytes ≡ Some sid

-- What was opened reads as its plain packet does, and in no other way.
pub record OpenedReads (secrets : Secrets) (context : Context) (sid : ℕ) (bytes : List ℕ)
    (opens : Bool) (plain : List ℕ) : Type 0 where
  pub yes : opens ≡ true → (packet : Whole) → PacketReading plain (Ok packet) →
      ReadsUnder secrets context sid bytes packet
  pub no : (packet : Whole) (r : ReadsUnder secrets context sid bytes packet) →
      (opens ≡ true) × (r.plain ≡ plain) × PacketReading plain (Ok packet)

abbrev pub WhatOpensReads : Type 0
WhatOpensReads = (secrets : Secrets) (context : Context) (sid : ℕ) (bytes : List ℕ)
    (opens : Bool) (plain : List ℕ) → IsOpened secrets context sid bytes opens plain →
    OpenedReads secrets context sid bytes opens plain

-- Where a datagram opens in a startup context under an attempt's session ID, and reads as this
-- packet, what its chunks answer is whether it answers the attempt.
abbrev pub AnAnswerIsAmongItsChunks : Type 0
AnAnswerIsAmongItsChunks = (secrets : Secrets) (generation : ℕ) (secret : List ℕ) (j : Joined)
    (bytes plain : List ℕ) (packet : Whole) (it : Bool) →
    get secrets generation ≡ Some secret → j.k < 2 ^ 64 →
    IsOpened secrets (Startup generation) j.near bytes true plain →
    PacketReading plain (Ok packet) →
    Tells (SomeChunk (IsAnswer secret j) (chunks_of packet)) it →
    Tells (AnswersAttempt secrets generation j bytes) it

-- The packet has the mode of startup and a hello that an attempt with this tag and this peer takes,
-- and of all with the tag none has a lower session ID.
pub record BringsHello (past : Past) (tag peer : List ℕ) (near : ℕ) (packet : Whole) : Type 0 where
  pub mode : packet.head.mode ≡ StartupMode
  pub lowest : (other : ℕ) → IsTagged past tag other → near ≤ other
  pub hello : SomeChunk (IsHelloFrom tag peer) (chunks_of packet)

-- Where a datagram opens under session ID 0, first in startup of this generation, and reads as this
-- packet, it has a hello that an attempt with this tag takes exactly where the packet brings one.
pub record AHelloIsAmongItsChunks : Type 0 where
  pub brings : (secrets : Secrets) (setup : Setup) (past : Past)
      (near current generation : ℕ) (next : Option ℕ) (bytes plain tag peer : List ℕ)
      (packet : Whole) → startup_contexts setup past ≡ startup_of current next →
      IsFirstOpened secrets current next 0 bytes (Some generation) plain →
      PacketReading plain (Ok packet) → tag_of near past ≡ Some tag →
      HasHello secrets setup past peer near generation bytes →
      BringsHello past tag peer near packet
  pub has : (secrets : Secrets) (setup : Setup) (past : Past)
      (near current generation : ℕ) (next : Option ℕ) (bytes plain tag peer : List ℕ)
      (packet : Whole) → startup_contexts setup past ≡ startup_of current next →
      IsFirstOpened secrets current next 0 bytes (Some generation) plain →
      PacketReading plain (Ok packet) → tag_of near past ≡ Some tag →
      BringsHello past tag peer near packet →
      HasHello secrets setup past peer near generation bytes

-- This search and no other stands under a session ID.
pub record IsOnlySearch (near : ℕ) (search : Search) (past : Past) : Type 0 where
  pub at : ℕ
  pub stands : IsSearch near search at past
  pub only : (which : Search) (moment : ℕ) → IsSearch near which moment past → which ≡ search

-- Where a datagram opens in a startup context under session ID 0, and reads as this packet, what
-- its chunks answer is whether it answers the search under a session ID.
abbrev pub TheHelloIsAmongItsChunks : Type 0
TheHelloIsAmongItsChunks = (secrets : Secrets) (generation : ℕ) (past : Past)
    (bytes plain peer : List ℕ) (n near : ℕ) (search : Search) (packet : Whole) (it : Bool) →
    IsOpened secrets (Startup generation) 0 bytes true plain →
    PacketReading plain (Ok packet) → IsOnlySearch near search past →
    length search.ni ≡ 16 → n < 2 ^ 64 →
    Tells (SomeChunk (IsHelloOf search.tag search.name peer) (chunks_of packet)) it →
    Tells (AnswersSearch secrets generation past bytes peer n near search.ni) it

-- Where a datagram that went out in a startup context opens there under some session ID, and reads
-- as this packet, the keyings among its chunks are those that went out with it.
abbrev pub KeyingsAreAmongItsChunks : Type 0
KeyingsAreAmongItsChunks = (secrets : Secrets) (near generation sid : ℕ) (sent : Sending)
    (plain : List ℕ) (packet : Whole) (it : Bool) → sent.context ≡ Startup generation →
    IsOpened secrets (Startup generation) sid sent.datagram true plain →
    PacketReading plain (Ok packet) →
    Tells (SomeChunk (IsKeyingWith near) (chunks_of packet)) it →
    Tells (IsKeyingOf secrets near generation sent) it
