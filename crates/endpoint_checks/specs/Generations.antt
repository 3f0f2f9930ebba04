-- What the table refuses of a Learnt and of an Advanced, of what comes or goes out in another
-- generation than it should, and of an initiator's keying without a hello that its attempt takes.
use Rattle.std.specs.Prelude.{ℕ, ◌≡◌, ◌≢◌, ◌+◌, ◌<◌, List, [], ◌∷◌, length, None, false}
use Rattle.sha2.specs.Sha256.{sha256}
use Rattle.identity.specs.Certificates.{IsCertificate}
use Rattle.crypto_profile.specs.declared.keys.Context.TheVariants.{Startup}
use Rattle.rtmfp_forms.specs.Address.{AddressParts}
use Rattle.rtmfp_packet.specs.declared.head.Mode.TheVariants.{Startup as StartupMode}
use Rattle.rtmfp_packet.specs.Whole.{Whole}
use Rattle.rtmfp_packet.specs.Walk.{Placed}
use Rattle.rtmfp_chunks.specs.Chunk.{RHello, IIKeying, RIKeying, Spells}
use Rattle.glare_core.specs.declared.facts.Fact.TheVariants.{Started, Born, Opened}
use Rattle.glare_core.specs.declared.facts.Joined.{Joined}
use Rattle.glare_core.specs.Tells.{as_responder}
use Rattle.endpoint_model.specs.declared.config.Draws.{Draws}
use Rattle.endpoint_model.specs.declared.entry.Entry.TheVariants.{Fact as FactEntry, Learnt, Advanced, Out, Sought}
use Rattle.endpoint_model.specs.Event.{Setup, own_of, Call, Open, Seek, Cancel, Close, Learn, Advance, Receive, Tick, receive_in, Searching, Event}
use Rattle.endpoint_model.specs.Keying.{IsAmong, chunks_of}
use Rattle.endpoint_laws.specs.Past.{nothing_done, with_entry, with_event}
use Rattle.endpoint_laws.specs.Contexts.{Secrets, session_context, OpensUnder, ReadsUnder, IsKeyingOf}
use Rattle.endpoint_laws.specs.Lawful.{LearntLine, AdvancedLine, HasHello}
use Rattle.endpoint_checks.specs.Logs.{answering, doing, says, IsRefused}
use Rattle.endpoint_checks.specs.Births.{born_in}
use Rattle.endpoint_checks.specs.Brings.{Hello, BringsHello}
use Rattle.endpoint_checks.specs.Sends.{HasChunk, sends}

-- a generation is learnt in some call, and becomes the current one in another
abbrev pub learns : Call → ℕ → Event
learns c next = doing 0 c (Learnt next ∷ [])

abbrev pub advances : Call → ℕ → Event
advances c next = doing 0 c (Advanced next ∷ [])

-- ---- learning and advancing

-- Of a generation that is learnt with this number.
pub record LearntsRefused (secrets : Secrets) (setup : Setup) (moment : ℕ) (secret : List ℕ)
    (draws : Draws) (generation : ℕ) : Type 0 where
  -- no call but a learn learns one
  pub in_open : (towards : List ℕ) (candidates : List AddressParts) →
      IsRefused secrets setup (doing moment (Open towards candidates draws) (Learnt generation ∷ [])
      ∷ [])
  pub in_cancel : (m : ℕ) →
      IsRefused secrets setup (doing moment (Cancel m) (Learnt generation ∷ []) ∷ [])
  pub in_close : (id : ℕ) →
      IsRefused secrets setup (doing moment (Close id) (Learnt generation ∷ []) ∷ [])
  pub in_advance : IsRefused secrets setup (doing moment Advance (Learnt generation ∷ []) ∷ [])
  pub in_receive : (from : AddressParts) (datagram : List ℕ) →
      IsRefused secrets setup (doing moment (Receive from datagram draws) (Learnt generation ∷ [])
      ∷ [])
  pub in_tick : IsRefused secrets setup (doing moment (Tick draws) (Learnt generation ∷ []) ∷ [])
  -- the number isn't the one after the current generation's, which may be one that was learnt
  pub other_number : generation ≢ setup.generation + 1 →
      IsRefused secrets setup (doing moment (Learn secret) (Learnt generation ∷ []) ∷ [])
  pub other_number_later : (c d : Call) (next : ℕ) → generation ≢ next + 1 →
      IsRefused secrets setup (learns c next ∷ advances d next
      ∷ doing moment (Learn secret) (Learnt generation ∷ []) ∷ [])
  -- a next one is known, also by the same call
  pub known : (c : Call) (next : ℕ) →
      IsRefused secrets setup (learns c next
      ∷ doing moment (Learn secret) (Learnt generation ∷ []) ∷ [])
  pub twice : (next : ℕ) →
      IsRefused secrets setup (doing moment (Learn secret) (Learnt next ∷ Learnt generation ∷ [])
      ∷ [])
  -- the number after the current one meets the line, and so it does after an Advanced
  pub first : LearntLine setup (Learn secret) nothing_done (setup.generation + 1)
  pub later : (next : ℕ) →
      LearntLine setup (Learn secret)
      (with_entry 0 (Advanced next) (with_entry 0 (Learnt next) nothing_done)) (next + 1)

-- Of a generation that becomes the current one.
pub record AdvancedsRefused (secrets : Secrets) (setup : Setup) (moment : ℕ) (secret : List ℕ)
    (draws : Draws) (generation : ℕ) : Type 0 where
  -- no call but an advance goes over to one
  pub in_open : (towards : List ℕ) (candidates : List AddressParts) (c : Call) (next : ℕ) →
      IsRefused secrets setup (learns c next
      ∷ doing moment (Open towards candidates draws) (Advanced generation ∷ []) ∷ [])
  pub in_cancel : (m : ℕ) (c : Call) (next : ℕ) →
      IsRefused secrets setup (learns c next
      ∷ doing moment (Cancel m) (Advanced generation ∷ []) ∷ [])
  pub in_learn : (c : Call) (next : ℕ) →
      IsRefused secrets setup (learns c next
      ∷ doing moment (Learn secret) (Advanced generation ∷ []) ∷ [])
  pub in_receive : (from : AddressParts) (datagram : List ℕ) (c : Call) (next : ℕ) →
      IsRefused secrets setup (learns c next
      ∷ doing moment (Receive from datagram draws) (Advanced generation ∷ []) ∷ [])
  pub in_tick : (c : Call) (next : ℕ) →
      IsRefused secrets setup (learns c next ∷ doing moment (Tick draws) (Advanced generation ∷ [])
      ∷ [])
  -- no next one is known: none was learnt, or it is the current one already, also by the same call
  pub unknown : IsRefused secrets setup (doing moment Advance (Advanced generation ∷ []) ∷ [])
  pub again : (c d : Call) (next : ℕ) →
      IsRefused secrets setup (learns c next ∷ advances d next
      ∷ doing moment Advance (Advanced generation ∷ []) ∷ [])
  pub twice : (c : Call) (next : ℕ) →
      IsRefused secrets setup (learns c next
      ∷ doing moment Advance (Advanced next ∷ Advanced generation ∷ []) ∷ [])
  -- another number than that of the next one, such as the current one's
  pub other_number : (c : Call) (next : ℕ) → generation ≢ next →
      IsRefused secrets setup (learns c next ∷ doing moment Advance (Advanced generation ∷ []) ∷ [])
  -- the number of the next one meets the line
  pub next_one : AdvancedLine Advance (with_entry 0 (Learnt generation) nothing_done) generation

-- ---- what comes in another generation

-- The datagram opens in the startup context of no secret of this generation.
abbrev pub OpensNotIn : Secrets → ℕ → ℕ → List ℕ → Type 0
OpensNotIn secrets generation sid sent =
    (plain : List ℕ) → OpensUnder secrets (Startup generation) sid sent plain → ⊥

-- Of a session that is born, and of an attempt that opens, by a datagram.
pub record ComersRefused (secrets : Secrets) (setup : Setup) (moment : ℕ) (b c d : Call)
    (from : AddressParts) (sent : List ℕ) (draws : Draws) (next : ℕ) (j : Joined) : Type 0 where
  -- born of one that opens in none of the two generations that are known, and in one that was the
  -- current one
  pub in_neither : OpensNotIn secrets setup.generation 0 sent → OpensNotIn secrets next 0 sent →
      IsRefused secrets setup (learns c next ∷ born_in moment (Receive from sent draws) j)
  pub in_the_last : OpensNotIn secrets next 0 sent →
      IsRefused secrets setup (learns c next ∷ advances d next
      ∷ born_in moment (Receive from sent draws) j)
  -- An attempt whose keying didn't go out opens by one in the current generation alone: not in the
  -- next one, and not in one that was the current one.
  pub opened_in_the_next : OpensNotIn secrets setup.generation j.near sent →
      IsRefused secrets setup (doing 0 b (says (Started j.peer j.n j.near j.ni)) ∷ learns c next
      ∷ doing moment (Receive from sent draws) (says (Opened j)) ∷ [])
  pub opened_in_the_last : OpensNotIn secrets next j.near sent →
      IsRefused secrets setup (doing 0 b (says (Started j.peer j.n j.near j.ni)) ∷ learns c next
      ∷ advances d next ∷ doing moment (Receive from sent draws) (says (Opened j)) ∷ [])
  -- one whose keying went out opens by one in the generation of that keying alone
  pub opened_in_another : (to : AddressParts) (keying : List ℕ) (generation : ℕ) →
      IsKeyingOf secrets j.near generation (record {
        to = to;
        datagram = keying;
        context = Startup generation;
      }) → OpensNotIn secrets generation j.near sent →
      IsRefused secrets setup (doing 0 b (FactEntry (Started j.peer j.n j.near j.ni)
      ∷ Out to keying (Startup generation) ∷ [])
      ∷ doing moment (Receive from sent draws) (says (Opened j)) ∷ [])

-- ---- what goes out in another generation, or without a hello

-- an attempt with this number, session ID and nonce, which an open towards its peer starts
abbrev pub attempting : List ℕ → List AddressParts → Draws → ℕ → ℕ → List ℕ → Event
attempting peer candidates drawn n near ni =
    doing 0 (Open peer candidates drawn) (says (Started peer n near ni))

-- Of a datagram with an initiator's keying of the attempt under session ID 5, in this generation.
pub record KeyingsInOthersRefused (secrets : Secrets) (setup : Setup) (moment : ℕ) (b c d : Call)
    (from to : AddressParts) (draws : Draws) (hello sent : List ℕ) (peer ni : List ℕ)
    (generation next : ℕ) : Type 0 where
  -- the first one, in a call that takes no datagram, and in one whose datagram has no responder's
  -- hello
  pub unasked : receive_in d ≡ None →
      IsRefused secrets setup (doing 0 b (says (Started peer 1 5 ni))
      ∷ doing moment d (sends to sent (Startup generation)) ∷ [])
  pub no_hello : (packet : Whole) → ReadsUnder secrets (Startup generation) 0 hello packet →
      ((placed : Placed) (tag cookie cert : List ℕ) → IsAmong placed (chunks_of packet) →
      Spells (RHello tag cookie cert) placed.kind placed.payload → ⊥) →
      IsRefused secrets setup (doing 0 b (says (Started peer 1 5 ni))
      ∷ doing moment (Receive from hello draws) (sends to sent (Startup generation)) ∷ [])
  -- to a hello with another tag than the attempt's open drew
  pub other_tag : (candidates : List AddressParts) (drawn : Draws) (says_hello : Hello) →
      BringsHello secrets generation hello says_hello → says_hello.tag ≢ drawn.tag →
      IsRefused secrets setup (doing 0 (Open peer candidates drawn) (says (Started peer 1 5 ni))
      ∷ doing moment (Receive from hello draws) (sends to sent (Startup generation)) ∷ [])
  -- to one whose certificate has another fingerprint than the attempt's peer, or is none
  pub other_peer : (says_hello : Hello) → BringsHello secrets generation hello says_hello →
      sha256 says_hello.cert ≢ peer →
      IsRefused secrets setup (doing 0 b (says (Started peer 1 5 ni))
      ∷ doing moment (Receive from hello draws) (sends to sent (Startup generation)) ∷ [])
  pub no_certificate : (says_hello : Hello) → BringsHello secrets generation hello says_hello →
      (IsCertificate says_hello.cert → ⊥) →
      IsRefused secrets setup (doing 0 b (says (Started peer 1 5 ni))
      ∷ doing moment (Receive from hello draws) (sends to sent (Startup generation)) ∷ [])
  -- to one with a cookie of more than 128 bytes
  pub wide_cookie : (says_hello : Hello) → BringsHello secrets generation hello says_hello →
      128 < length says_hello.cookie →
      IsRefused secrets setup (doing 0 b (says (Started peer 1 5 ni))
      ∷ doing moment (Receive from hello draws) (sends to sent (Startup generation)) ∷ [])
  -- in a packet that isn't one of startup
  pub other_mode : (packet : Whole) → ReadsUnder secrets (Startup generation) 0 hello packet →
      packet.head.mode ≢ StartupMode →
      IsRefused secrets setup (doing 0 b (says (Started peer 1 5 ni))
      ∷ doing moment (Receive from hello draws) (sends to sent (Startup generation)) ∷ [])
  -- where an attempt towards another peer, or a search, stands under a lower session ID, whose
  -- open or seek drew the same tag
  pub higher_than_attempt : (towards nonce : List ℕ) (others candidates : List AddressParts)
      (other drawn : Draws) → other.tag ≡ drawn.tag →
      IsRefused secrets setup (attempting towards others other 1 4 nonce
      ∷ attempting peer candidates drawn 2 5 ni
      ∷ doing moment (Receive from hello draws) (sends to sent (Startup generation)) ∷ [])
  pub higher_than_search : (name : List ℕ) (others candidates : List AddressParts)
      (other drawn : Draws) → other.tag ≡ drawn.tag →
      IsRefused secrets setup (answering 0 (Seek name others other) (Searching 4) (Sought 4 name
      ∷ [])
      ∷ attempting peer candidates drawn 1 5 ni
      ∷ doing moment (Receive from hello draws) (sends to sent (Startup generation)) ∷ [])
  -- in a generation in which the hello doesn't open, though that is the current one, and in the
  -- next one where the hello opens in the current one
  pub in_the_current : OpensNotIn secrets setup.generation 0 hello →
      generation ≡ setup.generation →
      IsRefused secrets setup (doing 0 b (says (Started peer 1 5 ni)) ∷ learns c next
      ∷ doing moment (Receive from hello draws) (sends to sent (Startup generation)) ∷ [])
  pub in_the_next : (plain : List ℕ) →
      OpensUnder secrets (Startup setup.generation) 0 hello plain →
      generation ≢ setup.generation →
      IsRefused secrets setup (doing 0 b (says (Started peer 1 5 ni)) ∷ learns c next
      ∷ doing moment (Receive from hello draws) (sends to sent (Startup generation)) ∷ [])
  -- a later one, in another generation than the first one, whatever it comes of
  pub other_than_before : (first : List ℕ) (before : ℕ) → generation ≢ before →
      IsKeyingOf secrets 5 before (record {
        to = to;
        datagram = first;
        context = Startup before;
      }) → IsRefused secrets setup (doing 0 b (FactEntry (Started peer 1 5 ni)
      ∷ Out to first (Startup before) ∷ [])
      ∷ doing moment d (sends to sent (Startup generation)) ∷ [])
  -- A hello with the attempt's tag, a cookie of 128 bytes and its peer's certificate is taken.
  pub fitting : (candidates : List AddressParts) (drawn : Draws) (says_hello : Hello)
      (brings : BringsHello secrets setup.generation hello says_hello) →
      brings.packet.head.mode ≡ StartupMode → says_hello.tag ≡ drawn.tag →
      length says_hello.cookie ≡ 128 → IsCertificate says_hello.cert →
      peer ≡ sha256 says_hello.cert →
      HasHello secrets setup
      (with_event 0 (attempting peer candidates drawn 1 5 ni) nothing_done) peer 5
      setup.generation hello

-- Of a session that was born of a keying where a next generation was known: its own keying, and a
-- datagram in it.
pub record AnswersInOthersRefused (secrets : Secrets) (setup : Setup) (moment : ℕ) (c d : Call)
    (from to : AddressParts) (draws : Draws) (keying sent : List ℕ) (next : ℕ) (j : Joined)
    (near : ℕ) (part sign : List ℕ) : Type 0 where
  -- The keying came in the next generation, and is answered in the current one: in its call, and
  -- later.
  pub in_the_current : OpensNotIn secrets setup.generation 0 keying →
      HasChunk secrets (Startup setup.generation) sent (RIKeying near part sign) →
      setup.generation ≢ next →
      IsRefused secrets setup (learns c next
      ∷ doing moment (Receive from keying draws) (FactEntry (Born j)
      ∷ Out to sent (Startup setup.generation) ∷ []) ∷ [])
  pub in_the_current_later : OpensNotIn secrets setup.generation 0 keying →
      HasChunk secrets (Startup setup.generation) sent (RIKeying near part sign) →
      setup.generation ≢ next →
      IsRefused secrets setup (learns c next
      ∷ doing moment (Receive from keying draws) (says (Born j))
      ∷ doing moment d (sends to sent (Startup setup.generation)) ∷ [])
  -- or in the one that is current since
  pub in_the_new : (a : Call) (plain : List ℕ) →
      OpensUnder secrets (Startup setup.generation) 0 keying plain →
      HasChunk secrets (Startup next) sent (RIKeying near part sign) → setup.generation ≢ next →
      IsRefused secrets setup (learns c next
      ∷ doing moment (Receive from keying draws) (says (Born j)) ∷ advances a next
      ∷ doing moment d (sends to sent (Startup next)) ∷ [])
  -- The same of datagrams in the session.
  pub session_in_the_current : OpensNotIn secrets setup.generation 0 keying →
      setup.generation ≢ next →
      IsRefused secrets setup (learns c next
      ∷ doing moment (Receive from keying draws) (says (Born j))
      ∷ doing moment d (sends to sent
      (session_context setup.generation (as_responder (own_of setup) j) false)) ∷ [])
  pub session_in_the_new : (a : Call) (plain : List ℕ) →
      OpensUnder secrets (Startup setup.generation) 0 keying plain → setup.generation ≢ next →
      IsRefused secrets setup (learns c next
      ∷ doing moment (Receive from keying draws) (says (Born j)) ∷ advances a next
      ∷ doing moment d (sends to sent
      (session_context next (as_responder (own_of setup) j) false)) ∷ [])

abbrev pub TheTableRefusesLearnts : Type 0
TheTableRefusesLearnts = (secrets : Secrets) (setup : Setup) (moment : ℕ) (secret : List ℕ)
    (draws : Draws) (generation : ℕ) →
    LearntsRefused secrets setup moment secret draws generation

abbrev pub TheTableRefusesAdvances : Type 0
TheTableRefusesAdvances = (secrets : Secrets) (setup : Setup) (moment : ℕ) (secret : List ℕ)
    (draws : Draws) (generation : ℕ) →
    AdvancedsRefused secrets setup moment secret draws generation

abbrev pub TheTableRefusesComers : Type 0
TheTableRefusesComers = (secrets : Secrets) (setup : Setup) (moment : ℕ) (b c d : Call)
    (from : AddressParts) (sent : List ℕ) (draws : Draws) (next : ℕ) (j : Joined) →
    ComersRefused secrets setup moment b c d from sent draws next j

abbrev pub TheTableRefusesKeyingsInOthers : Type 0
TheTableRefusesKeyingsInOthers = (secrets : Secrets) (setup : Setup) (moment : ℕ) (b c d : Call)
    (from to : AddressParts) (draws : Draws) (hello sent peer ni : List ℕ) (generation next : ℕ)
    (cookie cert part sign : List ℕ) →
    HasChunk secrets (Startup generation) sent (IIKeying 5 cookie cert part sign) →
    KeyingsInOthersRefused secrets setup moment b c d from to draws hello sent peer ni generation
    next

abbrev pub TheTableRefusesAnswersInOthers : Type 0
TheTableRefusesAnswersInOthers = (secrets : Secrets) (setup : Setup) (moment : ℕ) (c d : Call)
    (from to : AddressParts) (draws : Draws) (keying sent : List ℕ) (next : ℕ) (j : Joined)
    (near : ℕ) (part sign : List ℕ) →
    AnswersInOthersRefused secrets setup moment c d from to draws keying sent next j near part sign
