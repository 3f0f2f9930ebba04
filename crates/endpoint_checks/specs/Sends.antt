-- What the table refuses of a datagram that goes out.
use Rattle.std.specs.FinMap.{get}
use Rattle.std.specs.Prelude.{Some, None, ℕ, ◌≡◌, ◌≢◌, ◌<◌, List, [], ◌∷◌, length, drop, Ok, Bool, true, false}
use Rattle.crypto_profile.specs.declared.keys.Context.{Context}
use Rattle.crypto_profile.specs.declared.keys.Context.TheVariants.{Startup, Session}
use Rattle.crypto_profile.specs.Sealing.{sealed_in, number_of}
use Rattle.packet_scramble.specs.Datagram.{datagram}
use Rattle.rtmfp_forms.specs.Address.{AddressParts}
use Rattle.rtmfp_packet.specs.Whole.{Whole}
use Rattle.rtmfp_packet.specs.Walk.{Placed}
use Rattle.rtmfp_packet.specs.Reading.{PacketReading}
use Rattle.rtmfp_chunks.specs.Chunk.{Chunk, IIKeying, RIKeying, Spells}
use Rattle.glare_core.specs.declared.facts.Why.{Why}
use Rattle.glare_core.specs.declared.facts.Why.TheVariants.{Cancelled}
use Rattle.glare_core.specs.declared.facts.Fact.TheVariants.{Started, Born, Opened, Ended}
use Rattle.glare_core.specs.declared.facts.Joined.{Joined}
use Rattle.glare_core.specs.Tells.{as_initiator, as_responder}
use Rattle.endpoint_model.specs.declared.entry.Entry.{Entry}
use Rattle.endpoint_model.specs.declared.entry.Entry.TheVariants.{Fact as FactEntry, Closed, Out}
use Rattle.endpoint_model.specs.Event.{Setup, own_of, Call, Event}
use Rattle.endpoint_laws.specs.Past.{Past, is_close}
use Rattle.endpoint_laws.specs.Contexts.{Secrets, generation_of, session_context}
use Rattle.endpoint_laws.specs.Lawful.{InSession}
use Rattle.endpoint_model.specs.Keying.{IsAmong, chunks_of, initiator_part, responder_part}
use Rattle.endpoint_checks.specs.Logs.{doing, says, IsRefused, past_of_end, WasBornIn}

-- a datagram that goes out in a context
abbrev pub sends : AddressParts → List ℕ → Context → List Entry
sends to sent context = Out to sent context ∷ []

pub record SendsRefused (secrets : Secrets) (setup : Setup) (moment : ℕ) (c : Call)
    (to : AddressParts) (sent : List ℕ) (context : Context) : Type 0 where
  -- what isn't sealed in its context, such as a datagram that is too short
  pub short : length sent < 36 → IsRefused secrets setup (doing moment c (sends to sent context)
      ∷ [])
  pub unsealed : ((secret : List ℕ) (sid : ℕ) (number plain : List ℕ) →
      get secrets (generation_of context) ≡ Some secret →
      sent ≢ datagram sid (sealed_in secret context sid number plain)) →
      IsRefused secrets setup (doing moment c (sends to sent context) ∷ [])
  -- or goes out in a generation for which the group has no secret
  pub unknown : get secrets (generation_of context) ≡ None →
      IsRefused secrets setup (doing moment c (sends to sent context) ∷ [])

-- Of two datagrams with one number.
pub record NumbersRefused (secrets : Secrets) (setup : Setup) (moment : ℕ) (c d : Call)
    (first second : AddressParts) (sent again : List ℕ) : Type 0 where
  -- in the startup context of a generation, in one call and in two
  pub in_startup : (generation : ℕ) →
      IsRefused secrets setup
      (doing moment c (Out first sent (Startup generation)
      ∷ Out second again (Startup generation) ∷ []) ∷ [])
  pub in_two_calls : (generation : ℕ) →
      IsRefused secrets setup (doing 0 c (sends first sent (Startup generation))
      ∷ doing moment d (sends second again (Startup generation)) ∷ [])
  -- and in the context of a session, where no nonce was drawn twice
  pub in_session : (peer ni : List ℕ) (near generation : ℕ) (x y fp_i fp_r : List ℕ)
      (sid_i sid_r : ℕ) (to_responder : Bool) →
      IsRefused secrets setup (
      doing 0 c (says (Started peer 1 near ni))
      ∷ doing moment d (Out first sent (Session generation x y fp_i fp_r sid_i sid_r to_responder)
      ∷ Out second again (Session generation x y fp_i fp_r sid_i sid_r to_responder) ∷ [])
      ∷ [])

-- The datagram is one of a packet in which this chunk is.
pub record HasChunk (secrets : Secrets) (context : Context) (sent : List ℕ) (chunk : Chunk)
    : Type 0 where
  pub secret : List ℕ
  pub known : get secrets (generation_of context) ≡ Some secret
  pub sid : ℕ
  pub number : List ℕ
  pub plain : List ℕ
  pub numbered : length number ≡ 16
  pub is : sent ≡ datagram sid (sealed_in secret context sid number plain)
  pub packet : Whole
  pub reads : PacketReading plain (Ok packet)
  pub placed : Placed
  pub among : IsAmong placed (chunks_of packet)
  pub spells : Spells chunk placed.kind placed.payload

-- Of a datagram with an initiator's keying.
pub record KeyingsSentRefused (secrets : Secrets) (setup : Setup) (moment : ℕ) (c d : Call)
    (to : AddressParts) (sent : List ℕ) (context : Context) (peer ni : List ℕ) (near : ℕ)
    (cert part : List ℕ) : Type 0 where
  -- in another context than startup's of the first generation, where no other one is known, as in
  -- that of another one; with another certificate than the own one; and where no attempt is held
  pub other_context : context ≢ Startup setup.generation →
      IsRefused secrets setup (doing 0 c (says (Started peer 1 5 ni))
      ∷ doing moment d (sends to sent context) ∷ [])
  pub other_generation : (generation : ℕ) → context ≡ Startup generation →
      generation ≢ setup.generation →
      IsRefused secrets setup (doing 0 c (says (Started peer 1 5 ni))
      ∷ doing moment d (sends to sent context) ∷ [])
  pub other_cert : cert ≢ setup.cert →
      IsRefused secrets setup (doing 0 c (says (Started peer 1 5 ni))
      ∷ doing moment d (sends to sent context) ∷ [])
  pub no_attempt : IsRefused secrets setup (doing moment d (sends to sent context) ∷ [])
  -- with another session ID or another component than the attempt's
  pub other_id : near ≢ 5 →
      IsRefused secrets setup (doing 0 c (says (Started peer 1 5 ni))
      ∷ doing moment d (sends to sent context) ∷ [])
  pub other_part : part ≢ initiator_part ni 1 peer →
      IsRefused secrets setup (doing 0 c (says (Started peer 1 5 ni))
      ∷ doing moment d (sends to sent context) ∷ [])
  -- of an attempt that is over, and of one that opened
  pub over : IsRefused secrets setup (doing 0 c (FactEntry (Started peer 1 5 ni)
      ∷ FactEntry (Ended peer 5 Cancelled) ∷ []) ∷ doing moment d (sends to sent context) ∷ [])
  pub is_open : (j : Joined) → j.peer ≡ peer →
      IsRefused secrets setup (doing 0 c (FactEntry (Started peer 1 5 ni) ∷ FactEntry (Opened j)
      ∷ [])
      ∷ doing moment d (sends to sent context) ∷ [])

-- Of a datagram with a responder's keying.
pub record AnswersSentRefused (secrets : Secrets) (setup : Setup) (moment : ℕ) (c d : Call)
    (to : AddressParts) (sent : List ℕ) (context : Context) (j : Joined) (near : ℕ) (part : List ℕ)
    : Type 0 where
  -- in another context than startup's of the first generation, where no other one is known, as in
  -- that of another one, and where no session is held
  pub other_context : context ≢ Startup setup.generation →
      IsRefused secrets setup (doing 0 c (says (Born j)) ∷ doing moment d (sends to sent context)
      ∷ [])
  pub other_generation : (generation : ℕ) → context ≡ Startup generation →
      generation ≢ setup.generation →
      IsRefused secrets setup (doing 0 c (says (Born j)) ∷ doing moment d (sends to sent context)
      ∷ [])
  pub no_session : IsRefused secrets setup (doing moment d (sends to sent context) ∷ [])
  -- with another session ID or another component than the session's, and under another session ID
  -- than its far one
  pub other_id : near ≢ j.near →
      IsRefused secrets setup (doing 0 c (says (Born j)) ∷ doing moment d (sends to sent context)
      ∷ [])
  pub other_part : part ≢ responder_part j.nr j.k (own_of setup) j.ni →
      IsRefused secrets setup (doing 0 c (says (Born j)) ∷ doing moment d (sends to sent context)
      ∷ [])
  pub under_another : ((secret number plain : List ℕ) →
      get secrets (generation_of context) ≡ Some secret →
      sent ≢ datagram j.far (sealed_in secret context j.far number plain)) →
      IsRefused secrets setup (doing 0 c (says (Born j)) ∷ doing moment d (sends to sent context)
      ∷ [])
  -- of a session that has ended, also one that is closing, and of one that was opened here
  pub over : (why : Why) →
      IsRefused secrets setup (doing 0 c (FactEntry (Born j) ∷ FactEntry (Ended j.peer j.near why)
      ∷ [])
      ∷ doing moment d (sends to sent context) ∷ [])
  pub opened_here : (peer ni : List ℕ) (o : Joined) →
      IsRefused secrets setup (doing 0 c (FactEntry (Started peer 1 5 ni) ∷ FactEntry (Opened o)
      ∷ [])
      ∷ doing moment d (sends to sent context) ∷ [])

-- the context of a session that was born at an end, and of one that was opened there
abbrev pub born_context : Setup → Joined → Bool → Context
born_context setup j to_responder =
    session_context setup.generation (as_responder (own_of setup) j) to_responder

abbrev pub opened_context : Setup → Joined → Bool → Context
opened_context setup j to_responder =
    session_context setup.generation (as_initiator (own_of setup) j) to_responder

-- Of a datagram in the context of a session.
pub record InSessionsRefused (secrets : Secrets) (setup : Setup) (moment : ℕ) (c d : Call)
    (to : AddressParts) (sent : List ℕ) (generation : ℕ) (x y fp_i fp_r : List ℕ) (sid_i sid_r : ℕ)
    (to_responder : Bool) (j : Joined) : Type 0 where
  -- nothing is held, or an attempt
  pub nothing_held
      : IsRefused secrets setup
      (doing moment d (sends to sent (Session generation x y fp_i fp_r sid_i sid_r to_responder))
      ∷ [])
  pub attempt_held : (peer ni : List ℕ) →
      IsRefused secrets setup (doing 0 c (says (Started peer 1 5 ni))
      ∷ doing moment d (sends to sent (Session generation x y fp_i fp_r sid_i sid_r to_responder))
      ∷ [])
  -- another context than that of the session that is held, away from this end
  pub other_values : Session generation x y fp_i fp_r sid_i sid_r to_responder
      ≢ born_context setup j false →
      IsRefused secrets setup (doing 0 c (says (Born j))
      ∷ doing moment d (sends to sent (Session generation x y fp_i fp_r sid_i sid_r to_responder))
      ∷ [])
  pub towards : IsRefused secrets setup (doing 0 c (says (Born j))
      ∷ doing moment d (sends to sent (born_context setup j true)) ∷ [])
  pub opened_towards : (ni : List ℕ) →
      IsRefused secrets setup (doing 0 c (FactEntry (Started j.peer 1 5 ni) ∷ FactEntry (Opened j)
      ∷ [])
      ∷ doing moment d (sends to sent (opened_context setup j false)) ∷ [])
  -- in another generation than that in which the session began
  pub other_generation : (other : ℕ) → other ≢ setup.generation →
      IsRefused secrets setup (doing 0 c (says (Born j)) ∷ doing moment d
      (sends to sent (session_context other (as_responder (own_of setup) j) false)) ∷ [])
  pub opened_in_another : (ni : List ℕ) (other : ℕ) → other ≢ setup.generation →
      IsRefused secrets setup (doing 0 c (FactEntry (Started j.peer 1 5 ni) ∷ FactEntry (Opened j)
      ∷ [])
      ∷ doing moment d (sends to sent (session_context other (as_initiator (own_of setup) j) true))
      ∷ [])
  -- under another session ID than its far one
  pub under_another : ((secret number plain : List ℕ) →
      get secrets setup.generation ≡ Some secret →
      sent ≢ datagram j.far (sealed_in secret (born_context setup j false) j.far number plain)) →
      IsRefused secrets setup (doing 0 c (says (Born j))
      ∷ doing moment d (sends to sent (born_context setup j false)) ∷ [])
  -- the same of a session that is closing
  pub closing_values : (why : Why) → Session generation x y fp_i fp_r sid_i sid_r to_responder
      ≢ born_context setup j false →
      IsRefused secrets setup (doing 0 c (FactEntry (Born j) ∷ FactEntry (Ended j.peer j.near why)
      ∷ [])
      ∷ doing moment d (sends to sent (Session generation x y fp_i fp_r sid_i sid_r to_responder))
      ∷ [])
  pub closing_under_another : (why : Why) → ((secret number plain : List ℕ) →
      get secrets setup.generation ≡ Some secret →
      sent ≢ datagram j.far (sealed_in secret (born_context setup j false) j.far number plain)) →
      IsRefused secrets setup (doing 0 c (FactEntry (Born j) ∷ FactEntry (Ended j.peer j.near why)
      ∷ [])
      ∷ doing moment d (sends to sent (born_context setup j false)) ∷ [])
  -- a session that was ended without closing, and one whose closing is over
  pub over : (why : Why) → is_close why ≡ false →
      IsRefused secrets setup (doing 0 c (FactEntry (Born j) ∷ FactEntry (Ended j.peer j.near why)
      ∷ [])
      ∷ doing moment d (sends to sent (Session generation x y fp_i fp_r sid_i sid_r to_responder))
      ∷ [])
  pub closed : (why : Why) →
      IsRefused secrets setup (doing 0 c (FactEntry (Born j) ∷ FactEntry (Ended j.peer j.near why)
      ∷ Closed j.near ∷ [])
      ∷ doing moment d (sends to sent (Session generation x y fp_i fp_r sid_i sid_r to_responder))
      ∷ [])
  -- one that is closing, which either end closed, meets the line, in the generation in which it was
  -- born, whatever was done before
  pub while_closing : (why : Why) → is_close why ≡ true → (before : Past) (e : Event) →
      WasBornIn secrets setup generation before e →
      InSession secrets setup (past_of_end before e j why) j.far
      (session_context generation (as_responder (own_of setup) j) false)

abbrev pub TheTableRefusesSends : Type 0
TheTableRefusesSends = (secrets : Secrets) (setup : Setup) (moment : ℕ) (c : Call)
    (to : AddressParts) (sent : List ℕ)
    (context : Context) → SendsRefused secrets setup moment c to sent context

abbrev pub TheTableRefusesNumbers : Type 0
TheTableRefusesNumbers = (secrets : Secrets) (setup : Setup) (moment : ℕ) (c d : Call)
    (first second : AddressParts)
    (sent again : List ℕ)
    → number_of (drop 4 sent) ≡ number_of (drop 4 again) →
    NumbersRefused secrets setup moment c d first second sent again

abbrev pub TheTableRefusesKeyingsSent : Type 0
TheTableRefusesKeyingsSent = (secrets : Secrets) (setup : Setup) (moment : ℕ) (c d : Call)
    (to : AddressParts)
    (sent : List ℕ) (context : Context) (peer ni : List ℕ) (near : ℕ)
    (cookie cert part sign : List ℕ)
    → HasChunk secrets context sent (IIKeying near cookie cert part sign) →
    KeyingsSentRefused secrets setup moment c d to sent context peer ni near cert part

abbrev pub TheTableRefusesAnswersSent : Type 0
TheTableRefusesAnswersSent = (secrets : Secrets) (setup : Setup) (moment : ℕ) (c d : Call)
    (to : AddressParts)
    (sent : List ℕ) (context : Context) (j : Joined) (near : ℕ) (part sign : List ℕ)
    → HasChunk secrets context sent (RIKeying near part sign) →
    AnswersSentRefused secrets setup moment c d to sent context j near part

abbrev pub TheTableRefusesSendsInSessions : Type 0
TheTableRefusesSendsInSessions = (secrets : Secrets) (setup : Setup) (moment : ℕ) (c d : Call)
    (to : AddressParts)
    (sent : List ℕ) (generation : ℕ) (x y fp_i fp_r : List ℕ) (sid_i sid_r : ℕ)
    (to_responder : Bool) (j : Joined)
    → InSessionsRefused secrets setup moment c d to sent generation x y fp_i fp_r sid_i sid_r
    to_responder j
