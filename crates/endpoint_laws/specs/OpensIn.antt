-- The context in which a datagram opens at an end.
use Rattle.std.specs.Prelude.{ℕ, ◌≡◌, nat_lt, false, if◌then◌else◌, List, length, drop, map, Option, Some, None}
use Rattle.std.specs.FinMap.{get}
use Rattle.crypto_profile.specs.declared.keys.Context.{Context}
use Rattle.crypto_profile.specs.declared.keys.Context.TheVariants.{Startup as StartupContext}
use Rattle.crypto_profile.specs.declared.sealing.SealFault.{SealFault}
use Rattle.crypto_profile.specs.Opening.{open_refusal}
use Rattle.packet_scramble.specs.Datagram.{sid_of}
use Rattle.rtmfp_base.specs.Reasons.{first_that_stands}
use Rattle.session_core.specs.Session.{context_of}
use Rattle.session_core.specs.Hearing.{opens_in as opens_in_session}
use Rattle.endpoint_model.specs.declared.row.Row.{Row}
use Rattle.endpoint_model.specs.declared.place.Place.{Place}
use Rattle.endpoint_model.specs.declared.place.Place.TheVariants.{Startup, Attempt, Session}
use Rattle.endpoint_model.specs.Event.{Setup, Event}
use Rattle.endpoint_laws.specs.Past.{Past, past_of_log}
use Rattle.endpoint_laws.specs.Contexts.{Secrets, Knows, ContextsOf, OpensFirst}
use Rattle.endpoint_model.specs.State.{State}
use Rattle.endpoint_model.specs.Admission.{places_of, sid_at, startup_keys}
use Rattle.endpoint_model.specs.Log.{StandsFor}
use Rattle.endpoint_laws.specs.Laws.{IsSetup, AreCalls}

-- ---- by what is kept

abbrev pub startup_unless : ℕ → Option SealFault → Option Context
startup_unless generation None = Some (StartupContext generation)
startup_unless generation (Some fault) = None

-- the startup context of a generation, where a sealed part opens at a place of that generation
abbrev pub context_in_startup : State → Place → ℕ → List ℕ → Option Context
context_in_startup s place generation part =
    startup_unless generation (open_refusal (startup_keys s place) (sid_at place) part)

-- The context of a session towards this end, where a sealed part opens in it. The numbers taken
-- before don't count.
abbrev pub context_in_session : Option Row → List ℕ → Option Context
context_in_session None part = None
context_in_session (Some row) part = if opens_in_session row.session part then
    Some (context_of row.session false) else None

abbrev pub context_at : State → Place → List ℕ → Option Context
context_at s (Startup generation) part =
    context_in_startup s (Startup generation) generation part
context_at s (Attempt near generation) part =
    context_in_startup s (Attempt near generation) generation part
context_at s (Session near) part = context_in_session (get s.sessions near) part

-- the context of the first of these places at which it opens
abbrev pub context_first : State → List Place → List ℕ → Option Context
context_first s places part =
    first_that_stands (map (λ place. context_at s place part) places)

-- The first of the contexts of the datagram's session ID in which the datagram opens. A datagram of
-- fewer than 36 bytes opens in none.
abbrev pub opens_in : State → List ℕ → Option Context
opens_in s datagram = if nat_lt (length datagram) 36 then None
    else context_first s (places_of s (sid_of datagram)) (drop 4 datagram)

-- ---- by what was done

-- At an end that did this the context is the first of those of the datagram's session ID in which
-- the datagram opens.
pub record OpensAt (secrets : Secrets) (setup : Setup) (past : Past) (datagram : List ℕ)
    (context : Context) : Type 0 where
  pub contexts : List Context
  pub named : ContextsOf secrets setup past (sid_of datagram) contexts
  pub plain : List ℕ
  pub opens : OpensFirst secrets contexts (sid_of datagram) datagram context plain

-- The answer is the context in which the datagram opens at an end with this log, and None where it
-- opens in none.
pub record IsContextAt (secrets : Secrets) (setup : Setup) (log : List Event) (datagram : List ℕ)
    (answer : Option Context) : Type 0 where
  pub opens : (context : Context) → answer ≡ Some context →
      OpensAt secrets setup (past_of_log log) datagram context
  pub all : (context : Context) → OpensAt secrets setup (past_of_log log) datagram context →
      answer ≡ Some context

-- It is so for every log that the end stands for.
abbrev pub OpensByTheLog : State → List ℕ → Option Context → Type 0
OpensByTheLog s datagram answer =
    (secrets : Secrets) (setup : Setup) (log : List Event) →
    Knows secrets setup (past_of_log log) → IsSetup setup → AreCalls log → StandsFor setup log s →
    IsContextAt secrets setup log datagram answer
