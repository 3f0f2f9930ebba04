-- What the table refuses of an Ended of a session that nothing overrides.
use Rattle.std.specs.Prelude.{ℕ, ◌≢◌, List, [], ◌∷◌, ◌++◌}
use Rattle.rtmfp_forms.specs.Address.{AddressParts}
use Rattle.rtmfp_chunks.specs.Chunk.{Close as CloseChunk}
use Rattle.glare_core.specs.declared.facts.Why.{Why}
use Rattle.glare_core.specs.declared.facts.Why.TheVariants.{Unconfirmed, Near, Far, Idle}
use Rattle.glare_core.specs.declared.facts.Fact.TheVariants.{Started, Born, Opened, Confirmed, Ended}
use Rattle.glare_core.specs.declared.facts.Joined.{Joined}
use Rattle.endpoint_model.specs.declared.config.Draws.{Draws}
use Rattle.endpoint_model.specs.declared.entry.Entry.{Entry}
use Rattle.endpoint_model.specs.Event.{Setup, Call, Open, Cancel, Close, Receive, Tick, Event}
use Rattle.endpoint_laws.specs.Contexts.{Secrets}
use Rattle.endpoint_laws.specs.Past.{Past, nothing_done, with_begun, with_fact}
use Rattle.endpoint_laws.specs.Lawful.{EndedLine}
use Rattle.endpoint_checks.specs.Logs.{answering, doing, says, IsRefused, past_of_birth, WasBornIn}
use Rattle.endpoint_checks.specs.Ends.{after_start, after_birth}
use Rattle.endpoint_checks.specs.Takes.{ComesIn, Brings, UntakenRefused}

-- the end of a session is stated
abbrev pub ends : Joined → Why → List Entry
ends j why = says (Ended j.peer j.near why)

-- the log of a session that was born and confirmed at a moment, and then of more events
abbrev pub after_confirmed : ℕ → Call → Call → Joined → List Event → List Event
after_confirmed moment c d j more = doing moment c (says (Born j))
    ∷ doing moment d (says (Confirmed j.peer j.near)) ∷ more

-- the log of a session that was opened here at a moment, and then of one more event
abbrev pub after_opened : ℕ → Call → Call → Joined → Event → List Event
after_opened moment c d j last = doing 0 c (says (Started j.peer j.n j.near j.ni))
    ∷ doing moment d (says (Opened j)) ∷ last ∷ []

-- What the cause of an end refuses of whatever is no session with this peer and session ID: in a
-- call that would else fit.
pub record OthersRefused (secrets : Secrets) (setup : Setup) (moment : ℕ) (c call : Call)
    (j : Joined) (why : Why) : Type 0 where
  pub other_id : (near : ℕ) → near ≢ j.near →
      IsRefused secrets setup (after_birth c j (doing moment call (says (Ended j.peer near why))))
  pub other_peer : (other : List ℕ) → j.peer ≢ other →
      IsRefused secrets setup (after_birth c j (doing moment call (says (Ended other j.near why))))
  pub of_nothing : IsRefused secrets setup (doing moment call (ends j why) ∷ [])
  pub of_attempt : (peer : List ℕ) →
      IsRefused secrets setup (after_start 0 c peer (doing moment call (says (Ended peer 5 why))))
  -- one that has ended already
  pub again : (d : Call) (before : Why) →
      IsRefused secrets setup (doing 0 c (says (Born j)) ∷ doing 0 d (ends j before)
      ∷ doing moment call (ends j why) ∷ [])

pub record UnconfirmedRefused (secrets : Secrets) (setup : Setup) (moment : ℕ) (c d : Call)
    (from : AddressParts) (sent : List ℕ) (draws : Draws) (j : Joined) : Type 0 where
  pub others : OthersRefused secrets setup moment c (Tick draws) j Unconfirmed
  -- another call than a tick
  pub in_open : (towards : List ℕ) (candidates : List AddressParts) →
      IsRefused secrets setup
      (after_birth c j (doing moment (Open towards candidates draws) (ends j Unconfirmed)))
  pub in_cancel : (m : ℕ) →
      IsRefused secrets setup (after_birth c j (doing moment (Cancel m) (ends j Unconfirmed)))
  pub in_close : (id : ℕ) →
      IsRefused secrets setup (after_birth c j (doing moment (Close id) (ends j Unconfirmed)))
  pub in_receive
      : IsRefused secrets setup
      (after_birth c j (doing moment (Receive from sent draws) (ends j Unconfirmed)))
  -- a tick 19,999 ms after the birth, also where that wasn't at 0
  pub early : IsRefused secrets setup (after_birth c j (doing 19999 (Tick draws)
      (ends j Unconfirmed)))
  pub early_later
      : IsRefused secrets setup
      (doing 7 c (says (Born j)) ∷ doing 20006 (Tick draws) (ends j Unconfirmed) ∷ [])
  -- a session that was confirmed, and one that was opened here
  pub of_confirmed
      : IsRefused secrets setup
      (after_confirmed 0 c d j (doing moment (Tick draws) (ends j Unconfirmed) ∷ []))
  pub of_opened
      : IsRefused secrets setup (after_opened 0 c d j (doing moment (Tick draws)
      (ends j Unconfirmed)))
  -- one at 20,000 ms meets the line
  pub in_time : EndedLine secrets setup 20000 (Tick draws)
      (past_of_birth nothing_done (doing 0 c []) j) [] j.peer j.near Unconfirmed

pub record NearsRefused (secrets : Secrets) (setup : Setup) (moment : ℕ) (c : Call)
    (from : AddressParts) (sent : List ℕ) (draws : Draws) (j : Joined) : Type 0 where
  pub others : OthersRefused secrets setup moment c (Close j.near) j Near
  -- another call than a close, or a close of another session
  pub in_open : (towards : List ℕ) (candidates : List AddressParts) →
      IsRefused secrets setup (after_birth c j (doing moment (Open towards candidates draws)
      (ends j Near)))
  pub in_cancel : (m : ℕ) →
      IsRefused secrets setup (after_birth c j (doing moment (Cancel m) (ends j Near)))
  pub in_receive
      : IsRefused secrets setup (after_birth c j (doing moment (Receive from sent draws)
      (ends j Near)))
  pub in_tick : IsRefused secrets setup (after_birth c j (doing moment (Tick draws) (ends j Near)))
  pub of_another : (id : ℕ) → id ≢ j.near →
      IsRefused secrets setup (after_birth c j (doing moment (Close id) (ends j Near)))
  -- a close of it meets the line
  pub by_close : EndedLine secrets setup moment (Close j.near)
      (past_of_birth nothing_done (doing 0 c []) j) [] j.peer j.near Near

pub record FarsRefused (secrets : Secrets) (setup : Setup) (moment : ℕ) (c : Call)
    (from : AddressParts) (sent : List ℕ) (draws : Draws) (j : Joined) : Type 0 where
  pub others : OthersRefused secrets setup moment c (Receive from sent draws) j Far
  -- a call that takes no datagram
  pub in_open : (towards : List ℕ) (candidates : List AddressParts) →
      IsRefused secrets setup (after_birth c j (doing moment (Open towards candidates draws)
      (ends j Far)))
  pub in_cancel : (m : ℕ) → IsRefused secrets setup (after_birth c j (doing moment (Cancel m)
      (ends j Far)))
  pub in_close : (id : ℕ) → IsRefused secrets setup (after_birth c j (doing moment (Close id)
      (ends j Far)))
  pub in_tick : IsRefused secrets setup (after_birth c j (doing moment (Tick draws) (ends j Far)))
  -- a datagram that the session doesn't take, or that has no close
  pub untaken : UntakenRefused secrets setup from sent draws j CloseChunk
      (λ more answer. IsRefused secrets setup (doing 0 c (says (Born j))
      ∷ more ++ answering moment (Receive from sent draws) answer (ends j Far) ∷ []))
  -- one with a close meets the line, in the generation in which the session was born, whatever was
  -- done before
  pub by_close : (generation : ℕ) (before : Past) (e : Event) →
      WasBornIn secrets setup generation before e →
      Brings secrets setup generation j sent CloseChunk →
      EndedLine secrets setup moment (Receive from sent draws)
      (with_begun moment (doing moment (Receive from sent draws) (ends j Far))
      (past_of_birth before e j)) [] j.peer j.near Far

pub record IdlesRefused (secrets : Secrets) (setup : Setup) (moment : ℕ) (c d : Call)
    (from : AddressParts) (sent : List ℕ) (draws : Draws) (j : Joined) : Type 0 where
  pub others : OthersRefused secrets setup moment c (Tick draws) j Idle
  -- another call than a tick
  pub in_open : (towards : List ℕ) (candidates : List AddressParts) →
      IsRefused secrets setup
      (after_confirmed 0 c d j (doing moment (Open towards candidates draws) (ends j Idle) ∷ []))
  pub in_cancel : (m : ℕ) →
      IsRefused secrets setup (after_confirmed 0 c d j (doing moment (Cancel m) (ends j Idle) ∷ []))
  pub in_close : (id : ℕ) →
      IsRefused secrets setup (after_confirmed 0 c d j (doing moment (Close id) (ends j Idle) ∷ []))
  pub in_receive
      : IsRefused secrets setup
      (after_confirmed 0 c d j (doing moment (Receive from sent draws) (ends j Idle) ∷ []))
  -- a session that wasn't confirmed
  pub of_half_open : IsRefused secrets setup (after_birth c j (doing moment (Tick draws)
      (ends j Idle)))
  -- a tick 119,999 ms after the session began, by its birth or its opening, also where that wasn't
  -- at 0
  pub early
      : IsRefused secrets setup
      (after_confirmed 0 c d j (doing 119999 (Tick draws) (ends j Idle) ∷ []))
  pub early_later
      : IsRefused secrets setup
      (after_confirmed 7 c d j (doing 120006 (Tick draws) (ends j Idle) ∷ []))
  pub early_opened
      : IsRefused secrets setup (after_opened 7 c d j (doing 120006 (Tick draws) (ends j Idle)))
  -- and 119,999 ms after it took a datagram
  pub heard : ComesIn secrets setup setup.generation j sent →
      IsRefused secrets setup (doing 0 c (says (Born j))
      ∷ doing 1 (Receive from sent draws) (says (Confirmed j.peer j.near))
      ∷ doing 120000 (Tick draws) (ends j Idle) ∷ [])
  -- one at 120,000 ms meets the line
  pub in_time : (generation : ℕ) (before : Past) (e : Event) →
      WasBornIn secrets setup generation before e → EndedLine secrets setup 120000 (Tick draws)
      (with_fact 0 (Confirmed j.peer j.near) (past_of_birth before e j)) [] j.peer j.near Idle

abbrev pub TheTableRefusesUnconfirmed : Type 0
TheTableRefusesUnconfirmed = (secrets : Secrets) (setup : Setup) (moment : ℕ) (c d : Call)
    (from : AddressParts)
    (sent : List ℕ) (draws : Draws) (j : Joined)
    → UnconfirmedRefused secrets setup moment c d from sent draws j

abbrev pub TheTableRefusesNears : Type 0
TheTableRefusesNears = (secrets : Secrets) (setup : Setup) (moment : ℕ) (c : Call)
    (from : AddressParts)
    (sent : List ℕ) (draws : Draws) (j : Joined) →
    NearsRefused secrets setup moment c from sent draws j

abbrev pub TheTableRefusesFars : Type 0
TheTableRefusesFars = (secrets : Secrets) (setup : Setup) (moment : ℕ) (c : Call)
    (from : AddressParts) (sent : List ℕ)
    (draws : Draws) (j : Joined) → FarsRefused secrets setup moment c from sent draws j

abbrev pub TheTableRefusesIdles : Type 0
TheTableRefusesIdles = (secrets : Secrets) (setup : Setup) (moment : ℕ) (c d : Call)
    (from : AddressParts)
    (sent : List ℕ) (draws : Draws) (j : Joined) →
    IdlesRefused secrets setup moment c d from sent draws j
