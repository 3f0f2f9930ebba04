-- What a step leaves.
use Rattle.std.specs.Prelude.{ℕ, ◌≡◌, ◌-◌, ◌==◌, true, false, List, [], ◌∷◌, ◌++◌, Option, Some, None, is_some, slice_get, if◌then◌else◌}
use Rattle.sha2.specs.Sha256.{sha256}
use Rattle.endpoint_model.specs.Event.{Setup}
use Rattle.endpoint_model.specs.State.{State, fresh, at_moment}
use Rattle.endpoint_model.specs.Log.{Step as StepOf}
use Rattle.counted_secrets.specs.Secrets.{counted_secret}
use Rattle.rendezvous_world.specs.declared.journal.JournalLine.{JournalLine}
use Rattle.rendezvous_world.specs.declared.journal.Refused.{Refused}
use Rattle.endpoint_model.specs.declared.answers.Stopped.{Stopped as Stop}
use Rattle.rendezvous_world.specs.declared.step.Step.{Step}
use Rattle.rendezvous_world.specs.Seen.{EndSeen, Seen, first_generation, generation_at, print_at}
use Rattle.rendezvous_world.specs.Datagrams.{datagram_of}
use Rattle.rendezvous_world.specs.Deed.{Deed, NewEnd, NewMoment, Calls, Brings, deed_of, end_of}
use Rattle.rendezvous_world.specs.Calls.{peer_in, MayAnswer, IsAllowed}
use Rattle.rendezvous_world.specs.History.{event_of, peer_or}

-- what a new end is given
abbrev pub new_setup : ℕ → ℕ → List ℕ → Setup
new_setup max_peers max_sessions cert = record {
  config = record { max_peers = max_peers; max_sessions = max_sessions; introduces = false };
  cert = cert;
  generation = first_generation;
  secret = counted_secret first_generation;
  cookie_secret = sha256 cert;
}

abbrev pub new_end : List ℕ → Setup → EndSeen
new_end name setup = record { name = name; setup = setup; state = fresh setup }

abbrev pub with_end : Seen → EndSeen → Seen
with_end w end = record { moment = w.moment; ends = w.ends ++ end ∷ []; lines = w.lines }

abbrev pub with_moment : Seen → ℕ → Seen
with_moment w moment = record { moment = moment; ends = w.ends; lines = w.lines }

abbrev pub in_state : EndSeen → State → EndSeen
in_state end state = record { name = end.name; setup = end.setup; state = state }

-- the ends, of which the one with this number is now in this state
abbrev pub with_state : List EndSeen → ℕ → State → List EndSeen
with_state [] who state = []
with_state (end ∷ ends) who state = if who == 0 then in_state end state ∷ ends
    else end ∷ with_state ends (who - 1) state

-- the end that a step calls; of others it says nothing
abbrev pub called_by : Step → ℕ
called_by step = end_of (deed_of step)

-- What the line of a step can tell of its answer: a call tells what it can answer, and a datagram is
-- done or stopped. A new end and a new moment call no end and have no line.
abbrev pub HasAnswer : Deed → Option Refused → Option Stop → Type 0
HasAnswer (Calls end call) refused stopped = MayAnswer call refused stopped
HasAnswer (Brings end from source) refused stopped = refused ≡ None
HasAnswer deed refused stopped = ⊥

abbrev pub HasItsAnswer : Step → Option Refused → Option Stop → Type 0
HasItsAnswer step refused stopped = HasAnswer (deed_of step) refused stopped

-- The line tells of its answer what its step can answer.
abbrev pub IsAnswered : JournalLine → Type 0
IsAnswered line = HasItsAnswer line.step line.refused line.stopped

-- A line of the journal is that of this step.
pub record IsLineOf (w : Seen) (number : ℕ) (done : Step) (told : JournalLine) : Type 0 where
  pub line : told.line ≡ number
  pub end : told.end ≡ called_by done
  pub moment : told.moment ≡ w.moment
  pub generation : told.generation ≡ generation_at w.ends (called_by done)
  pub step : told.step ≡ done
  pub datagram : told.datagram ≡ datagram_of w done
  pub answer : HasItsAnswer done told.refused told.stopped

-- The step called an end: the journal has one more line, by whose event that end came from its
-- state to the state that it is in now.
pub record Called (w : Seen) (number : ℕ) (step : Step) (line : JournalLine) (t : Seen)
    : Type 0 where
  pub is_line : IsLineOf w number step line
  pub end : EndSeen
  pub is_end : slice_get w.ends line.end ≡ Some end
  pub state : State
  pub event : StepOf end.state (event_of w.ends line) state
  pub moment : t.moment ≡ w.moment
  pub ends : t.ends ≡ with_state w.ends line.end state
  pub lines : t.lines ≡ w.lines ++ line ∷ []

abbrev pub SteppedAs : Seen → ℕ → Step → Deed → Seen → Type 0
SteppedAs w number step (NewEnd name max_peers max_sessions cert) t =
    t ≡ with_end w (new_end name (new_setup max_peers max_sessions cert))
SteppedAs w number step (NewMoment moment) t = t ≡ with_moment w moment
SteppedAs w number step deed t = (line : JournalLine) × (is_some line.stopped ≡ false) ×
    Called w number step line t

-- The step was done, and memory was found for all of it.
abbrev pub Stepped : Seen → ℕ → Step → Seen → Type 0
Stepped w number step t = SteppedAs w number step (deed_of step) t

-- A datagram or a tick found no memory; the journal has what was done.
pub record StoppedIn (w : Seen) (number : ℕ) (step : Step) (t : Seen) : Type 0 where
  pub line : JournalLine
  pub stopped : is_some line.stopped ≡ true
  pub called : Called w number step line t

-- The deed is an open, a seek or a close, which nothing but want of memory refuses at an end in this
-- state.
abbrev pub AllowsIn : List EndSeen → State → Deed → Type 0
AllowsIn ends s (Calls end call) = IsAllowed (print_at ends (peer_or end (peer_in call))) s call
AllowsIn ends s deed = ⊥

abbrev pub Allows : List EndSeen → State → Step → Type 0
Allows ends s step = AllowsIn ends s (deed_of step)

-- An open, a seek or a close found no memory: all is as before, but that the end that was called keeps
-- the moment of the world, where it kept an earlier one.
pub record Noted (w : Seen) (step : Step) (t : Seen) : Type 0 where
  pub end : EndSeen
  pub is_end : slice_get w.ends (called_by step) ≡ Some end
  pub allows : Allows w.ends end.state step
  pub moment : t.moment ≡ w.moment
  pub ends : t.ends ≡ with_state w.ends (called_by step) (at_moment end.state w.moment)
  pub lines : t.lines ≡ w.lines
