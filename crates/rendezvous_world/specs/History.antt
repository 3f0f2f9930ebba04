-- The history that a journal tells: its lines as events of its ends.
use Rattle.std.specs.Prelude.{ℕ, if◌then◌else◌, List, [], ◌∷◌, Option, Some, None}
use Rattle.endpoint_model.specs.declared.entry.Entry.{Entry}
use Rattle.endpoint_model.specs.declared.answers.Stopped.{Stopped as Stop}
use Rattle.endpoint_model.specs.Event.{Call, Receive, Tick as TickCall, Answer, Event}
use Rattle.endpoint_laws.specs.History.{Happened, History}
use Rattle.counted_secrets.specs.Secrets.{secret_after}
use Rattle.rendezvous_world.specs.declared.journal.JournalLine.{JournalLine}
use Rattle.rendezvous_world.specs.declared.journal.Refused.{Refused}
use Rattle.rendezvous_world.specs.declared.step.Step.{Step}
use Rattle.rendezvous_world.specs.Deed.{Deed, Calls, Brings, deed_of, end_of, learns}
use Rattle.rendezvous_world.specs.Calls.{made, peer_in, moment_in, answer_to_datagram, answer_to_tick, answer_in}
use Rattle.rendezvous_world.specs.Draws.{draws_of}
use Rattle.rendezvous_world.specs.Seen.{EndSeen, Seen, print_at}

abbrev pub bytes_or_none : Option (List ℕ) → List ℕ
bytes_or_none None = []
bytes_or_none (Some bytes) = bytes

-- the end whose fingerprint the call is given; for a call that is given none, the end that is
-- called
abbrev pub peer_or : ℕ → Option ℕ → ℕ
peer_or end None = end
peer_or end (Some peer) = peer

abbrev pub peer_of : Deed → ℕ
peer_of (Calls end call) = peer_or end (peer_in call)
peer_of deed = end_of deed

-- the call, by the fingerprint or the secret and the datagram that it is given; a step that calls
-- no end stands in no journal
abbrev pub call_by : List ℕ → ℕ → List ℕ → Deed → Call
call_by print line bytes (Calls end call) = made call print (draws_of line)
call_by print line bytes (Brings end from source) = Receive from bytes (draws_of line)
call_by print line bytes deed = TickCall (draws_of line)

-- The 32 bytes that a call is given, if it is given some: the fingerprint of the end that it names;
-- or, at an end in a generation, the secret of the next one.
abbrev pub given_by : List ℕ → ℕ → Deed → List ℕ
given_by print generation deed = if learns deed then secret_after generation else print

-- the call that a step makes, on this line, at an end in this generation and with this datagram
abbrev pub call_of : List EndSeen → ℕ → ℕ → Option (List ℕ) → Step → Call
call_of ends line generation datagram step =
    call_by (given_by (print_at ends (peer_of (deed_of step))) generation (deed_of step)) line
    (bytes_or_none datagram) (deed_of step)

-- the moment that the call is given
abbrev pub moment_given : ℕ → Deed → ℕ
moment_given moment (Calls end call) = moment_in moment call
moment_given moment deed = moment

-- what the call answered
abbrev pub answer_by : Deed → Option Refused → Option Stop → List Entry → Answer
answer_by (Calls end call) refused stopped entries = answer_in call refused stopped entries
answer_by (Brings end from source) refused stopped entries = answer_to_datagram stopped
answer_by deed refused stopped entries = answer_to_tick stopped

abbrev pub answer_of : Step → Option Refused → Option Stop → List Entry → Answer
answer_of step refused stopped entries = answer_by (deed_of step) refused stopped entries

abbrev pub event_of : List EndSeen → JournalLine → Event
event_of ends line = record {
  moment = moment_given line.moment (deed_of line.step);
  call = call_of ends line.line line.generation line.datagram line.step;
  answer = answer_of line.step line.refused line.stopped line.out.entries;
  entries = line.out.entries;
}

abbrev pub happened : List EndSeen → JournalLine → Happened
happened ends line = record { who = line.end; event = event_of ends line }

-- lines, the oldest first, on top of what happened before them
abbrev pub after_lines : List EndSeen → List JournalLine → History → History
after_lines ends [] earlier = earlier
after_lines ends (line ∷ lines) earlier = after_lines ends lines (happened ends line ∷ earlier)

-- the history of a world, the newest first
abbrev pub history_of : Seen → History
history_of w = after_lines w.ends w.lines []
