-- What is gathered of a text of logs, line by line.
use Rattle.std.specs.Prelude.{ℕ, zero, suc, ◌≡◌, ◌≤◌, ◌<◌, ◌+◌, ◌-◌, nat_lt, List, [], ◌∷◌, ◌++◌, length, slice_get, Bool, ◌&&◌, Option, Some, None, is_none, IfSome, if◌then◌else◌}
use Rattle.std.specs.Str.{bytes_eq}
use Rattle.endpoint_model.specs.Event.{Setup, Event}
use Rattle.endpoint_model.specs.declared.entry.Entry.{Entry}
use Rattle.log_values.specs.Told.{Logs, IsOrder}
use Rattle.audit_text.specs.declared.line.LogLine.{LogLine}
use Rattle.audit_text.specs.declared.line.LogLine.TheVariants.{Skip, Log as LogOf, Event as EventOf, Entry as EntryOf}
use Rattle.log_reading.specs.Said.{event_said, entry_said, setup_said}

-- the names of the ends, what each was given first and its events, in the order of their logs; the
-- ends of the events, in their order, and the last one; the line of each log, where the lines of
-- each event begin among those of all events and entries, and these; and how many lines there were
pub record Read : Type 0 where
  pub names : List (List ℕ)
  pub setups : List Setup
  pub logs : Logs
  pub order : List ℕ
  pub last : Option ℕ
  pub heads : List ℕ
  pub starts : List ℕ
  pub lines : List ℕ
  pub count : ℕ

abbrev pub nothing_read : Read
nothing_read = record {
  names = [];
  setups = [];
  logs = [];
  order = [];
  last = None;
  heads = [];
  starts = [];
  lines = [];
  count = 0;
}

-- a text has at most so many lines, and tells of at most so many ends
abbrev pub most_lines : ℕ
most_lines = 100000

abbrev pub most_ends : ℕ
most_ends = 1024

-- the place of a name among these, from this one on
abbrev pub place_from : ℕ → List ℕ → List (List ℕ) → Option ℕ
place_from at name [] = None
place_from at name (first ∷ names) =
    if bytes_eq first name then Some at else place_from (at + 1) name names

abbrev pub place_of : List ℕ → List (List ℕ) → Option ℕ
place_of name names = place_from 0 name names

-- one event more
abbrev pub and_event : Event → List Event → List Event
and_event e events = events ++ e ∷ []

-- the log with this number, changed
abbrev pub change_at : ℕ → (List Event → List Event) → Logs → Logs
change_at who change [] = []
change_at zero change (events ∷ logs) = change events ∷ logs
change_at (suc who) change (events ∷ logs) = events ∷ change_at who change logs

-- an event and one entry more; and of events the last one
abbrev pub and_entry : Entry → Event → Event
and_entry entry e = record {
  moment = e.moment;
  call = e.call;
  answer = e.answer;
  entries = e.entries ++ entry ∷ [];
}

abbrev pub to_last : Entry → List Event → List Event
to_last entry [] = []
to_last entry (e ∷ []) = and_entry entry e ∷ []
to_last entry (e ∷ f ∷ events) = e ∷ to_last entry (f ∷ events)

-- ---- what a line adds

abbrev pub with_skip : Read → Read
with_skip r = record {
  names = r.names;
  setups = r.setups;
  logs = r.logs;
  order = r.order;
  last = r.last;
  heads = r.heads;
  starts = r.starts;
  lines = r.lines;
  count = r.count + 1;
}

abbrev pub with_log : List ℕ → Setup → Read → Read
with_log name setup r = record {
  names = r.names ++ name ∷ [];
  setups = r.setups ++ setup ∷ [];
  logs = r.logs ++ [] ∷ [];
  order = r.order;
  last = r.last;
  heads = r.heads ++ (r.count + 1) ∷ [];
  starts = r.starts;
  lines = r.lines;
  count = r.count + 1;
}

abbrev pub with_event : ℕ → Event → Read → Read
with_event who e r = record {
  names = r.names;
  setups = r.setups;
  logs = change_at who (and_event e) r.logs;
  order = r.order ++ who ∷ [];
  last = Some who;
  heads = r.heads;
  starts = r.starts ++ length r.lines ∷ [];
  lines = r.lines ++ (r.count + 1) ∷ [];
  count = r.count + 1;
}

abbrev pub with_entry : ℕ → Entry → Read → Read
with_entry who entry r = record {
  names = r.names;
  setups = r.setups;
  logs = change_at who (to_last entry) r.logs;
  order = r.order;
  last = r.last;
  heads = r.heads;
  starts = r.starts;
  lines = r.lines ++ (r.count + 1) ∷ [];
  count = r.count + 1;
}

-- ---- where a line may stand

-- All logs stand before the first event, and no two have one name.
abbrev pub may_stand : List ℕ → Read → Bool
may_stand name r =
    is_none r.last && (is_none (place_of name r.names) && nat_lt (length r.names) most_ends)

-- with an event of an end, if there is one, and with an entry of the last event
abbrev pub event_of : Option ℕ → Event → Read → Option Read
event_of None e r = None
event_of (Some who) e r = Some (with_event who e r)

abbrev pub entry_of : Option ℕ → Entry → Read → Option Read
entry_of None entry r = None
entry_of (Some who) entry r = Some (with_entry who entry r)

-- What is read with a line; None where it doesn't stand where it may: an event is of an end that
-- has a log, and an entry of the last event.
abbrev pub read_with : LogLine → Read → Option Read
read_with Skip r = Some (with_skip r)
read_with (LogOf name head) r =
    if may_stand name r then Some (with_log name (setup_said head) r) else None
read_with (EventOf name event) r = event_of (place_of name r.names) (event_said event) r
read_with (EntryOf entry) r = entry_of r.last (entry_said entry) r

abbrev pub taken : LogLine → Read → Option Read
taken line r = if nat_lt r.count most_lines then read_with line r else None

-- ---- on which line a check stands

-- where the lines of the event behind this one begin, or all of them end
abbrev pub start_or : Option ℕ → ℕ → ℕ
start_or None end = end
start_or (Some start) end = start

-- the line in this place behind the first one of an event, as far as its lines go
abbrev pub line_from : Option ℕ → ℕ → ℕ → List ℕ → Option ℕ
line_from None end entry lines = None
line_from (Some start) end entry lines =
    if nat_lt entry (end - start) then slice_get lines (start + entry) else None

-- Of what an end was given first it is the line of its log, of an event its own, and of an entry
-- the entry's.
abbrev pub line_of : ℕ → ℕ → Read → Option ℕ
line_of zero zero r = None
line_of zero (suc end) r = slice_get r.heads end
line_of (suc event) entry r =
    line_from (slice_get r.starts event)
    (start_or (slice_get r.starts (event + 1)) (length r.lines)) entry r.lines

-- ---- what holds of all that is read

-- There are no more names and lines than may be, and a log for each name; the last event is of one
-- of them, and the order has each event of each log once.
pub record IsSound (names : List (List ℕ)) (logs : Logs) (order : List ℕ) (last : Option ℕ)
    (count : ℕ) : Type 0 where
  pub few : length names ≤ most_ends
  pub ends : length names ≡ length logs
  pub lines : count ≤ most_lines
  pub within : IfSome last (λ who. who < length logs)
  pub whole : IsOrder logs order
