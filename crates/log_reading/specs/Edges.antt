-- Values for the rows of this crate.
use Rattle.std.specs.Prelude.{ℕ, List, [], ◌∷◌, Some, None, Option, replicate, map}
use Rattle.endpoint_model.specs.Event.{Event, Tick as TickCall, Done}
use Rattle.endpoint_model.specs.declared.entry.Entry.TheVariants.{Closed as IsClosed}
use Rattle.log_values.specs.Events.{draws_of, no_tag}
use Rattle.audit_text.specs.declared.line.LogCall.TheVariants.{Tick}
use Rattle.audit_text.specs.declared.line.LogEntry.TheVariants.{Closed}
use Rattle.audit_text.specs.declared.line.LogHead.{LogHead}
use Rattle.audit_text.specs.declared.line.LogLine.{LogLine}
use Rattle.audit_text.specs.declared.line.LogLine.TheVariants.{Skip, Log as LogOf, Event as EventOf, Entry as EntryOf}
use Rattle.log_values.specs.Told.{Logs}
use Rattle.log_reading.specs.Gathered.{Read, nothing_read, taken, line_of}

-- so many lines, all of them skipped
abbrev pub skipped : ℕ → Read
skipped count = record {
  names = [];
  setups = [];
  logs = [];
  order = [];
  last = None;
  heads = [];
  starts = [];
  lines = [];
  count = count;
}

-- so many ends, each with another name than "a"
abbrev pub with_ends : ℕ → Read
with_ends count = record {
  names = replicate count (98 ∷ []);
  setups = [];
  logs = [];
  order = [];
  last = None;
  heads = [];
  starts = [];
  lines = [];
  count = 0;
}

-- lines of the ends "a" and "b"
abbrev pub head : LogHead
head = record {
  max_peers = 8;
  max_sessions = 8;
  generation = 1;
  secret = [];
  cookie_secret = [];
  cert = [];
}

abbrev pub log_a : LogLine
log_a = LogOf (97 ∷ []) head

abbrev pub log_b : LogLine
log_b = LogOf (98 ∷ []) head

abbrev pub event_a : LogLine
event_a = EventOf (97 ∷ []) (record { moment = 5; nonce = []; call = Tick })

abbrev pub event_b : LogLine
event_b = EventOf (98 ∷ []) (record { moment = 6; nonce = []; call = Tick })

abbrev pub entry : ℕ → LogLine
entry near = EntryOf (Closed near)

-- what is read with these lines; None where one of them doesn't stand where it may
abbrev pub read_from : List LogLine → Option Read → Option Read
read_from [] r = r
read_from (line ∷ lines) None = None
read_from (line ∷ lines) (Some r) = read_from lines (taken line r)

abbrev pub read_of : List LogLine → Option Read
read_of lines = read_from lines (Some nothing_read)

-- two ends, with lines between theirs that are skipped
abbrev pub text : List LogLine
text =
    log_a ∷ Skip ∷ log_b ∷ event_a ∷ Skip ∷ entry 1 ∷ event_b ∷ entry 2 ∷ entry 3 ∷ []

-- of what is read, if anything is
abbrev pub line_in : ℕ → ℕ → Option Read → Option ℕ
line_in event n None = None
line_in event n (Some r) = line_of event n r

abbrev pub logs_in : Option Read → Logs
logs_in None = []
logs_in (Some r) = r.logs

abbrev pub order_in : Option Read → List ℕ
order_in None = []
order_in (Some r) = r.order

-- the event of a tick, and the logs of that text
abbrev pub ticked : ℕ → List ℕ → Event
ticked moment nears = record {
  moment = moment;
  call = TickCall (draws_of [] no_tag);
  answer = Done;
  entries = map IsClosed nears;
}
