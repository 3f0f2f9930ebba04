-- The history that logs tell in an order of their events.
use Rattle.std.specs.Prelude.{ℕ, List, [], ◌∷◌, ◌≡◌, ◌==◌, ◌+◌, if◌then◌else◌, length, get_or}
use Rattle.endpoint_model.specs.Event.{Event, Introduce, Done}
use Rattle.endpoint_laws.specs.History.{History, log_of}
use Rattle.log_values.specs.declared.log.EndLog.{EndLog}
use Rattle.log_values.specs.Events.{events_of}

-- the events of each log
abbrev pub Logs : Type 0
Logs = List (List Event)

-- no event: what a place beyond a log would be
abbrev pub no_event : Event
no_event = record { moment = 0; call = Introduce; answer = Done; entries = [] }

-- the events of an end
abbrev pub events_in : Logs → ℕ → List Event
events_in logs who = get_or logs who []

-- how often an order has this number
abbrev pub times : ℕ → List ℕ → ℕ
times who [] = 0
times who (next ∷ order) = (if next == who then 1 else 0) + times who order

-- The history of these numbers, the newest first: the place of an event in its log is how often its
-- end's number stood before.
abbrev pub told : Logs → List ℕ → History
told logs [] = []
told logs (who ∷ earlier) =
    record { who = who; event = get_or (events_in logs who) (times who earlier) no_event } ∷
    told logs earlier

-- the other way round, on top of others
abbrev pub newest_first : List ℕ → List ℕ → List ℕ
newest_first [] done = done
newest_first (who ∷ order) done = newest_first order (who ∷ done)

-- the history of an order, the oldest of which is the first
abbrev pub history_in : Logs → List ℕ → History
history_in logs order = told logs (newest_first order [])

-- The order has the number of each log, from 0, as often as it has events, and no other number.
pub record IsOrder (logs : Logs) (order : List ℕ) : Type 0 where
  pub each : (who : ℕ) → times who order ≡ length (events_in logs who)

-- ---- of logs themselves

abbrev pub logs_of : List EndLog → Logs
logs_of [] = []
logs_of (log ∷ logs) = events_of log ∷ logs_of logs

-- the history that logs tell in an order
abbrev pub history_of : List EndLog → List ℕ → History
history_of logs order = history_in (logs_of logs) order

-- ---- the law

abbrev pub EachEndHasItsLog : Type 0
EachEndHasItsLog = (logs : Logs) (order : List ℕ) → IsOrder logs order →
    (who : ℕ) → log_of who (history_in logs order) ≡ events_in logs who
