-- Values for the rows of this crate.
use Rattle.std.specs.Prelude.{ℕ, [], ◌∷◌}
use Rattle.endpoint_model.specs.Event.{Event, Introduce, Done}
use Rattle.log_values.specs.Told.{Logs}

-- an event that is told by its moment
abbrev pub event : ℕ → Event
event moment = record { moment = moment; call = Introduce; answer = Done; entries = [] }

-- a log of three events, and one of two
abbrev pub logs : Logs
logs = (event 10 ∷ event 11 ∷ event 12 ∷ []) ∷ (event 20 ∷ event 21 ∷ []) ∷ []
