-- What a close of the peer leaves, by the row that is kept under the session ID.
use Rattle.std.specs.Prelude.{ℕ, Option, Some, None}
use Rattle.endpoint_model.specs.declared.row.Row.{Row}
use Rattle.endpoint_model.specs.State.{State, Did, nothing}
use Rattle.endpoint_model.specs.InSessions.{lingering}

-- It lingers from a close of the peer on.
abbrev pub lingering_by : State → ℕ → Option Row → Did
lingering_by s near None = nothing s
lingering_by s near (Some row) = lingering s near row
