-- What is so of the flows of an end's sessions after every call.
use Rattle.std.specs.Prelude.{ℕ, ◌≡◌, List, Some, None}
use Rattle.std.specs.FinMap.{get}
use Rattle.session_flows.specs.Keeping.{FlowsState, taking_at}
use Rattle.session_flows.specs.Laws.{none_ready_by}
use Rattle.endpoint_model.specs.declared.row.Row.{Row}
use Rattle.endpoint_model.specs.Event.{Setup, Event}
use Rattle.endpoint_model.specs.State.{State}
use Rattle.endpoint_model.specs.Log.{StandsFor}

-- No receiving flow has a message that could be handed over.
abbrev pub NoneReady : FlowsState → Type 0
NoneReady flows = (flow : ℕ) → none_ready_by (taking_at flows flow) ≡ None

-- A message is handed over in the call that makes it ready: whatever the calls of a log were and
-- whatever they answered, no session is left with one.
abbrev pub EveryMessageIsHandedOver : Type 0
EveryMessageIsHandedOver = (setup : Setup) (log : List Event) (s : State) (near : ℕ) (row : Row) →
    StandsFor setup log s → get s.sessions near ≡ Some row → NoneReady row.flows
