-- Calls on the flows of one of the sessions.
use Rattle.std.specs.Prelude.{List, [], Option, Some, None}
use Rattle.session_flows.specs.declared.refusal.CallRefusal.{CallRefusal}
use Rattle.session_flows.specs.declared.refusal.CallRefusal.TheVariants.{NoFlow}
use Rattle.session_flows.specs.Keeping.{Stated}
use Rattle.endpoint_model.specs.declared.row.Row.{Row}
use Rattle.endpoint_model.specs.FlowCall.{FlowCall, flow_refusal, flow_did}

-- what a call leaves of the session's row
abbrev pub called : FlowCall → Row → Row
called call row = record row { flows = (flow_did row.flows call).flows }

-- what it states
abbrev pub stated_by : FlowCall → Option Row → List Stated
stated_by call None = []
stated_by call (Some row) = (flow_did row.flows call).stated

-- Why it is refused: where there is no such session, there is no flow.
abbrev pub refused_by : FlowCall → Option Row → Option CallRefusal
refused_by call None = Some NoFlow
refused_by call (Some row) = flow_refusal row.flows call
