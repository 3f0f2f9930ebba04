-- What an end does with the flows of its sessions.
use Rattle.std.specs.Prelude.{ℕ, map, Option, Some, None}
use Rattle.std.specs.Option.{option_map}
use Rattle.session_flows.specs.Keeping.{FlowsState, Stated, Did as FlowsDid}
use Rattle.session_flows.specs.Keeping.{Opened, Queued, Abandoned, Finished, Handed}
use Rattle.endpoint_model.specs.declared.row.Row.{Row}
use Rattle.endpoint_model.specs.declared.entry.Entry.{Entry}
use Rattle.endpoint_model.specs.declared.entry.Entry.TheVariants as entry
use Rattle.session_flows.specs.declared.refusal.CallRefusal.{CallRefusal}
use Rattle.session_flows.specs.declared.refusal.CallRefusal.TheVariants as call
use Rattle.endpoint_model.specs.FlowCall.{FlowCall, flow_refusal, flow_did}
use Rattle.endpoint_model.specs.State.{State, Did, nothing, with_row}
use Rattle.endpoint_model.specs.InSessions.{held_row}

-- ---- what is stated of the flows of a session, as the end tells it

abbrev pub flow_entry : ℕ → Stated → Entry
flow_entry near (Opened flow) = entry.FlowOpened near flow
flow_entry near (Queued flow seq message) = entry.Queued near flow seq message
flow_entry near (Abandoned flow seq) = entry.Abandoned near flow seq
flow_entry near (Finished flow seq) = entry.Finished near flow seq
flow_entry near (Handed flow seq message) = entry.Handed near flow seq message

-- the flows in a row
abbrev pub flows_in : Option Row → Option FlowsState
flows_in row = option_map (λ (r : Row). r.flows) row

-- the flows of a session are changed
abbrev pub with_flows : State → ℕ → Row → FlowsState → State
with_flows s near row flows = with_row s near (record row { flows = flows })

-- what something that is done with them leaves of the end, and adds
abbrev pub flows_done : State → ℕ → Row → FlowsDid → Did
flows_done s near row d = record {
  state = with_flows s near row d.flows;
  entries = map (flow_entry near) d.stated;
}

-- ---- a call

-- no held session has the session ID, or the call is refused in it
abbrev pub call_refusal_by : FlowCall → Option Row → Option CallRefusal
call_refusal_by c None = Some call.NoSession
call_refusal_by c (Some row) = flow_refusal row.flows c

abbrev pub call_refusal : State → ℕ → FlowCall → Option CallRefusal
call_refusal s near c = call_refusal_by c (held_row s near)

abbrev pub flow_called_by : State → ℕ → FlowCall → Option Row → Did
flow_called_by s near c None = nothing s
flow_called_by s near c (Some row) = flows_done s near row (flow_did row.flows c)

abbrev pub flow_called : State → ℕ → FlowCall → Did
flow_called s near c = flow_called_by s near c (held_row s near)
