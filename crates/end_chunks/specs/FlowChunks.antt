-- A chunk of flows, as it was read, at the place that it came at.
use Rattle.std.specs.Prelude.{ℕ, not, [], ◌∷◌}
use Rattle.std.specs.Prelude.{Option, Some, None, Result}
use Rattle.std.specs.FinMap.{get}
use Rattle.rtmfp_base.specs.Reasons.{where_true, first_that_stands}
use Rattle.rtmfp_data_chunks.specs.declared.view.DataFault.{DataFault}
use Rattle.rtmfp_data_chunks.specs.Chunk.{DataChunk, UserParts}
use Rattle.rtmfp_base.specs.declared.cause.Cause.{Cause}
use Rattle.rtmfp_base.specs.declared.cause.Cause.TheVariants.{WrongPlace}
use Rattle.rtmfp_base.specs.declared.cause.Cause.TheVariants.{WrongState}
use Rattle.flow_send.specs.Acks.{Told}
use Rattle.session_flows.specs.Causes.{ack_cause}
use Rattle.session_flows.specs.Chunks.{data_taken, heard, session_heard, probed, rejecting}
use Rattle.session_flows.specs.Handing.{hands, hands_once}
use Rattle.endpoint_model.specs.declared.row.Row.{Row}
use Rattle.endpoint_model.specs.declared.place.Place.{Place}
use Rattle.endpoint_model.specs.State.{State, Did, nothing, with_row}
use Rattle.endpoint_model.specs.Admission.{sid_at}
use Rattle.endpoint_model.specs.OnFlows.{flows_done, with_flows}
use Rattle.endpoint_model.specs.FlowChunks.{is_session, data_fault, flow_cause}

-- why it is discarded: for its fields, its place, or what its session has
abbrev pub read_cause_at : State → Place → Result DataChunk DataFault → Option Cause
read_cause_at s place read = first_that_stands (data_fault read
    ∷ where_true (not (is_session place)) WrongPlace
    ∷ flow_cause (get s.sessions (sid_at place)) read
    ∷ [])

-- a data chunk was taken, and nothing handed over yet
abbrev pub data_kept : State → ℕ → UserParts → Option Row → State
data_kept s near user None = s
data_kept s near user (Some row) = with_flows s near row (data_taken row.flows user)

-- the next message of a flow is handed over
abbrev pub handed_once_by : State → ℕ → ℕ → Option Row → Did
handed_once_by s near flow None = nothing s
handed_once_by s near flow (Some row) = flows_done s near row (hands_once row.flows flow)

-- so many messages of a flow are handed over
abbrev pub handed_by : State → ℕ → ℕ → ℕ → Option Row → Did
handed_by s near flow count None = nothing s
handed_by s near flow count (Some row) = flows_done s near row (hands count flow row.flows)

-- ---- acks, buffer probes and exceptions, by the row of their session

abbrev pub ack_cause_in : Option Row → ℕ → Told → Option Cause
ack_cause_in None flow a = Some WrongState
ack_cause_in (Some row) flow a = ack_cause row.session row.flows flow a

-- the window of the session opens or closes, and the flow has heard of what arrived
abbrev pub ack_heard : State → ℕ → ℕ → Told → Option Row → State
ack_heard s near flow a None = s
ack_heard s near flow a (Some row) = with_row s near (record row {
  session = session_heard row.session row.flows flow a;
  flows = heard row.flows flow a;
})

abbrev pub probe_heard : State → ℕ → ℕ → Option Row → State
probe_heard s near flow None = s
probe_heard s near flow (Some row) = with_flows s near row (probed row.flows flow)

-- what an exception does
abbrev pub rejected : State → ℕ → ℕ → Option Row → Did
rejected s near flow None = nothing s
rejected s near flow (Some row) = flows_done s near row (rejecting row.flows flow)
