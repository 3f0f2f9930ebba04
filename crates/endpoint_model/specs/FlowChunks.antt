-- Chunks of flows that came in a session: why each is discarded, what it does, and the acks that go
-- out after them.
use Prim.Native.Nat.{zero, suc}
use Rattle.std.specs.Prelude.{ℕ, ◌==◌, ◌||◌, Bool, true, false, List, map, length, drop, Option, Some, None, Result, Ok, Err}
use Rattle.std.specs.FinMap.{get}
use Rattle.rtmfp_data_chunks.specs.declared.kinds.TheConstants.{DATA, NEXT, ACK_BITMAP, ACK_RANGES, PROBE, EXCEPTION}
use Rattle.rtmfp_data_chunks.specs.declared.view.DataFault.{DataFault}
use Rattle.rtmfp_data_chunks.specs.declared.view.DataFault.TheVariants.{Unknown, Malformed as BadField, BadOffset}
use Rattle.rtmfp_data_chunks.specs.Chunk.{DataChunk, Data, Next, AckBitmap, AckRanges, Probe, Exception}
use Rattle.rtmfp_base.specs.declared.cause.Cause.{Cause}
use Rattle.rtmfp_base.specs.declared.cause.Cause.TheVariants as cause
use Rattle.session_flows.specs.Causes.{chunk_cause}
use Rattle.session_flows.specs.Chunks.{chunk_done, session_after, rejecting}
use Rattle.session_flows.specs.Owing.{owes, acks_put, after_acks, owing_none}
use Rattle.endpoint_model.specs.declared.row.Row.{Row}
use Rattle.endpoint_model.specs.declared.place.Place.{Place}
use Rattle.endpoint_model.specs.declared.place.Place.TheVariants.{Startup, Attempt, Session}
use Rattle.endpoint_model.specs.State.{State, Did, nothing, then_do, with_row}
use Rattle.endpoint_model.specs.Sending.{packet_head}
use Rattle.endpoint_model.specs.InSessions.{sent_home}
use Rattle.endpoint_model.specs.OnFlows.{flow_entry, with_flows}

-- the chunks of flows
abbrev pub is_of_flows : ℕ → Bool
is_of_flows kind = (kind == DATA) || (kind == NEXT) || (kind == ACK_BITMAP) || (kind == ACK_RANGES)
    || (kind == PROBE) || (kind == EXCEPTION)

-- which come in sessions alone
abbrev pub is_session : Place → Bool
is_session (Startup generation) = false
is_session (Attempt near generation) = false
is_session (Session near) = true

-- ---- causes

-- A field can't be read, or an offset isn't one.
abbrev pub data_fault : Result DataChunk DataFault → Option Cause
data_fault (Ok chunk) = None
data_fault (Err (Unknown kind)) = Some (cause.UnknownChunk kind)
data_fault (Err (BadField at)) = Some (cause.Malformed at)
data_fault (Err (BadOffset at)) = Some (cause.Malformed at)

-- a session that isn't there takes none
abbrev pub taking_cause : Option Row → DataChunk → Option Cause
taking_cause None chunk = Some cause.WrongState
taking_cause (Some row) chunk = chunk_cause row.session row.flows chunk

-- of one whose fields could be read
abbrev pub flow_cause : Option Row → Result DataChunk DataFault → Option Cause
flow_cause row (Ok chunk) = taking_cause row chunk
flow_cause row (Err fault) = None

-- ---- what one does

-- what is done with the flows, and what it leaves of the session
abbrev pub flow_taken_by : State → ℕ → DataChunk → Option Row → Did
flow_taken_by s near chunk None = nothing s
flow_taken_by s near chunk (Some row) = record {
  state = with_row s near (record row {
    session = session_after row.session row.flows chunk;
    flows = (chunk_done row.flows chunk).flows;
  });
  entries = map (flow_entry near) (chunk_done row.flows chunk).stated;
}

abbrev pub flow_taken : State → ℕ → Result DataChunk DataFault → Did
flow_taken s near (Ok chunk) = flow_taken_by s near chunk (get s.sessions near)
flow_taken s near (Err fault) = nothing s

-- Acks state nothing, and owe no ack. Nor does an exception for a flow of which no message waits
-- and which is finished.
abbrev pub is_told_only : Option Row → DataChunk → Bool
is_told_only row (Data user) = false
is_told_only row (Next user) = false
is_told_only row (AckBitmap flow blocks upto bits) = true
is_told_only row (AckRanges flow blocks upto pairs) = true
is_told_only row (Probe flow) = false
is_told_only None (Exception flow code) = true
is_told_only (Some row) (Exception flow code) = length (rejecting row.flows flow).stated == 0

abbrev pub states_nothing : Option Row → Result DataChunk DataFault → Bool
states_nothing row (Ok chunk) = is_told_only row chunk
states_nothing row (Err fault) = false

-- ---- acks

-- the acks that are owed and have room behind it
abbrev pub acks_body : Row → ℕ → List ℕ
acks_body row moment = drop (length (packet_head row.session moment))
    (acks_put row.flows.taking (packet_head row.session moment)).packet

-- They go out to the session's address.
abbrev pub acked_by : State → ℕ → Option Row → Did
acked_by s near None = nothing s
acked_by s near (Some row) = then_do
    (nothing (with_flows s near row (after_acks row.flows (packet_head row.session s.moment))))
    (λ t. sent_home t near (acks_body row s.moment))

abbrev pub owes_by : Option Row → Bool
owes_by None = false
owes_by (Some row) = owes row.flows

abbrev pub acked_if : State → ℕ → Bool → (State → Did) → Did
acked_if s near false next = nothing s
acked_if s near true next = then_do (acked_by s near (get s.sessions near)) next

-- so many packets of them, as long as some are owed
abbrev pub acked_in : ℕ → State → ℕ → Did
acked_in zero s near = nothing s
acked_in (suc count) s near = acked_if s near (owes_by (get s.sessions near))
    (λ t. acked_in count t near)

-- after the chunks of a datagram that came at a place
abbrev pub acked : ℕ → State → Place → Did
acked count s (Startup generation) = nothing s
acked count s (Attempt near generation) = nothing s
acked count s (Session near) = acked_in count s near

-- Acks are still owed there.
abbrev pub owes_at : State → Place → Bool
owes_at s (Startup generation) = false
owes_at s (Attempt near generation) = false
owes_at s (Session near) = owes_by (get s.sessions near)

-- Those that find no memory aren't sent: none is owed any more.
abbrev pub unowed_by : State → ℕ → Option Row → State
unowed_by s near None = s
unowed_by s near (Some row) = with_flows s near row (owing_none row.flows)

abbrev pub unowed : State → Place → State
unowed s (Startup generation) = s
unowed s (Attempt near generation) = s
unowed s (Session near) = unowed_by s near (get s.sessions near)
