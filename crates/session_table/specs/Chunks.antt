-- Chunks of flows that are taken in one of the sessions, and the acks after them.
use Rattle.std.specs.Prelude.{ℕ, List, [], Option, Some, None}
use Rattle.flow_send.specs.Acks.{Told}
use Rattle.session_core.specs.Session.{SessionState}
use Rattle.rtmfp_base.specs.declared.cause.Cause.{Cause}
use Rattle.rtmfp_base.specs.declared.cause.Cause.TheVariants.{WrongState}
use Rattle.session_flows.specs.Keeping.{FlowsState, Stated}
use Rattle.session_flows.specs.Chunks.{heard, session_heard, rejecting, waiting_at}
use Rattle.session_flows.specs.Handing.{hands_once}
use Rattle.session_flows.specs.Owing.{after_acks, owed_count}
use Rattle.endpoint_model.specs.declared.row.Row.{Row}
use Rattle.endpoint_model.specs.Sending.{packet_head, session_packet}
use Rattle.endpoint_model.specs.FlowChunks.{acks_body}
use Rattle.session_table.specs.Table.{after_packed}

-- the flows of a session are changed so
abbrev pub of_flows : (FlowsState → FlowsState) → Row → Row
of_flows change row = record row { flows = change row.flows }

-- Why a chunk is discarded: a session that isn't there takes none.
abbrev pub cause_in : (SessionState → FlowsState → Option Cause) → Option Row →
    Option Cause
cause_in cause None = Some WrongState
cause_in cause (Some row) = cause row.session row.flows

-- what the next message of a flow is stated as
abbrev pub handed_in : ℕ → Option Row → List Stated
handed_in flow None = []
handed_in flow (Some row) = (hands_once row.flows flow).stated

-- an ack was taken
abbrev pub heard_in : ℕ → Told → Row → Row
heard_in flow told row = record row {
  session = session_heard row.session row.flows flow told;
  flows = heard row.flows flow told;
}

-- what an exception states, and the numbers of the messages that it abandons
abbrev pub rejected_in : ℕ → Option Row → List Stated
rejected_in flow None = []
rejected_in flow (Some row) = (rejecting row.flows flow).stated

abbrev pub waiting_in : ℕ → Option Row → List ℕ
waiting_in flow None = []
waiting_in flow (Some row) = waiting_at row.flows flow

-- ---- acks

-- what is behind the head of a packet of acks
abbrev pub acks_at : ℕ → Row → List ℕ
acks_at moment row = acks_body row moment

-- The acks that are owed go out, as many as have room behind the head. Where nothing is sealed they
-- count as sent all the same.
abbrev pub acked : ℕ → ℕ → Row → Row
acked limit moment row = record row {
  session = after_packed limit (session_packet row.session moment (acks_at moment row)) row.session;
  flows = after_acks row.flows (packet_head row.session moment);
}

-- how many are owed
abbrev pub owed_at : Option Row → ℕ
owed_at None = 0
owed_at (Some row) = owed_count row.flows
