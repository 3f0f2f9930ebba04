-- The calls on the flows of one session, whatever end keeps it: why each is refused, and what it
-- does.
use Rattle.std.specs.Prelude.{ℕ, List, length, Option}
use Rattle.flow_send.specs.declared.waiting.MessageOptions.{MessageOptions}
use Rattle.session_flows.specs.declared.refusal.CallRefusal.{CallRefusal}
use Rattle.session_flows.specs.Keeping.{FlowsState, Did}
use Rattle.session_flows.specs.Calling.{open_refusal, opening, queue_refused, queueing}
use Rattle.session_flows.specs.Calling.{abandon_refused, abandoning, finish_refused, finishing}

-- A flow is opened, with its metadata and the flow of the other end that it answers, if there is
-- one; a message of it is queued; one is abandoned, by the number of its first fragment; or the
-- flow is finished.
pub data FlowCall : Type 0 where
  OpenFlow : (priority : ℕ) → (metadata : List ℕ) → (answers : Option ℕ) → FlowCall
  Queue : (flow : ℕ) → (message : List ℕ) → (options : MessageOptions) → FlowCall
  Abandon : (flow seq : ℕ) → FlowCall
  Finish : (flow : ℕ) → FlowCall

abbrev pub flow_refusal : FlowsState → FlowCall → Option CallRefusal
flow_refusal s (OpenFlow priority metadata answers) = open_refusal s (length metadata) priority
flow_refusal s (Queue flow message options) = queue_refused s flow (length message)
flow_refusal s (Abandon flow seq) = abandon_refused s flow seq
flow_refusal s (Finish flow) = finish_refused s flow

abbrev pub flow_did : FlowsState → FlowCall → Did
flow_did s (OpenFlow priority metadata answers) = opening s metadata answers priority
flow_did s (Queue flow message options) = queueing s flow message options
flow_did s (Abandon flow seq) = abandoning s flow seq
flow_did s (Finish flow) = finishing s flow
