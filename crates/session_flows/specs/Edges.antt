-- Small sessions and flows, by which the rules are told at their edges.
use Rattle.std.specs.Prelude.{ℕ, false, true, List, [], ◌∷◌, Option, Some, None}
use Rattle.rtmfp_forms.specs.Options.{OptionParts}
use Rattle.rtmfp_data_chunks.specs.declared.user_data.Part.TheVariants.{Whole}
use Rattle.rtmfp_data_chunks.specs.Chunk.{UserParts}
use Rattle.flow_send.specs.declared.waiting.MessageOptions.{MessageOptions}
use Rattle.flow_send.specs.Sender.{Sender, new_sender}
use Rattle.flow_send.specs.Edges.{numbers, unsent}
use Rattle.flow_send.specs.Flow.{Flow}
use Rattle.rtmfp_data_chunks.specs.FlowOptions.{flow_options}
use Rattle.flow_recv.specs.Receiver.{Receiver, fresh}
use Rattle.session_core.specs.declared.stage.Stage.{Stage}
use Rattle.session_core.specs.declared.stage.Stage.TheVariants.{Open}
use Rattle.session_core.specs.Session.{SessionState}
use Rattle.session_flows.specs.declared.taking.TakingFlow.{TakingFlow}
use Rattle.session_flows.specs.declared.pace.Pace.{Pace}
use Rattle.session_flows.specs.declared.pace.Before.{Before}
use Rattle.session_flows.specs.Keeping.{FlowsState}
use Rattle.session_flows.specs.Calling.{queueing, finishing}

-- options of a chunk
abbrev pub option_with : ℕ → List ℕ → OptionParts
option_with kind value = record { kind = kind; value = value }

-- a chunk of a flow with one byte, by its number and its options
abbrev pub chunk_of_flow : ℕ → ℕ → Option (List OptionParts) → UserParts
chunk_of_flow flow seq options = record {
  part = Whole;
  abandon = false;
  last = false;
  flow = flow;
  seq = seq;
  forward = 0;
  options = options;
  bytes = 7 ∷ [];
}

-- sending flows, and a flow with an ID, a priority and a sender, whose metadata is the byte 6d
abbrev pub flow_with : ℕ → ℕ → Sender → Flow
flow_with id priority sender = record {
  id = id;
  options = flow_options (0x6d ∷ []) None;
  priority = priority;
  sender = sender;
}

abbrev pub new_at : ℕ → Flow
new_at id = flow_with id 4 (new_sender 1)

-- receiving flows
abbrev pub taking_with : ℕ → Receiver → TakingFlow
taking_with id receiver = record { id = id; receiver = receiver; owed = false }

abbrev pub fresh_at : ℕ → TakingFlow
fresh_at id = taking_with id (fresh false)

abbrev pub owed_at : ℕ → TakingFlow
owed_at id = record { id = id; receiver = fresh false; owed = true }

abbrev pub flows_of : List Flow → List TakingFlow → FlowsState
flows_of sending taking = record { sending = sending; taking = taking }

-- the resend time before a round trip was timed, and a window
abbrev pub pace_with : ℕ → ℕ → Pace
pace_with moment window = record { moment = moment; resend_after = 1000; window = window }

-- a session in a stage
abbrev pub in_stage : Stage → SessionState → SessionState
in_stage stage session = record session { stage = stage }

-- an open session that timed no round trip, whose resend time is 1,000 ms
abbrev pub untimed : SessionState → SessionState
untimed session = record session { stage = Open; trip = None }

-- a session with a window below its first threshold
abbrev pub with_window : ℕ → SessionState → SessionState
with_window window session = record session {
  congestion = record { window = window; threshold = 1048576 };
}

-- neither a deadline nor a limit of resends
abbrev pub no_limits : MessageOptions
no_limits = record { deadline = None; resends = None }

-- flow 0 alone, with no message, with one of one byte, and with two
abbrev pub one_flow : FlowsState
one_flow = flows_of (new_at 0 ∷ []) []

abbrev pub one_message : FlowsState
one_message = (queueing one_flow 0 (7 ∷ []) no_limits).flows

abbrev pub two_messages : FlowsState
two_messages = (queueing one_message 0 (8 ∷ 9 ∷ []) no_limits).flows

abbrev pub finished_flow : FlowsState
finished_flow = (finishing one_message 0).flows

-- a message with this deadline, in flow 0 of two
abbrev pub with_deadline : ℕ → FlowsState
with_deadline deadline = (queueing (flows_of (new_at 0 ∷ new_at 1 ∷ []) []) 0 (7 ∷ [])
    (record { deadline = Some deadline; resends = None })).flows

-- metadata and an association, as options of a chunk
abbrev pub metadata : Option (List OptionParts)
metadata = Some (option_with 0 (0x6d ∷ []) ∷ [])

abbrev pub answering : List ℕ → Option (List OptionParts)
answering value = Some (option_with 10 value ∷ [])

abbrev pub made_answering : List ℕ → Option (List OptionParts)
made_answering value = Some (option_with 0 [] ∷ option_with 10 value ∷ [])

-- a flow that has a fragment to send
abbrev pub sending_some : ℕ → ℕ → List ℕ → Flow
sending_some id priority bytes = flow_with id priority (numbers (unsent 0 0 bytes ∷ []))

-- one that has nothing to send
abbrev pub sending_none : ℕ → ℕ → Flow
sending_none id priority = flow_with id priority (numbers [])

-- the numbers of a chunk
abbrev pub numbers_of : ℕ → ℕ → ℕ → Before
numbers_of flow seq forward = record { flow = flow; seq = seq; forward = forward }
