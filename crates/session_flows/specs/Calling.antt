-- The four calls on a session's sending flows: why each is refused, in its order, and what it does.
use Rattle.std.specs.Prelude.{ℕ, ◌||◌, nat_le, nat_lt, if◌then◌else◌, List, [], ◌∷◌, ◌++◌}
use Rattle.std.specs.Prelude.{Option, Some, None, length, Result, Ok, Err}
use Rattle.std.specs.Option.{option_map}
use Rattle.flow_send.specs.declared.waiting.MessageOptions.{MessageOptions}
use Rattle.flow_send.specs.declared.outcome.QueueRefusal.{QueueRefusal}
use Rattle.flow_send.specs.declared.outcome.QueueRefusal.TheVariants as sender
use Rattle.flow_send.specs.Sender.{new_sender, next_of, queued, waits, abandoned, finished}
use Rattle.flow_send.specs.Flow.{Flow, with_sender, queue_refusal, next_message}
use Rattle.rtmfp_data_chunks.specs.FlowOptions.{flow_options}
use Rattle.flow_send.specs.Flow.{is_finished}
use Rattle.flow_send.specs.declared.outcome.NotQueued.{NotQueued as NotQueuedHere}
use Rattle.session_flows.specs.declared.refusal.CallRefusal.{CallRefusal}
use Rattle.session_flows.specs.declared.refusal.CallRefusal.TheVariants.{NoFlow, FlowsFull, Queue}
use Rattle.session_flows.specs.declared.refusal.CallRefusal.TheVariants.{WideMetadata, NotQueued}
use Rattle.session_flows.specs.declared.refusal.CallRefusal.TheVariants as refusal
use Rattle.session_flows.specs.Keeping.{FlowsState, sending_at, with_flow, with_sending}
use Rattle.session_flows.specs.Keeping.{Opened, Queued, Abandoned, Finished, Did, nothing}

-- ---- a flow is opened

-- There are 256 flows. Metadata of so many bytes passes 64, or a priority 7.
abbrev pub open_refusal : FlowsState → ℕ → ℕ → Option CallRefusal
open_refusal s size priority =
    if nat_le 256 (length s.sending) then Some (FlowsFull 256)
    else if nat_lt 64 size || nat_lt 7 priority then Some (WideMetadata size)
    else None

-- the next ID, and numbers that begin at 1
abbrev pub new_flow : FlowsState → List ℕ → Option ℕ → ℕ → Flow
new_flow s metadata answers priority = record {
  id = length s.sending;
  options = flow_options metadata answers;
  priority = priority;
  sender = new_sender 1;
}

abbrev pub opening : FlowsState → List ℕ → Option ℕ → ℕ → Did
opening s metadata answers priority = record {
  flows = with_sending s (s.sending ++ new_flow s metadata answers priority ∷ []);
  stated = Opened (length s.sending) ∷ [];
}

-- ---- a message is queued

-- the refusal of a message as the call tells it
abbrev pub queue_refusal_of : QueueRefusal → CallRefusal
queue_refusal_of sender.Memory = refusal.Memory
queue_refusal_of sender.Finished = Queue sender.Finished
queue_refusal_of sender.SequenceSpent = Queue sender.SequenceSpent
queue_refusal_of (sender.TooLong most) = Queue (sender.TooLong most)
queue_refusal_of (sender.Backlog held) = Queue (sender.Backlog held)

abbrev pub queue_refused_by : Option Flow → ℕ → Option CallRefusal
queue_refused_by None size = Some NoFlow
queue_refused_by (Some f) size = option_map queue_refusal_of (queue_refusal f.sender size)

abbrev pub queue_refused : FlowsState → ℕ → ℕ → Option CallRefusal
queue_refused s id size = queue_refused_by (sending_at s id) size

abbrev pub queueing_by : FlowsState → ℕ → List ℕ → MessageOptions → Option Flow → Did
queueing_by s id bytes options None = nothing s
queueing_by s id bytes options (Some f) = record {
  flows = with_flow s id
      (with_sender f (queued (next_message f.sender bytes) options f.sender));
  stated = Queued id (next_of f.sender) bytes ∷ [];
}

abbrev pub queueing : FlowsState → ℕ → List ℕ → MessageOptions → Did
queueing s id bytes options = queueing_by s id bytes options (sending_at s id)

-- ---- a message is abandoned

-- none that waits begins at the number
abbrev pub abandon_refused_by : Option Flow → ℕ → Option CallRefusal
abandon_refused_by None seq = Some NoFlow
abandon_refused_by (Some f) seq = if waits f.sender seq then None else Some NotQueued

abbrev pub abandon_refused : FlowsState → ℕ → ℕ → Option CallRefusal
abandon_refused s id seq = abandon_refused_by (sending_at s id) seq

abbrev pub abandoning_by : FlowsState → ℕ → ℕ → Option Flow → Did
abandoning_by s id seq None = nothing s
abandoning_by s id seq (Some f) = record {
  flows = with_flow s id (with_sender f (abandoned seq f.sender));
  stated = Abandoned id seq ∷ [];
}

abbrev pub abandoning : FlowsState → ℕ → ℕ → Did
abandoning s id seq = abandoning_by s id seq (sending_at s id)

-- ---- a flow is finished

abbrev pub finish_refused_by : Option Flow → Option CallRefusal
finish_refused_by None = Some NoFlow
finish_refused_by (Some f) = if is_finished f.sender.finish then Some refusal.Finished else None

abbrev pub finish_refused : FlowsState → ℕ → Option CallRefusal
finish_refused s id = finish_refused_by (sending_at s id)

abbrev pub finishing_by : FlowsState → ℕ → Option Flow → Did
finishing_by s id None = nothing s
finishing_by s id (Some f) = record {
  flows = with_flow s id (with_sender f (finished f.sender));
  stated = Finished id (next_of f.sender) ∷ [];
}

abbrev pub finishing : FlowsState → ℕ → Did
finishing s id = finishing_by s id (sending_at s id)

-- ---- what a sender answers, as the calls tell it

abbrev pub queue_answer : Result ℕ QueueRefusal → Result ℕ CallRefusal
queue_answer (Ok seq) = Ok seq
queue_answer (Err refused) = Err (queue_refusal_of refused)

abbrev pub abandon_answer : {A : Type 0} → Result A NotQueuedHere → Result A CallRefusal
abandon_answer (Ok done) = Ok done
abandon_answer (Err refused) = Err NotQueued

abbrev pub finish_answer : Option ℕ → Result ℕ CallRefusal
finish_answer (Some seq) = Ok seq
finish_answer None = Err refusal.Finished
