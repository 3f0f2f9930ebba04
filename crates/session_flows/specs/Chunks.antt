-- What a chunk of flows does that isn't discarded.
use Rattle.std.specs.Prelude.{ℕ, ◌+◌, Bool, true, false, if◌then◌else◌, map, List, [], ◌∷◌, ◌++◌}
use Rattle.std.specs.Prelude.{Option}
use Rattle.std.specs.Prelude.{Some, None}
use Rattle.rtmfp_data_chunks.specs.Chunk.{UserParts, DataChunk, Data, Next, AckBitmap, AckRanges}
use Rattle.rtmfp_data_chunks.specs.Chunk.{Probe, Exception}
use Rattle.rtmfp_data_chunks.specs.Acked.{acked}
use Rattle.flow_recv.specs.Receiver.{taken, fresh}
use Rattle.flow_send.specs.declared.waiting.Waiting.{Waiting}
use Rattle.flow_send.specs.Sender.{Sender, next_of, abandoned, finish_by}
use Rattle.flow_send.specs.Acks.{Told, told, new_bytes, makes_lost, told_by}
use Rattle.flow_send.specs.Flow.{Flow, with_sender}
use Rattle.session_core.specs.Session.{SessionState}
use Rattle.session_core.specs.Closing.{with_acknowledged, with_loss}
use Rattle.session_flows.specs.declared.taking.TakingFlow.{TakingFlow}
use Rattle.session_flows.specs.Keeping.{FlowsState, sending_at, taking_at, with_flow, with_taking}
use Rattle.session_flows.specs.Keeping.{with_changed, added, new_taking, Stated, Abandoned}
use Rattle.session_flows.specs.Keeping.{Finished}
use Rattle.session_flows.specs.Keeping.{Did, nothing, then_do}
use Rattle.session_flows.specs.Causes.{piece_of, metadata_of, order_of}
use Rattle.session_flows.specs.Handing.{hands_all, most_by}

-- ---- data and next

-- the flow is made, where it isn't there
abbrev pub made_by : FlowsState → UserParts → Option TakingFlow → FlowsState
made_by s user None = with_taking s
    (added (new_taking user.flow (fresh (order_of (metadata_of user)))) s.taking)
made_by s user (Some t) = s

abbrev pub made : FlowsState → UserParts → FlowsState
made s user = made_by s user (taking_at s user.flow)

-- its receiver takes the chunk, and is owed an ack for
abbrev pub taken_of : UserParts → TakingFlow → TakingFlow
taken_of user t = record t { receiver = taken t.receiver (piece_of user); owed = true }

abbrev pub data_taken : FlowsState → UserParts → FlowsState
data_taken s user = with_changed (made s user) user.flow (taken_of user)

-- and then it hands over what is ready
abbrev pub data_done : FlowsState → UserParts → Did
data_done s user = then_do (nothing (data_taken s user)) (λ t. hands_all t user.flow)

-- That are so many at most: a fragment begins one message more.
abbrev pub most_ready : FlowsState → ℕ → ℕ
most_ready s id = most_by (taking_at s id) + 1

-- ---- an ack

abbrev pub heard_by : FlowsState → ℕ → Told → Option Flow → FlowsState
heard_by s id a None = s
heard_by s id a (Some f) = with_flow s id (with_sender f (told_by a f.sender))

abbrev pub heard : FlowsState → ℕ → Told → FlowsState
heard s id a = heard_by s id a (sending_at s id)

-- The bytes that it newly acknowledges, but the abandoned ones, open the window; a number that it
-- makes lost then closes it.
abbrev pub lost_if : Bool → SessionState → SessionState
lost_if lost session = if lost then with_loss false session else session

abbrev pub opened_by : SessionState → Told → Option Flow → SessionState
opened_by session a None = session
opened_by session a (Some f) = lost_if (makes_lost a f.sender)
    (with_acknowledged (new_bytes a (f.sender.forward + 1) f.sender.rows) session)

abbrev pub session_heard : SessionState → FlowsState → ℕ → Told → SessionState
session_heard session s id a = opened_by session a (sending_at s id)

-- ---- a buffer probe: an ack is owed

abbrev pub owing : TakingFlow → TakingFlow
owing t = record t { owed = true }

abbrev pub probed : FlowsState → ℕ → FlowsState
probed s id = with_changed s id owing

-- ---- an exception: all messages that wait are abandoned, by rising number, and the flow is
-- finished where it wasn't

abbrev pub all_abandoned : List Waiting → Sender → Sender
all_abandoned [] s = s
all_abandoned (w ∷ later) s = all_abandoned later (abandoned w.number s)

abbrev pub without_messages : Sender → Sender
without_messages s = all_abandoned s.waiting s

-- the last number, where it wasn't finished
abbrev pub last_by : Sender → Option ℕ → Option ℕ
last_by s None = Some (next_of s)
last_by s (Some n) = None

abbrev pub finished_at : ℕ → Option ℕ → List Stated
finished_at id None = []
finished_at id (Some n) = Finished id n ∷ []

abbrev pub numbers_of : List Waiting → List ℕ
numbers_of waiting = map (λ (w : Waiting). w.number) waiting

abbrev pub rejecting_by : FlowsState → ℕ → Option Flow → Did
rejecting_by s id None = nothing s
rejecting_by s id (Some f) = record {
  flows = with_flow s id
      (with_sender f (finish_by (without_messages f.sender) f.sender.finish));
  stated = map (Abandoned id) (numbers_of f.sender.waiting)
      ++ finished_at id (last_by (without_messages f.sender) f.sender.finish);
}

abbrev pub rejecting : FlowsState → ℕ → Did
rejecting s id = rejecting_by s id (sending_at s id)

-- the numbers of the messages that it abandons
abbrev pub waiting_by : Option Flow → List ℕ
waiting_by None = []
waiting_by (Some f) = numbers_of f.sender.waiting

abbrev pub waiting_at : FlowsState → ℕ → List ℕ
waiting_at s id = waiting_by (sending_at s id)

-- ---- all of them

abbrev pub chunk_done : FlowsState → DataChunk → Did
chunk_done s (Data user) = data_done s user
chunk_done s (Next user) = data_done s user
chunk_done s (AckBitmap flow blocks upto bits) =
    nothing (heard s flow (told blocks upto (acked (AckBitmap flow blocks upto bits))))
chunk_done s (AckRanges flow blocks upto pairs) =
    nothing (heard s flow (told blocks upto (acked (AckRanges flow blocks upto pairs))))
chunk_done s (Probe flow) = nothing (probed s flow)
chunk_done s (Exception flow code) = rejecting s flow

-- what it leaves of the session
abbrev pub session_after : SessionState → FlowsState → DataChunk → SessionState
session_after session s (Data user) = session
session_after session s (Next user) = session
session_after session s (AckBitmap flow blocks upto bits) =
    session_heard session s flow (told blocks upto (acked (AckBitmap flow blocks upto bits)))
session_after session s (AckRanges flow blocks upto pairs) =
    session_heard session s flow (told blocks upto (acked (AckRanges flow blocks upto pairs)))
session_after session s (Probe flow) = session
session_after session s (Exception flow code) = session
