-- Why a chunk of flows is discarded that came in a session: the causes in their order. Those of its
-- type, its fields and its place come before.
use Rattle.std.specs.Prelude.{ℕ, ◌&&◌, ◌||◌, nat_le, not, Bool, false, is_some, is_none, List}
use Rattle.std.specs.Prelude.{[], ◌∷◌, Option, Some, None, length}
use Rattle.std.specs.Option.{option_map}
use Rattle.rtmfp_data_chunks.specs.Chunk.{UserParts, DataChunk, Data, Next, AckBitmap, AckRanges}
use Rattle.rtmfp_data_chunks.specs.Chunk.{Probe, Exception}
use Rattle.rtmfp_data_chunks.specs.Acked.{acked}
use Rattle.rtmfp_data_chunks.specs.Runs.{Chunk}
use Rattle.flow_recv.specs.declared.outcome.FlowRefusal.{FlowRefusal}
use Rattle.flow_recv.specs.declared.outcome.FlowRefusal.TheVariants as receiver
use Rattle.flow_recv.specs.Receiver.{Receiver, fresh}
use Rattle.flow_recv.specs.Outcome.{refusal}
use Rattle.flow_send.specs.Flow.{Flow}
use Rattle.flow_send.specs.Acks.{Told, told, beyond}
use Rattle.rtmfp_base.specs.Reasons.{where_true, first_that_stands}
use Rattle.session_core.specs.Session.{SessionState}
use Rattle.session_core.specs.Closing.{is_held}
use Rattle.session_flows.specs.declared.taking.TakingFlow.{TakingFlow}
use Rattle.rtmfp_base.specs.declared.cause.Cause.{Cause}
use Rattle.rtmfp_base.specs.declared.cause.Cause.TheVariants.{WrongState, UnknownFlow}
use Rattle.rtmfp_base.specs.declared.cause.Cause.TheVariants.{FlowsFull, AfterFinal}
use Rattle.rtmfp_base.specs.declared.cause.Cause.TheVariants.{BeyondBuffer, AckBeyond}
use Rattle.session_flows.specs.Keeping.{FlowsState, sending_at, taking_at}
use Rattle.rtmfp_data_chunks.specs.FlowOptions.{metadata_in, all_known}
use Rattle.session_flows.specs.Told.{options_of, begins_with_a}

-- ---- data and next

-- what a receiver looks at
abbrev pub piece_of : UserParts → Chunk
piece_of user = record {
  part = user.part;
  abandon = user.abandon;
  last = user.last;
  seq = user.seq;
  forward = user.forward;
  bytes = user.bytes;
}

abbrev pub is_there : FlowsState → UserParts → Bool
is_there s user = is_some (taking_at s user.flow)

-- the metadata that a chunk tells of its flow
abbrev pub metadata_of : UserParts → Option (List ℕ)
metadata_of user = metadata_in (options_of user.options)

-- The flow isn't there and the chunk, which tells no metadata, doesn't make it; or an association
-- names a flow that isn't there.
abbrev pub is_unknown : FlowsState → UserParts → Bool
is_unknown s user = (not (is_there s user) && is_none (metadata_of user))
    || not (all_known (length s.sending) (options_of user.options))

-- it would make one flow more than 256
abbrev pub is_one_too_many : FlowsState → UserParts → Bool
is_one_too_many s user = not (is_there s user) && nat_le 256 (length s.taking)

-- the receiver of the flow, or the one that the chunk makes
abbrev pub order_of : Option (List ℕ) → Bool
order_of None = false
order_of (Some metadata) = begins_with_a metadata

abbrev pub receiver_by : Option TakingFlow → UserParts → Receiver
receiver_by None user = fresh (order_of (metadata_of user))
receiver_by (Some t) user = t.receiver

abbrev pub receiver_for : FlowsState → UserParts → Receiver
receiver_for s user = receiver_by (taking_at s user.flow) user

-- after the flow's last number, or beyond its buffer
abbrev pub cause_of : Option FlowRefusal → Option Cause
cause_of None = None
cause_of (Some (receiver.AfterFinal n)) = Some (AfterFinal n)
cause_of (Some (receiver.BeyondBuffer held)) = Some (BeyondBuffer held)
cause_of (Some receiver.Memory) = None

abbrev pub receiver_cause : FlowsState → UserParts → Option Cause
receiver_cause s user = cause_of (refusal (receiver_for s user) (piece_of user))

-- what comes before it
abbrev pub early_cause : SessionState → FlowsState → UserParts → Option Cause
early_cause session s user =
    first_that_stands (
    where_true (not (is_held session.stage)) WrongState
    ∷ where_true (is_unknown s user) UnknownFlow
    ∷ where_true (is_one_too_many s user) (FlowsFull 256)
    ∷ [])

abbrev pub data_cause : SessionState → FlowsState → UserParts → Option Cause
data_cause session s user =
    first_that_stands (early_cause session s user ∷ receiver_cause s user ∷ [])

-- ---- acks

abbrev pub beyond_of : Option Flow → Told → Option Cause
beyond_of None a = Some UnknownFlow
beyond_of (Some f) a = option_map AckBeyond (beyond f.sender a)

abbrev pub ack_cause : SessionState → FlowsState → ℕ → Told → Option Cause
ack_cause session s id a =
    first_that_stands (
    where_true (not (is_held session.stage)) WrongState
    ∷ beyond_of (sending_at s id) a
    ∷ [])

-- ---- a buffer probe asks of a receiving flow, an exception speaks of a sending one

abbrev pub flow_cause : SessionState → Bool → Option Cause
flow_cause session there =
    first_that_stands (
    where_true (not (is_held session.stage)) WrongState
    ∷ where_true (not there) UnknownFlow
    ∷ [])

abbrev pub probe_cause : SessionState → FlowsState → ℕ → Option Cause
probe_cause session s id = flow_cause session (is_some (taking_at s id))

abbrev pub exception_cause : SessionState → FlowsState → ℕ → Option Cause
exception_cause session s id = flow_cause session (is_some (sending_at s id))

-- ---- all of them

abbrev pub chunk_cause : SessionState → FlowsState → DataChunk → Option Cause
chunk_cause session s (Data user) = data_cause session s user
chunk_cause session s (Next user) = data_cause session s user
chunk_cause session s (AckBitmap flow blocks upto bits) =
    ack_cause session s flow (told blocks upto (acked (AckBitmap flow blocks upto bits)))
chunk_cause session s (AckRanges flow blocks upto pairs) =
    ack_cause session s flow (told blocks upto (acked (AckRanges flow blocks upto pairs)))
chunk_cause session s (Probe flow) = probe_cause session s flow
chunk_cause session s (Exception flow code) = exception_cause session s flow
