-- A sending flow, and what its calls answer.
use Rattle.std.specs.Prelude.{ℕ, ◌+◌, ◌-◌, ◌^◌, if◌then◌else◌, nat_lt, not, Bool, true, false, ◌&&◌}
use Rattle.std.specs.Prelude.{◌||◌, List, Option, Some, None, length}
use Rattle.rtmfp_vlu.specs.Vlu.{vlu}
use Rattle.rtmfp_forms.specs.Options.{OptionParts, options_bytes}
use Rattle.rtmfp_data_chunks.specs.Fragments.{Message, fragments_of_length}
use Rattle.rtmfp_data_chunks.specs.Runs.{Chunk}
use Rattle.rtmfp_data_chunks.specs.Chunk.{UserParts}
use Rattle.flow_send.specs.declared.outcome.QueueRefusal.{QueueRefusal}
use Rattle.flow_send.specs.declared.outcome.QueueRefusal.TheVariants.{Finished, TooLong, Backlog}
use Rattle.flow_send.specs.declared.outcome.QueueRefusal.TheVariants.{SequenceSpent}
use Rattle.flow_send.specs.declared.outcome.NoChunk.{NoChunk}
use Rattle.flow_send.specs.declared.outcome.NoChunk.TheVariants as no_chunk
use Rattle.flow_send.specs.Sender.{Sender, next_of, bytes_held, fragments_held}
use Rattle.flow_send.specs.Choice.{Choice, choice_bytes, chunk_for}

-- options: the metadata, and the return flow association where there is one
pub record Flow : Type 0 where
  pub id : ℕ
  pub options : List OptionParts
  pub priority : ℕ
  pub sender : Sender

abbrev pub with_sender : Flow → Sender → Flow
with_sender f s = record { id = f.id; options = f.options; priority = f.priority; sender = s }

-- queue: the refusals in their order
abbrev pub is_finished : Option ℕ → Bool
is_finished None = false
is_finished (Some n) = true

abbrev pub queue_refusal : Sender → ℕ → Option QueueRefusal
queue_refusal s size =
    if is_finished s.finish then Some Finished
    else if nat_lt 1048576 size then Some (TooLong 1048576)
    else if nat_lt 2097152 (bytes_held s + size)
    || nat_lt 65536 (fragments_held s + fragments_of_length size) then
    Some (Backlog (bytes_held s))
    else if nat_lt (2 ^ 64 - 2) (next_of s + fragments_of_length size - 1) then Some SequenceSpent
    else None

abbrev pub next_message : Sender → List ℕ → Message
next_message s bytes = record { number = next_of s; bytes = bytes }

-- the bytes of a user data chunk with its type and length (RFC 7016 section 2.3.11): type 1, length
-- 2, flags 1, then the flow, the number, the forward number's distance, the options where there are
-- some, and the fragment
abbrev pub options_length : Option (List OptionParts) → ℕ
options_length None = 0
options_length (Some options) = length (options_bytes options)

abbrev pub data_length : ℕ → Option (List OptionParts) → Chunk → ℕ
data_length flow options c = 4 + length (vlu flow) + length (vlu c.seq)
    + length (vlu (c.seq - c.forward)) + options_length options + length c.bytes

-- the chunk as it is written
abbrev pub user_data : ℕ → Option (List OptionParts) → Chunk → UserParts
user_data flow options c = record {
  part = c.part;
  abandon = c.abandon;
  last = c.last;
  flow = flow;
  seq = c.seq;
  forward = c.forward;
  options = options;
  bytes = c.bytes;
}

-- until a first ack the first chunk of the flow in a datagram has the options
abbrev pub is_told : Option ℕ → Bool
is_told None = false
is_told (Some blocks) = true

abbrev pub chunk_options : Flow → Bool → Option (List OptionParts)
chunk_options f first = if first && not (is_told f.sender.told) then Some f.options else None

-- next_chunk: the refusals in their order
abbrev pub if_room : ℕ → ℕ → Option NoChunk
if_room room size = if nat_lt room size then Some no_chunk.Room else None

abbrev pub chunk_refusal_of : Flow → Bool → ℕ → ℕ → ℕ → Choice → Option Chunk → Option NoChunk
chunk_refusal_of f first room flight window o None = Some no_chunk.Nothing
chunk_refusal_of f first room flight window o (Some c) =
    if nat_lt window (flight + choice_bytes o) then Some no_chunk.Window
    else if_room room (data_length f.id (chunk_options f first) c)

abbrev pub chunk_refusal : Flow → Bool → ℕ → ℕ → ℕ → Choice → Option NoChunk
chunk_refusal f first room flight window o =
    chunk_refusal_of f first room flight window o (chunk_for f.sender o)
