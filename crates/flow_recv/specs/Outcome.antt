-- What a receiver answers to a chunk.
use Rattle.std.specs.Prelude.{ℕ, if◌then◌else◌, Option, Some, None, List}
use Rattle.rtmfp_data_chunks.specs.Fragments.{Message}
use Rattle.rtmfp_data_chunks.specs.Runs.{Chunk}
use Rattle.flow_recv.specs.Receiver.{Receiver, lacks, after_final, beyond_buffer}
use Rattle.flow_recv.specs.declared.outcome.Took.{Took}
use Rattle.flow_recv.specs.declared.outcome.Took.TheVariants.{New, Again, ForwardOnly}
use Rattle.flow_recv.specs.declared.outcome.FlowRefusal.{FlowRefusal}
use Rattle.flow_recv.specs.declared.outcome.FlowRefusal.TheVariants.{AfterFinal, BeyondBuffer}

abbrev pub beyond : Option ℕ → Option FlowRefusal
beyond None = None
beyond (Some n) = Some (BeyondBuffer n)

abbrev pub after_or : Option ℕ → Option FlowRefusal → Option FlowRefusal
after_or None other = other
after_or (Some n) other = Some (AfterFinal n)

-- the refusal that a chunk meets, other than want of memory
abbrev pub refusal : Receiver → Chunk → Option FlowRefusal
refusal r c = after_or (after_final r c) (beyond (beyond_buffer r c))

abbrev pub took : Receiver → Chunk → Took
took r c = if c.abandon then ForwardOnly else if lacks r.spans c.seq then New else Again

abbrev pub message : ℕ → List ℕ → Message
message number bytes = record { number = number; bytes = bytes }
