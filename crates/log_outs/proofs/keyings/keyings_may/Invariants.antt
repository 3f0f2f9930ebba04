use Rattle.std.proofs.Common.{length}
use Rattle.rtmfp_packet.specs.Chunks.{left}
use Rattle.endpoint_model.specs.Keying.{chunks_of}
use Rattle.log_outs.specs.Keyings.{ChunkMay}
use Rattle.log_outs.proofs.Chunks.{SoFar}
use Rattle.log_outs.proofs.keyings.keyings_may.Given as goal

abbrev pub invariant-loop-chunk : goal.invariant-loop-chunk
invariant-loop-chunk l = SoFar l.sid (λ id. ChunkMay l.sender l.why l.context id) (chunks_of l.packet) (left l.chunks)

abbrev pub decreases-loop-chunk : goal.decreases-loop-chunk
decreases-loop-chunk l = length (left l.chunks)
