use Rattle.std.proofs.Common.{length}
use Rattle.rtmfp_packet.specs.Chunks.{left}
use Rattle.endpoint_model.specs.Keying.{chunks_of}
use Rattle.log_packets.proofs.SeenKeyings.{SoFar}
use Rattle.log_packets.proofs.asked.keyings.Given as goal

abbrev pub invariant-loop-chunk : goal.invariant-loop-chunk
invariant-loop-chunk l = SoFar (chunks_of l.packet) (left l.chunks) l.ids.items

abbrev pub decreases-loop-chunk : goal.decreases-loop-chunk
decreases-loop-chunk l = length (left l.chunks)
