use Rattle.std.proofs.Common.{◌≡◌, length}
use Rattle.rtmfp_packet.specs.Chunks.{left}
use Rattle.log_packets.specs.Asked.{first_of}
use Rattle.log_packets.proofs.asked.first_of.Given as goal

abbrev pub invariant-loop-chunk : goal.invariant-loop-chunk
invariant-loop-chunk l = first_of l.kind (left l.chunks) ≡ first_of l.kind (left l.fn.chunks)

abbrev pub decreases-loop-chunk : goal.decreases-loop-chunk
decreases-loop-chunk l = length (left l.chunks)
