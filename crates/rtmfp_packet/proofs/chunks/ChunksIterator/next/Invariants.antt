use Rattle.std.proofs.Common.{◌≡◌, length}
use Rattle.rtmfp_packet.specs.Chunks.{left}
use Rattle.rtmfp_packet.proofs.chunks.ChunksIterator.next.Given as goal

abbrev pub invariant-loop-chunk : goal.invariant-loop-chunk
invariant-loop-chunk l = left l.self ≡ left l.fn.self

abbrev pub decreases-loop-chunk : goal.decreases-loop-chunk
decreases-loop-chunk l = length l.self.rest.now
