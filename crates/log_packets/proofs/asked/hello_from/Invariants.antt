use Rattle.std.proofs.Common.{length}
use Rattle.rtmfp_packet.specs.Chunks.{left}
use Rattle.endpoint_model.specs.Keying.{chunks_of}
use Rattle.log_packets.specs.Asked.{IsHelloFrom}
use Rattle.log_packets.proofs.Chunks.{NotYet}
use Rattle.log_packets.proofs.asked.hello_from.Given as goal

abbrev pub invariant-loop-chunk : goal.invariant-loop-chunk
invariant-loop-chunk l = NotYet (IsHelloFrom l.tag l.peer) (chunks_of l.packet) (left l.chunks)

abbrev pub decreases-loop-chunk : goal.decreases-loop-chunk
decreases-loop-chunk l = length (left l.chunks)
