use Rattle.rtmfp_packet.specs.Chunks.{left, shown}
use Rattle.endpoint_model.specs.Keying.{chunks_of}
use Rattle.log_packets.specs.Asked.{IsHelloFrom}
use Rattle.log_packets.proofs.Chunks.{not_this}
use Rattle.log_packets.proofs.asked.hello_from.Goals as goal

pub loop-chunk-preserved : goal.loop-chunk-preserved
loop-chunk-preserved c =
    not_this (IsHelloFrom c.args.tag.now c.args.peer.now) (chunks_of c.args.packet.now) (left c.loop-chunk.chunks) (left c.next.new.self) (shown c.in-Some.chunk) c.is_hello_from.result
    c.loop-chunk.invariant c.in-Some.ensures.steps c.is_hello_from.ensures c.if-is_hello_from.false
