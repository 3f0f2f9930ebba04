use Rattle.std.proofs.Common.{[], ◌∷◌, ◌++◌}
use Rattle.std.specs.Option.{option_map}
use Rattle.rtmfp_packet.specs.Chunks.{left, shown}
use Rattle.endpoint_model.specs.Keying.{chunks_of}
use Rattle.log_packets.specs.Asked.{initiator_shown}
use Rattle.log_packets.proofs.SaidFields.{says_initiator}
use Rattle.log_packets.proofs.Asking.{pushed}
use Rattle.log_packets.proofs.SeenKeyings.{no_keying, one_keying}
use Rattle.log_packets.proofs.asked.keyings.Goals as goal

pub loop-chunk-preserved-else-is_err : goal.loop-chunk-preserved-else-is_err
loop-chunk-preserved-else-is_err c =
    one_keying (chunks_of c.args.packet.now) (left c.loop-chunk.chunks) (left c.next.new.self) c.loop-chunk.ids.items (shown c.in-Some.chunk) c.loop-chunk.invariant c.in-Some.ensures.steps
    c.initiator_in.result c.in-Some-initiator_in.keying c.push.new.self.items
    (says_initiator c.in-Some.chunk.kind c.in-Some.chunk.payload.now c.initiator_in.ensures.reads (option_map initiator_shown c.initiator_in.result) c.initiator_in.ensures.fields)
    c.in-Some-initiator_in.is
    (pushed c.push.result c.is_err.result c.push.new.self.items (c.loop-chunk.ids.items ++ c.in-Some-initiator_in.keying.near ∷ []) c.loop-chunk.ids.items c.push.ensures.items c.is_err.ensures.value c.if-is_err.false)

pub loop-chunk-preserved : goal.loop-chunk-preserved
loop-chunk-preserved c =
    no_keying (chunks_of c.args.packet.now) (left c.loop-chunk.chunks) (left c.next.new.self) c.loop-chunk.ids.items (shown c.in-Some.chunk) c.loop-chunk.invariant c.in-Some.ensures.steps
    c.initiator_in.result
    (says_initiator c.in-Some.chunk.kind c.in-Some.chunk.payload.now c.initiator_in.ensures.reads (option_map initiator_shown c.initiator_in.result) c.initiator_in.ensures.fields)
    c.in_default-initiator_in.is
