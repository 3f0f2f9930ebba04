use Rattle.std.specs.Option.{option_map}
use Rattle.rtmfp_packet.specs.Chunks.{shown}
use Rattle.log_packets.specs.Asked.{hello_shown}
use Rattle.log_packets.proofs.SaidFields.{says_hello}
use Rattle.log_packets.proofs.Asking.{hello_from_is, other_tag_from, no_hello_from}
use Rattle.log_packets.proofs.asked.is_hello_from.Goals as goal

pub returns-then-eq : goal.returns-then-eq
returns-then-eq c =
    hello_from_is (shown c.args.chunk.now) c.hello_in.result
    (says_hello c.args.chunk.now.kind c.args.chunk.now.payload.now c.hello_in.ensures.reads (option_map hello_shown c.hello_in.result) c.hello_in.ensures.fields)
    c.in-Some.hello c.in-Some.is c.args.tag.now c.eq.result c.eq.ensures c.args.peer.now c.is_from.result c.if-eq.true c.is_from.ensures

pub returns-else-eq : goal.returns-else-eq
returns-else-eq c =
    other_tag_from (shown c.args.chunk.now) c.hello_in.result
    (says_hello c.args.chunk.now.kind c.args.chunk.now.payload.now c.hello_in.ensures.reads (option_map hello_shown c.hello_in.result) c.hello_in.ensures.fields)
    c.in-Some.hello c.in-Some.is c.args.tag.now c.eq.result c.eq.ensures c.args.peer.now c.if-eq.false

pub returns-in-None : goal.returns-in-None
returns-in-None c =
    no_hello_from (shown c.args.chunk.now) c.hello_in.result
    (says_hello c.args.chunk.now.kind c.args.chunk.now.payload.now c.hello_in.ensures.reads (option_map hello_shown c.hello_in.result) c.hello_in.ensures.fields)
    c.args.tag.now c.args.peer.now c.in-None.is
