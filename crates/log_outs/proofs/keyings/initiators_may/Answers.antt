use Rattle.rtmfp_packet.specs.Chunks.{shown}
use Rattle.log_outs.proofs.Chunks.{one_initiator, no_initiator}
use Rattle.log_outs.proofs.keyings.initiators_may.Goals as goal

pub returns-in-Some : goal.returns-in-Some
returns-in-Some c = one_initiator c.args.sender.now c.args.context.now (shown c.args.chunk.now) c.args.why.now c.initiator_keying.result c.initiator_keying.ensures.says c.in-Some.keying c.initiator_may.result c.in-Some.is c.initiator_may.ensures

pub returns-in-None : goal.returns-in-None
returns-in-None c = no_initiator c.args.sender.now c.args.context.now (shown c.args.chunk.now) c.args.why.now c.initiator_keying.result c.initiator_keying.ensures.says c.in-None.is
