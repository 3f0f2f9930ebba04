use Rattle.rtmfp_packet.specs.Chunks.{shown}
use Rattle.log_outs.proofs.Chunks.{one_responder, no_responder}
use Rattle.log_outs.proofs.keyings.responders_may.Goals as goal

pub returns-in-Some : goal.returns-in-Some
returns-in-Some c = one_responder c.args.sender.now c.args.context.now (shown c.args.chunk.now) c.args.sid c.responder_keying.result c.responder_keying.ensures c.in-Some.keying c.responder_may.result c.in-Some.is c.responder_may.ensures

pub returns-in-None : goal.returns-in-None
returns-in-None c = no_responder c.args.sender.now c.args.context.now (shown c.args.chunk.now) c.args.sid c.responder_keying.result c.responder_keying.ensures c.in-None.is
