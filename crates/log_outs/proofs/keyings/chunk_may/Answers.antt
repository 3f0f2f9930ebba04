use Rattle.rtmfp_packet.specs.Chunks.{shown}
use Rattle.log_outs.proofs.Chunks.{both_may}
use Rattle.log_outs.proofs.keyings.chunk_may.Goals as goal

pub returns : goal.returns
returns c = both_may c.args.sender.now c.args.context.now (shown c.args.chunk.now) c.args.why.now c.args.sid c.initiators_may.result c.responders_may.result c.initiators_may.ensures c.if-not-initiators_may.false c.responders_may.ensures
