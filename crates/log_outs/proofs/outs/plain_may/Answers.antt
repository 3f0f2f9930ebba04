use Rattle.log_outs.proofs.Chunks.{of_packet}
use Rattle.log_outs.proofs.outs.plain_may.Goals as goal

pub returns-in-Some : goal.returns-in-Some
returns-in-Some c =
    of_packet c.args.sender.now c.args.why.now c.args.opener.now c.args.context.now c.args.sid c.reads.result c.reads.ensures.only c.in-Some.packet c.keyings_may.result c.in-Some.is c.reads.ensures.reads c.keyings_may.ensures
