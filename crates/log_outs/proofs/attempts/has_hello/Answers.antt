use Rattle.log_outs.proofs.Chunks.{greeting}
use Rattle.log_outs.proofs.attempts.has_hello.Goals as goal

pub returns-in-Ok : goal.returns-in-Ok
returns-in-Ok c = greeting c.args.tag.now c.args.peer.now c.args.plain.now c.read_packet.result c.read_packet.ensures.reads c.read_packet.ensures.only c.in-Ok.packet c.in-Ok.is c.welcomes.result c.welcomes.ensures
