use Rattle.log_packets.specs.Opening.{part_for}
use Rattle.log_packets.proofs.Opens.{opened, shown}
use Rattle.log_packets.proofs.opener.Opener.open_by.Goals as goal

pub returns-clause-is : goal.returns-clause-is
returns-clause-is c = λ secrets secret known under.
    opened secrets c.args.context.now c.args.sid c.args.datagram.now c.undo.new.self secret c.in-Some.part.now c.args.self.now
    c.args.keys.now known under
    (shown c.part_for.result c.in-Some.part (part_for c.args.context.now c.args.sid c.args.datagram.now) c.part_for.ensures c.in-Some.is)
    c.undo.result c.undo.ensures.is c.undo.ensures.plain
