use Rattle.std.proofs.Common.{true, false}
use Rattle.log_packets.proofs.Firsts.{tested}
use Rattle.log_arrivals.proofs.Found.{of_one, not_of_one}
use Rattle.log_arrivals.proofs.contexts.in_one.Goals as goal

pub returns-in-Ok-true-clause-is : goal.returns-in-Ok-true-clause-is
returns-in-Ok-true-clause-is c =
    of_one c.args.secrets.now c.args.sid c.args.datagram.now c.args.context c.open.new.self
    (tested c.args.secrets.now c.args.sid c.args.datagram.now c.args.context c.open.new.self c.in-Ok-true.field-0 true c.in-Ok-true.field-0-test c.in-Ok-true.ensures.is)

pub returns-in-Ok-false-clause-is : goal.returns-in-Ok-false-clause-is
returns-in-Ok-false-clause-is c =
    not_of_one c.args.secrets.now c.args.sid c.args.datagram.now c.args.context c.open.new.self
    (tested c.args.secrets.now c.args.sid c.args.datagram.now c.args.context c.open.new.self c.in-Ok-false.field-0 false c.in-Ok-false.field-0-test c.in-Ok-false.ensures.is)
