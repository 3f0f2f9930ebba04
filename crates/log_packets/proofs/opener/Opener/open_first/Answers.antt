use Rattle.std.proofs.Common.{true, false}
use Rattle.crypto_profile.specs.declared.keys.Context.TheVariants.{Startup}
use Rattle.log_packets.proofs.Firsts.{in_current, else_next, tested}
use Rattle.log_packets.proofs.opener.Opener.open_first.Goals as goal

pub returns-in-Ok-true-clause-is : goal.returns-in-Ok-true-clause-is
returns-in-Ok-true-clause-is c =
    in_current c.args.secrets.now c.args.sid c.args.datagram.now c.args.current c.args.next c.open.new.self
    (tested c.args.secrets.now c.args.sid c.args.datagram.now (Startup c.args.current) c.open.new.self c.in-Ok-true.field-0 true c.in-Ok-true.field-0-test c.in-Ok-true.ensures.is)

pub returns-in-Ok-false-clause-is : goal.returns-in-Ok-false-clause-is
returns-in-Ok-false-clause-is c =
    else_next c.args.secrets.now c.args.sid c.args.datagram.now c.args.current c.args.next c.open.new.self c.open_next.new.self c.open_next.result
    (tested c.args.secrets.now c.args.sid c.args.datagram.now (Startup c.args.current) c.open.new.self c.in-Ok-false.field-0 false c.in-Ok-false.field-0-test c.in-Ok-false.ensures.is)
    c.open_next.ensures.is
