use Rattle.std.proofs.Common.{true, false, Some, None}
use Rattle.crypto_profile.specs.declared.keys.Context.TheVariants.{Startup}
use Rattle.log_packets.proofs.Firsts.{in_next, not_next, tested, in_the_next}
use Rattle.log_packets.proofs.opener.Opener.open_next.Goals as goal

pub returns-in-Ok-true-clause-is : goal.returns-in-Ok-true-clause-is
returns-in-Ok-true-clause-is c =
    in_the_next c.args.secrets.now c.args.sid c.args.datagram.now c.args.next c.in-Some.generation (Some c.in-Some.generation) c.open.new.self c.in-Some.is
    (in_next c.args.secrets.now c.args.sid c.args.datagram.now c.in-Some.generation c.open.new.self
    (tested c.args.secrets.now c.args.sid c.args.datagram.now (Startup c.in-Some.generation) c.open.new.self c.in-Ok-true.field-0 true c.in-Ok-true.field-0-test c.in-Ok-true.ensures.is))

pub returns-in-Ok-false-clause-is : goal.returns-in-Ok-false-clause-is
returns-in-Ok-false-clause-is c =
    in_the_next c.args.secrets.now c.args.sid c.args.datagram.now c.args.next c.in-Some.generation None c.open.new.self c.in-Some.is
    (not_next c.args.secrets.now c.args.sid c.args.datagram.now c.in-Some.generation c.open.new.self c.open.new.self
    (tested c.args.secrets.now c.args.sid c.args.datagram.now (Startup c.in-Some.generation) c.open.new.self c.in-Ok-false.field-0 false c.in-Ok-false.field-0-test c.in-Ok-false.ensures.is))
