use Rattle.std.proofs.Common.{ℕ, Option, subst}
use Rattle.log_packets.specs.Opening.{IsFirstOpened}
use Rattle.log_arrivals.proofs.Found.{of_startup, not_of_startup}
use Rattle.log_arrivals.proofs.contexts.in_startup.Goals as goal

pub returns-in-Ok-Some-clause-is : goal.returns-in-Ok-Some-clause-is
returns-in-Ok-Some-clause-is c =
    of_startup c.args.secrets.now c.args.sid c.args.datagram.now c.args.current c.args.next c.in-Ok-Some.generation c.open_first.new.self
    (subst (λ (f : Option ℕ). IsFirstOpened c.args.secrets.now c.args.current c.args.next c.args.sid c.args.datagram.now f c.open_first.new.self) c.in-Ok-Some.field-0-is c.in-Ok-Some.ensures.is)

pub returns-in-Ok-None-clause-is : goal.returns-in-Ok-None-clause-is
returns-in-Ok-None-clause-is c =
    not_of_startup c.args.secrets.now c.args.sid c.args.datagram.now c.args.current c.args.next c.open_first.new.self
    (subst (λ (f : Option ℕ). IsFirstOpened c.args.secrets.now c.args.current c.args.next c.args.sid c.args.datagram.now f c.open_first.new.self) c.in-Ok-None.field-0-is c.in-Ok-None.ensures.is)
