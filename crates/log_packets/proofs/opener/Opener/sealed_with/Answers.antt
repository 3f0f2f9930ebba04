use Rattle.std.proofs.Common.{◌∙◌, sym, arith}
use Rattle.log_packets.proofs.Seals.{not_sealed, was_sealed}
use Rattle.log_packets.proofs.opener.Opener.sealed_with.Goals as goal

pub returns-in_default-clause-is : goal.returns-in_default-clause-is
returns-in_default-clause-is c = λ secrets secret known under. not_sealed secrets c.args.context.now c.args.datagram.now c.args.self.now (λ i. omega (arith, c.type_inv.datagram i)) (sym c.sid_of.ensures ∙ c.in_default.is)

pub returns-clause-is : goal.returns-clause-is
returns-clause-is c = λ secrets secret known under.
    was_sealed secrets c.args.context.now c.args.datagram.now c.undo.new.self (λ i. omega (arith, c.type_inv.datagram i)) secret c.split_at.result.1.now c.args.self.now c.in-Some.sid
    c.args.keys.now known under (sym c.sid_of.ensures ∙ c.in-Some.is) c.split_at.ensures.back
    c.undo.result c.undo.ensures.is c.undo.ensures.plain
