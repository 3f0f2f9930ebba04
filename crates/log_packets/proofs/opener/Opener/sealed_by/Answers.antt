use Rattle.std.proofs.Common.{ℕ, ◌∙◌, refl, sym, ap, arith}
use Rattle.std.specs.FinMap.{get}
use Rattle.crypto_profile.specs.Keys.{keys_of}
use Rattle.log_packets.proofs.Seals.{not_sealed, was_sealed}
use Rattle.log_packets.proofs.opener.Opener.sealed_by.Goals as goal

pub returns-in_default-clause-is : goal.returns-in_default-clause-is
returns-in_default-clause-is c = not_sealed c.args.secrets.now c.args.context.now c.args.datagram.now c.args.self.now (λ i. omega (arith, c.type_inv.datagram i)) (sym c.sid_of.ensures ∙ c.in_default.is)

pub returns-clause-is : goal.returns-clause-is
returns-clause-is c =
    was_sealed c.args.secrets.now c.args.context.now c.args.datagram.now c.undo_in.new.self (λ i. omega (arith, c.type_inv.datagram i)) c.in-Some-get.group.now.secret c.split_at.result.1.now c.args.self.now c.in-Some.sid
    (keys_of c.in-Some-get.group.now.secret c.args.context.now) (ap (λ (n : ℕ). get c.args.secrets.now n) (sym c.generation_of.ensures) ∙ c.in-Some-get.ensures.some) refl
    (sym c.sid_of.ensures ∙ c.in-Some.is) c.split_at.ensures.back
    c.undo_in.result c.undo_in.ensures.is c.undo_in.ensures.plain
