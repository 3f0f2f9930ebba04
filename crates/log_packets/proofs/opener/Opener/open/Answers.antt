use Rattle.std.proofs.Common.{ℕ, refl, sym, ap, ◌∙◌}
use Rattle.std.specs.FinMap.{get}
use Rattle.crypto_profile.specs.Keys.{keys_of}
use Rattle.log_packets.specs.Opening.{part_for}
use Rattle.log_packets.proofs.Opens.{opened, shown}
use Rattle.log_packets.proofs.opener.Opener.open.Goals as goal

pub returns-clause-is : goal.returns-clause-is
returns-clause-is c =
    opened c.args.secrets.now c.args.context.now c.args.sid c.args.datagram.now c.undo_in.new.self c.in-Some-get.group.now.secret c.in-Some.part.now c.args.self.now
    (keys_of c.in-Some-get.group.now.secret c.args.context.now) (ap (λ (n : ℕ). get c.args.secrets.now n) (sym c.generation_of.ensures) ∙ c.in-Some-get.ensures.some) refl
    (shown c.part_for.result c.in-Some.part (part_for c.args.context.now c.args.sid c.args.datagram.now) c.part_for.ensures c.in-Some.is)
    c.undo_in.result c.undo_in.ensures.is c.undo_in.ensures.plain
