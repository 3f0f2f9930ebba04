use Rattle.std.proofs.Common.{ℕ, nat_le, ap, sym, ◌∙◌}
use Rattle.flow_recv.proofs.Spots.{known_from, unknown_from}
use Rattle.flow_recv.proofs.spans.knows.Goals as goal

pub returns-in-Some : goal.returns-in-Some
returns-in-Some c = ap (λ (n : ℕ). nat_le c.args.number n) c.from.ensures ∙ sym (known_from c.args.number c.args.spans.now c.in-Some.here c.requires (sym c.in-Some.ensures))

pub returns-in-None : goal.returns-in-None
returns-in-None c = sym (unknown_from c.args.number c.args.spans.now (sym c.in-None.ensures))
