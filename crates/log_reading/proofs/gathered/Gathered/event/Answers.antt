use Rattle.std.proofs.Common.{ℕ, ◌<◌, ◌+◌, ◌∙◌, Option, ap, sym, subst, length, arith}
use Rattle.std.specs.Prelude.{IfSome}
use Rattle.log_reading.specs.Gathered.{Read, place_of}
use Rattle.log_reading.proofs.Sound.{place_within}
use Rattle.log_reading.proofs.gathered.Gathered.event.Goals as goal

pub begin-requires-clause-end : goal.begin-requires-clause-end
begin-requires-clause-end c =
    let named : c.in-Some.who < 0 + length c.self.inside.names.items = subst (λ (o : Option ℕ). IfSome o (λ who. who < 0 + length c.self.inside.names.items)) (sym (c.in-Some.ensures ∙ ap (place_of c.args.name.now) c.as_slice.ensures.value)) (place_within 0 c.args.name.now c.self.inside.names.items) in
    subst (λ (n : ℕ). c.in-Some.who < n) (c.self.invariant.ends ∙ ap (λ (r : Read). length r.logs) c.self.view_is) (omega (arith, named))
