use Rattle.std.proofs.Common.{arith, ap, List, ℕ, ◌∙◌, ◌≡◌, get_or, length}
use Rattle.flow_recv.proofs.Summing.{made}
use Rattle.flow_recv.proofs.sums.Sums.make.Goals as goal

pub returns-clause-same : goal.returns-clause-same
returns-clause-same c = λ i.
    let old = c.self.inside.sums in
    let none : length old.items ≡ 0 = omega (arith, c.if-len-gt0.false, c.len.ensures, old.ok) in
    made old.items c.in_ok-self-inside.field-0.items i none c.in_ok-self-inside.ensures ∙ ap (λ (xs : List ℕ). get_or xs i 0) c.self.view_is
