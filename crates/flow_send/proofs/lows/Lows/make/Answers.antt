use Rattle.std.proofs.Common.{◌≡◌, ◌%◌, ◌/◌, ◌∙◌, ℕ, List, length, get_or, ap, arith}
use Rattle.std.proofs.lemmas.List.{length-replicate}
use Rattle.flow_send.proofs.Lowest.{made, same_all}
use Rattle.flow_send.proofs.lows.Lows.make.Goals as goal

pub returns-clause-same : goal.returns-clause-same
returns-clause-same c = λ b.
    let old = c.self.inside.lows in
    let none : length old.items ≡ 0 = omega (arith, c.if-len-gt0.false, c.len.ensures, old.ok) in
    made old.items c.in_ok-self-inside.field-0.items 18446744073709551615 (b % 2056) none c.in_ok-self-inside.ensures ∙ ap (λ (xs : List ℕ). get_or xs (b % 2056) 18446744073709551615) c.self.view_is

pub invariant_of-self : goal.invariant_of-self
invariant_of-self c = (
  λ some. ap length c.in_ok-self-inside.ensures ∙ length-replicate {A = ℕ} 2056 18446744073709551615,
  λ some. ap length c.in_ok-tops.ensures ∙ length-replicate {A = ℕ} 65 18446744073709551615,
  λ i lt.
      let p = ap (λ (xs : List ℕ). get_or xs i 18446744073709551615) c.in_ok-self-inside.ensures ∙ same_all 18446744073709551615 2056 i in
      let q = ap (λ (xs : List ℕ). get_or xs (i / 32) 18446744073709551615) c.in_ok-tops.ensures ∙ same_all 18446744073709551615 65 (i / 32) in
      omega (arith, p, q),
)
