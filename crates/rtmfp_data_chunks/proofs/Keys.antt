-- How numbers compare, as the keys of maps.
use Rattle.std.proofs.Common.{◌≡◌, ℕ, ◌<◌, nat_lt, ◌==◌, cond, Bool, true, false, refl, ap, sym, ◌∙◌, arith, inl, inr}
use Rattle.std.specs.Ordering.{nat_cmp, is_eq}
use Rattle.std.specs.declared.cmp.Ordering.TheVariants.{Less, Equal, Greater}
use Rattle.std.specs.BTreeMap.{is_at}
use Rattle.std.proofs.lemmas.Bool.{cases_lt, ltb-true, lt-ltb, le-ltb, ne_eqb, eq-eqb}

less_if : (l e : Bool) → cond l Less (cond e Equal Greater) ≡ Less → l ≡ true
less_if true e f = refl
less_if false true f = absurd cc
less_if false false f = absurd cc

pub less_lt : (n k : ℕ) → nat_cmp n k ≡ Less → n < k
less_lt n k e = ltb-true n k (less_if (nat_lt n k) (n == k) e)

pub lt_less : (n k : ℕ) → n < k → nat_cmp n k ≡ Less
lt_less n k lt = rw (lt-ltb n k lt) refl

pub gt_greater : (n k : ℕ) → k < n → nat_cmp n k ≡ Greater
gt_greater n k lt = rw (le-ltb n k (omega (arith, lt)), ne_eqb n k (λ e. omega (arith, e, lt))) refl

pub eq_equal : (n k : ℕ) → n ≡ k → nat_cmp n k ≡ Equal
eq_equal n k e = rw (le-ltb n k (omega (arith, e)), eq-eqb n k e) refl

-- whether a key is a number, as a map asks
abbrev pub is_key : ℕ → ℕ → Bool
is_key n k = is_at (nat_cmp n) k

pub is_key_is : (n k : ℕ) → is_key n k ≡ (k == n)
is_key_is n k = elim (cases_lt n k) [
  | inl lt ↦ ap is_eq (lt_less n k lt) ∙ sym (ne_eqb k n (λ e. omega (arith, e, lt)))
  | inr ge ↦ elim (cases_lt k n) [
    | inl lt ↦ ap is_eq (gt_greater n k lt) ∙ sym (ne_eqb k n (λ e. omega (arith, e, lt)))
    | inr le ↦ ap is_eq (eq_equal n k (omega (arith, ge, le))) ∙ sym (eq-eqb k n (omega (arith, ge, le)))
  ]
]
