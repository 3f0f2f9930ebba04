-- At most one end keeps something, and what it keeps.
use Rattle.std.proofs.Common.{◌≡◌, ℕ, ◌==◌, cond, Bool, true, false, Option, Some, refl, sym, ap}
use Rattle.std.proofs.Common.{subst, ◌∙◌, inl, inr, ◌⊎◌, arith}
use Rattle.std.proofs.lemmas.Bool.Decides.{nat_tests}

pub record OneKeeps {K : Type 0} (at : ℕ → Option K) (begun fresh : Type 0) (is : K → Type 0) : Type
    0 where
  pub one : (a b : ℕ) (x y : K) → at a ≡ Some x → at b ≡ Some y → a ≡ b
  pub begins : (a : ℕ) (x : K) → at a ≡ Some x → begun
  pub unbegun : (begun → ⊥) → fresh
  pub kept : (a : ℕ) (x : K) → at a ≡ Some x → is x

-- whoever kept something still may, nobody else, and all else stands as before
pub keeps_still : {K : Type 0} (at now : ℕ → Option K) (begun begun' fresh : Type 0)
    (is : K → Type 0) → ((a : ℕ) (x : K) → now a ≡ Some x → at a ≡ Some x) → (begun → begun') →
    OneKeeps at begun fresh is → OneKeeps now begun' fresh is
keeps_still at now begun begun' fresh is less more k = record {
  one = λ a b x y e f. k.one a b x y (less a x e) (less b y f);
  begins = λ a x e. more (k.begins a x (less a x e));
  unbegun = λ no. k.unbegun (λ h. no (more h));
  kept = λ a x e. k.kept a x (less a x e);
}

-- one end keeps this now, and no other end keeps anything
pub keeps_one : {K : Type 0} (now : ℕ → Option K) (who : ℕ) (x : K) (begun fresh : Type 0)
    (is : K → Type 0) → ((a : ℕ) (y : K) → now a ≡ Some y → (who ≡ a) × (x ≡ y)) → begun → is x →
    OneKeeps now begun fresh is
keeps_one now who x begun fresh is only has k = record {
  one = λ a b y z e f. sym (only a y e).0 ∙ (only b z f).0;
  begins = λ a y e. has;
  unbegun = λ no. absurd (no has);
  kept = λ a y e. subst is (only a y e).1 k;
}

-- two numbers are equal, and the test says so, or neither
pub tested : (a b : ℕ) → ((a ≡ b) × ((a == b) ≡ true)) ⊎ ((a ≡ b → ⊥) × ((a == b) ≡ false))
tested a b = decided (a == b) refl
  where
    decided : (t : Bool) → (a == b) ≡ t →
        ((a ≡ b) × ((a == b) ≡ true)) ⊎ ((a ≡ b → ⊥) × ((a == b) ≡ false))
    decided true e = inl (grind (arith, nat_tests), e)
    decided false e = inr ((λ is. grind (arith, nat_tests)), e)

-- a step makes nothing of its own end
pub step_less : {K : Type 0} (t : Bool) (new old : Option K) (x : K) →
    (new ≡ Some x → old ≡ Some x) → cond t new old ≡ Some x → old ≡ Some x
step_less true new old x less e = less e
step_less false new old x less e = e

-- a step makes something of its end, and no other end keeps anything
pub step_only : {K : Type 0} (at new : ℕ → Option K) (who a : ℕ) (x y : K) →
    ((b : ℕ) (w : K) → at b ≡ Some w → who ≡ b) → new who ≡ Some x →
    cond (who == a) (new a) (at a) ≡ Some y → (who ≡ a) × (x ≡ y)
step_only at new who a x y one e f = elim (tested who a) [
  | inl d ↦ (
    d.0,
    let g : Some x ≡ Some y = sym e
        ∙ (ap new d.0 ∙ (ap (λ (b : Bool). cond b (new a) (at a)) (sym d.1) ∙ f)) in let h : x ≡ y =
        cc in h,
  )
  | inr d ↦ absurd (d.0 (one a y (ap (λ (b : Bool). cond b (new a) (at a)) (sym d.1) ∙ f)))
]
