-- Lists of numbers as sets: what they have, and what is left without one.
use Rattle.std.proofs.Common.{◌≡◌, ℕ, ◌+◌, ◌<◌, ◌≤◌, ◌==◌, List, [], ◌∷◌, length, Bool, true, false, cond, not, ◌||◌, inl, inr, ◌⊎◌, refl, sym, ap, ◌∙◌, arith, subst}
use Rattle.std.specs.List.{list_any, filter}
use Rattle.std.proofs.lemmas.Bool.Decides.{nat_tests}

abbrev pub has : ℕ → List ℕ → Bool
has q ks = list_any (λ k. k == q) ks

abbrev pub without : ℕ → List ℕ → List ℕ
without q ks = filter (λ k. not (k == q)) ks

-- two numbers are equal, and the test says so, or neither
pub tested : (a b : ℕ) → ((a ≡ b) × ((a == b) ≡ true)) ⊎ ((a ≡ b → ⊥) × ((a == b) ≡ false))
tested a b = decided (a == b) refl
  where
    decided : (t : Bool) → (a == b) ≡ t → ((a ≡ b) × ((a == b) ≡ true)) ⊎ ((a ≡ b → ⊥) × ((a == b) ≡ false))
    decided true e = inl (grind (arith, nat_tests), e)
    decided false e = inr ((λ is. grind (arith, nat_tests)), e)

cond_is : {A : Type 0} (b c : Bool) (x y : A) → b ≡ c → cond b x y ≡ cond c x y
cond_is b c x y e = ap (λ t. cond t x y) e

or_left : (a b : Bool) → a ≡ true → (a || b) ≡ true
or_left true b e = refl
or_left false b e = absurd (cc)

or_right : (a b c : Bool) → a ≡ false → b ≡ c → (a || b) ≡ c
or_right true b c e f = absurd (cc)
or_right false b c e f = f

pub or_cases : (a b : Bool) → (a || b) ≡ true → (a ≡ true) ⊎ (b ≡ true)
or_cases true b e = inl refl
or_cases false b e = inr e

-- what is left has none of what was taken away, and all else

pub has_others : (q k : ℕ) (ks : List ℕ) → (q ≡ k → ⊥) → has q (without k ks) ≡ has q ks
has_others q k [] other = refl
has_others q k (x ∷ ks) other = elim (tested x k) [
  | inl is ↦
      ap (has q) (cond_is (not (x == k)) false (x ∷ without k ks) (without k ks) (ap not is.1))
      ∙ has_others q k ks other
      ∙ sym (or_right (x == q) (has q ks) (has q ks) (elim (tested x q) [ inl same ↦ absurd (other (sym same.0 ∙ is.0)) | inr no_same ↦ no_same.1 ]) refl)
  | inr is ↦
      ap (has q) (cond_is (not (x == k)) true (x ∷ without k ks) (without k ks) (ap not is.1))
      ∙ ap (λ b. (x == q) || b) (has_others q k ks other)
]

pub has_gone : (k : ℕ) (ks : List ℕ) → has k (without k ks) ≡ false
has_gone k [] = refl
has_gone k (x ∷ ks) = elim (tested x k) [
  | inl is ↦ ap (has k) (cond_is (not (x == k)) false (x ∷ without k ks) (without k ks) (ap not is.1)) ∙ has_gone k ks
  | inr is ↦
      ap (has k) (cond_is (not (x == k)) true (x ∷ without k ks) (without k ks) (ap not is.1))
      ∙ or_right (x == k) (has k (without k ks)) false is.1 (has_gone k ks)
]

pub at_most : (k : ℕ) (ks : List ℕ) → length (without k ks) ≤ length ks
at_most k [] = omega arith
at_most k (x ∷ ks) = elim (tested x k) [
  | inl is ↦ omega (arith, at_most k ks, ap length (cond_is (not (x == k)) false (x ∷ without k ks) (without k ks) (ap not is.1)))
  | inr is ↦ omega (arith, at_most k ks, ap length (cond_is (not (x == k)) true (x ∷ without k ks) (without k ks) (ap not is.1)))
]

pub less : (k : ℕ) (ks : List ℕ) → has k ks ≡ true → length (without k ks) < length ks
less k [] there = absurd (cc)
less k (x ∷ ks) there = elim (tested x k) [
  | inl is ↦ omega (arith, at_most k ks, ap length (cond_is (not (x == k)) false (x ∷ without k ks) (without k ks) (ap not is.1)))
  | inr is ↦ omega (arith, less k ks (sym (or_right (x == k) (has k ks) (has k ks) is.1 refl) ∙ there), ap length (cond_is (not (x == k)) true (x ∷ without k ks) (without k ks) (ap not is.1)))
]

-- ---- lists that have nothing twice

abbrev pub IsOnce : List ℕ → Type 0
IsOnce [] = Unit {0}
IsOnce (x ∷ ks) = (has x ks ≡ false) × IsOnce ks

pub same_without : (k : ℕ) (ks : List ℕ) → has k ks ≡ false → without k ks ≡ ks
same_without k [] none = refl
same_without k (x ∷ ks) none = elim (tested x k) [
  | inl is ↦ absurd (let clash : true ≡ false = sym (or_left (x == k) (has k ks) is.1) ∙ none in cc)
  | inr is ↦
      cond_is (not (x == k)) true (x ∷ without k ks) (without k ks) (ap not is.1)
      ∙ ap (λ l. x ∷ l) (same_without k ks (sym (or_right (x == k) (has k ks) (has k ks) is.1 refl) ∙ none))
]

-- one thing less is left
pub one_less : (k : ℕ) (ks : List ℕ) → IsOnce ks → has k ks ≡ true → length (without k ks) + 1 ≡ length ks
one_less k [] once there = absurd (cc)
one_less k (x ∷ ks) once there = elim (tested x k) [
  | inl is ↦
      let gone : has k ks ≡ false = ap (λ q. has q ks) (sym is.0) ∙ once.0 in
      omega (arith, ap length (same_without k ks gone), ap length (cond_is (not (x == k)) false (x ∷ without k ks) (without k ks) (ap not is.1)))
  | inr is ↦ omega (arith, one_less k ks once.1 (sym (or_right (x == k) (has k ks) (has k ks) is.1 refl) ∙ there), ap length (cond_is (not (x == k)) true (x ∷ without k ks) (without k ks) (ap not is.1)))
]

pub once_without : (k : ℕ) (ks : List ℕ) → IsOnce ks → IsOnce (without k ks)
once_without k [] once = tt
once_without k (x ∷ ks) once = elim (tested x k) [
  | inl is ↦ subst_once (sym (cond_is (not (x == k)) false (x ∷ without k ks) (without k ks) (ap not is.1))) (once_without k ks once.1)
  | inr is ↦ subst_once (sym (cond_is (not (x == k)) true (x ∷ without k ks) (without k ks) (ap not is.1))) (has_others x k ks is.0 ∙ once.0, once_without k ks once.1)
]
  where
    subst_once : {a b : List ℕ} → a ≡ b → IsOnce a → IsOnce b
    subst_once e once = subst IsOnce e once
