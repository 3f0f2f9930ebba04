-- Of the entries of a map whose values pass a test, the first has the lowest key.
use Rattle.std.proofs.Common.{inl, inr, ◌⊎◌, ◌≡◌, ◌<◌, ◌≤◌, ℕ, zero, suc, Bool, true, false, Option, Some, None, refl, sym, ap, ◌∙◌, find, arith}
use Rattle.std.specs.Ordering.{nat_cmp}
use Rattle.std.specs.FinMap.{FinMap, entries, get}
use Rattle.std.proofs.lemmas.Bool.{cases_order}
use Rattle.rtmfp_base.proofs.Lowest.{lowest_is_first}

key_of : {V : Type 0} (a b : ℕ × V) → Some a ≡ Some b → a.0 ≡ b.0
key_of a b e = cc

module _ {V : Type 0} (p : V → Bool) (m : FinMap nat_cmp V) (e : ℕ × V) (found : find (λ x. p x.1) (entries m) ≡ Some e) where
  -- no value of a key below this one passes
  abbrev NoneBelow : ℕ → Type 0
  NoneBelow n = (j : ℕ) (w : V) → j < n → get m j ≡ Some w → p w ≡ false

  one_more : (n : ℕ) (o : Option V) → get m n ≡ o → NoneBelow n → NoneBelow (suc n) ⊎ (e.0 < suc n)
  one_more n None is none = inl (λ j w lt there. elim (cases_order j n) [
    | inl same ↦ let clash : Some w ≡ None = sym there ∙ ap (get m) same ∙ is in absurd cc
    | inr (inl below) ↦ none j w below there
    | inr (inr above) ↦ absurd (omega (arith, lt, above))
  ])
  one_more n (Some v) is none = by (p v) refl
    where
      by : (b : Bool) → p v ≡ b → NoneBelow (suc n) ⊎ (e.0 < suc n)
      by true passes = let key : e.0 ≡ n = key_of e (n, v) (sym found ∙ lowest_is_first p m n v is passes none) in inr (omega (arith, key))
      by false fails = inl (λ j w lt there. elim (cases_order j n) [
        | inl same ↦ let value : Some w ≡ Some v = sym there ∙ ap (get m) same ∙ is in let both : w ≡ v = cc in ap p both ∙ fails
        | inr (inl below) ↦ none j w below there
        | inr (inr above) ↦ absurd (omega (arith, lt, above))
      ])

  up_to : (n : ℕ) → NoneBelow n ⊎ (e.0 < n)
  up_to zero = inl (λ j w lt there. absurd (omega (arith, lt)))
  up_to (suc n) = elim (up_to n) [ inl none ↦ one_more n (get m n) refl none | inr lt ↦ inr (omega (arith, lt)) ]

  pub first_is_lowest : (j : ℕ) (w : V) → get m j ≡ Some w → p w ≡ true → e.0 ≤ j
  first_is_lowest j w there passes = elim (up_to (suc j)) [
    | inl none ↦ let clash : true ≡ false = sym passes ∙ none j w (omega arith) there in absurd cc
    | inr lt ↦ omega (arith, lt)
  ]
