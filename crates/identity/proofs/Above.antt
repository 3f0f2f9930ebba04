-- The byte order of lists: what std's comparison answers, and the laws of a strict total order.
use Rattle.std.proofs.Common.{ℕ, List, [], ◌∷◌, ◌≡◌, ◌≢◌, ◌<◌, ◌⊎◌, inl, inr, refl, sym, subst, arith, Some, Bool, true, false, ◌∙◌, nat_lt, nat_eq}
use Rattle.std.specs.Prelude.{◌↔◌, IsTrue, ◌||◌, ◌&&◌}
use Rattle.std.proofs.lemmas.Bool.{cases_order}
use Rattle.std.proofs.lemmas.Bool.Decides.{nat_tests}
use Rattle.std.specs.declared.cmp.Ordering.{Ordering}
use Rattle.std.specs.declared.cmp.Ordering.TheVariants.{Less, Equal, Greater}
use Rattle.std.specs.Ordering.{nat_cmp, partial_gt, partial_ordering_then, is_some_and, is_gt}
use Rattle.std.specs.Cmp.{nat_cmp_is}
use Rattle.std.specs.Cmp.Lexicographic.{slice_partial_cmp}
use Rattle.identity.specs.Order.{is_above, Prevails}

-- what the test of two bytes, and of what follows them, says
decided : (x y : ℕ) (rest : Bool) → IsTrue (nat_lt y x || (nat_eq x y && rest)) ↔ ((y < x) ⊎ ((x ≡ y) × IsTrue rest))
decided x y true = grind (arith, nat_tests)
decided x y false = grind (arith, nat_tests)

same_bytes : (x y : ℕ) (rest : Bool) → x ≡ y → (nat_lt y x || (nat_eq x y && rest)) ≡ rest
same_bytes x y true same = grind (arith, nat_tests)
same_bytes x y false same = grind (arith, nat_tests)

lower_byte : (x y : ℕ) (rest : Bool) → x < y → (nat_lt y x || (nat_eq x y && rest)) ≡ false
lower_byte x y rest lt = grind (arith, nat_tests)

greater_byte : (x y : ℕ) (rest : Bool) → y < x → (nat_lt y x || (nat_eq x y && rest)) ≡ true
greater_byte x y rest gt = grind (arith, nat_tests)

-- std's comparison of two lists of bytes answers the same
pub gt_is_above : (a b : List ℕ) → partial_gt (slice_partial_cmp (λ x y. Some (nat_cmp x y))) a b ≡ is_above a b
gt_is_above [] [] = refl
gt_is_above [] (y ∷ ys) = refl
gt_is_above (x ∷ xs) [] = refl
gt_is_above (x ∷ xs) (y ∷ ys) =
    let Answers : Ordering → Type 0 = λ o.
    is_some_and is_gt (partial_ordering_then (Some o) (slice_partial_cmp (λ x y. Some (nat_cmp x y)) xs ys)) ≡ is_above (x ∷ xs) (y ∷ ys) in
    elim (cases_order x y) [
      | inl same ↦ subst Answers (nat_cmp_is x y Equal same) (gt_is_above xs ys ∙ sym (same_bytes x y (is_above xs ys) same))
      | inr (inl lt) ↦ subst Answers (nat_cmp_is x y Less lt) (sym (lower_byte x y (is_above xs ys) lt))
      | inr (inr gt) ↦ subst Answers (nat_cmp_is x y Greater gt) (sym (greater_byte x y (is_above xs ys) gt))
    ]

-- no list is above itself
pub not_above_itself : (a : List ℕ) → Prevails a a → ⊥
not_above_itself [] p = absurd (cc)
not_above_itself (x ∷ xs) p =
    elim ((decided x x (is_above xs xs)).0 p) [ inl lt ↦ absurd (omega arith) | inr q ↦ not_above_itself xs q.1 ]

-- of two lists at most one is above the other
pub never_both : (a b : List ℕ) → Prevails a b → Prevails b a → ⊥
never_both [] b p q = absurd (cc)
never_both (x ∷ xs) [] p q = absurd (cc)
never_both (x ∷ xs) (y ∷ ys) p q =
    elim ((decided x y (is_above xs ys)).0 p) [
      | inl gt ↦ elim ((decided y x (is_above ys xs)).0 q) [ inl lt ↦ absurd (omega arith) | inr same ↦ absurd (omega (arith, same.0)) ]
      | inr same ↦ elim ((decided y x (is_above ys xs)).0 q) [ inl lt ↦ absurd (omega (arith, same.0)) | inr again ↦ never_both xs ys same.1 again.1 ]
    ]

-- what is above a list is above all that this list is above
pub above_along : (a b c : List ℕ) → Prevails a b → Prevails b c → Prevails a c
above_along [] b c p q = absurd (cc)
above_along (x ∷ xs) [] c p q = absurd (cc)
above_along (x ∷ xs) (y ∷ ys) [] p q = refl
above_along (x ∷ xs) (y ∷ ys) (z ∷ zs) p q =
    (decided x z (is_above xs zs)).1 (
    elim ((decided x y (is_above xs ys)).0 p) [
      | inl gt ↦ elim ((decided y z (is_above ys zs)).0 q) [ inl above ↦ inl (omega arith) | inr same ↦ inl (omega (arith, same.0)) ]
      | inr same ↦
          elim ((decided y z (is_above ys zs)).0 q) [ inl above ↦ inl (omega (arith, same.0)) | inr again ↦ inr (same.0 ∙ again.0, above_along xs ys zs same.1 again.1) ]
    ])

-- of two different lists one is above the other
pub one_above : (a b : List ℕ) → a ≢ b → Prevails a b ⊎ Prevails b a
one_above [] [] ne = absurd (ne refl)
one_above [] (y ∷ ys) ne = inr refl
one_above (x ∷ xs) [] ne = inl refl
one_above (x ∷ xs) (y ∷ ys) ne =
    elim (cases_order x y) [
      | inl same ↦
          elim (one_above xs ys (λ h. ne (cc))) [
            | inl p ↦ inl ((decided x y (is_above xs ys)).1 (inr (same, p)))
            | inr p ↦ inr ((decided y x (is_above ys xs)).1 (inr (sym same, p)))
          ]
      | inr (inl lt) ↦ inr ((decided y x (is_above ys xs)).1 (inl lt))
      | inr (inr gt) ↦ inl ((decided x y (is_above xs ys)).1 (inl gt))
    ]
