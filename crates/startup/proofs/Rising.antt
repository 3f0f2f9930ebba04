-- Marks that rise, so that each stands once.
use Rattle.std.proofs.Common.{ℕ, ◌≡◌, ◌<◌, ◌≤◌, ◌+◌, ◌-◌, List, length, sym, ap, ◌∙◌, subst, arith, inl, inr}
use Rattle.std.proofs.lemmas.Bool.{cases_lt, cases_order}
use Rattle.startup.specs.declared.marks.Mark.{Mark}
use Rattle.startup.specs.Marks.{IsBefore, IsUpTo, IsRising, IsPlace, Stands, mark_at}

up_to : (a b : Mark) → IsBefore a b → IsUpTo a b
up_to a b before = record { words = before.words; nears = λ e. let lt = before.nears e in omega (arith, lt) }

before_then : (a b c : Mark) → IsBefore a b → IsUpTo b c → IsBefore a c
before_then a b c before up =
    let ab = before.words in
    let bc = up.words in
    record {
      words = omega (arith, ab, bc);
      nears = λ e. let u = before.nears (omega (arith, ab, bc, e)) in let v = up.nears (omega (arith, ab, bc, e)) in omega (arith, u, v);
    }

apart_is_before : (a b : Mark) → IsUpTo a b → (a ≡ b → ⊥) → IsBefore a b
apart_is_before a b up apart = record {
  words = up.words;
  nears = λ e. elim (cases_lt a.near b.near) [
    | inl lt ↦ lt
    | inr le ↦ let n : a.near ≡ b.near = (let u = up.nears e in omega (arith, u, le)) in absurd (apart (λ i. record { word = e i; near = n i }))
  ];
}

moved : (a b x y : Mark) → a ≡ x → b ≡ y → IsBefore x y → IsBefore a b
moved a b x y p q is = subst (λ (m : Mark). IsBefore m b) (sym p) (subst (λ (m : Mark). IsBefore x m) (sym q) is)

module _ (old : List Mark) (mark : Mark) (at : ℕ) (spot : IsPlace old mark at) (rise : IsRising old) where
  -- a mark that doesn't stand at its place stands before all from there on
  further : (at < length old → mark_at old at ≡ mark → ⊥) → (k : ℕ) → at ≤ k → k < length old → IsBefore mark (mark_at old k)
  further other k le inside =
      let there : at < length old = omega (arith, le, inside) in
      let first : IsBefore mark (mark_at old at) = apart_is_before mark (mark_at old at) (spot.behind at (omega arith) there) (λ e. other there (sym e)) in
      elim (cases_lt at k) [
        | inl lt ↦ before_then mark (mark_at old at) (mark_at old k) first (up_to (mark_at old at) (mark_at old k) (rise at k lt inside))
        | inr ge ↦ let same : at ≡ k = omega (arith, le, ge) in subst (λ n. IsBefore mark (mark_at old n)) same first
      ]

  module _ (new : List Mark) (below : (k : ℕ) → k < at → mark_at new k ≡ mark_at old k) where
    -- it is put in its place
    module _ (longer : length new ≡ length old + 1) (here : mark_at new at ≡ mark) (above : (k : ℕ) → at < k → mark_at new k ≡ mark_at old (k - 1)) where
      pub put_rises : (at < length old → mark_at old at ≡ mark → ⊥) → IsRising new
      put_rises other j k lt inside = elim (cases_order j at) [
        | inl is ↦
            moved (mark_at new j) (mark_at new k) mark (mark_at old (k - 1)) (ap (mark_at new) is ∙ here) (above k (omega (arith, is, lt)))
            (further other (k - 1) (omega (arith, is, lt)) (omega (arith, longer, inside, lt)))
        | inr (inl low) ↦ elim (cases_order k at) [
          | inl is ↦ moved (mark_at new j) (mark_at new k) (mark_at old j) mark (below j low) (ap (mark_at new) is ∙ here) (spot.before j low)
          | inr (inl lower) ↦ moved (mark_at new j) (mark_at new k) (mark_at old j) (mark_at old k) (below j low) (below k lower) (rise j k lt (omega (arith, lower, spot.inside)))
          | inr (inr higher) ↦
              moved (mark_at new j) (mark_at new k) (mark_at old j) (mark_at old (k - 1)) (below j low) (above k higher)
              (rise j (k - 1) (omega (arith, low, higher)) (omega (arith, longer, inside, lt)))
        ]
        | inr (inr high) ↦
            moved (mark_at new j) (mark_at new k) (mark_at old (j - 1)) (mark_at old (k - 1)) (above j high) (above k (omega (arith, high, lt)))
            (rise (j - 1) (k - 1) (omega (arith, high, lt)) (omega (arith, longer, inside, lt)))
      ]

    -- it is taken from its place
    module _ (shorter : length new + 1 ≡ length old) (above : (k : ℕ) → at ≤ k → mark_at new k ≡ mark_at old (k + 1)) where
      pub taken_rises : IsRising new
      taken_rises j k lt inside = elim (cases_lt k at) [
        | inl lower ↦ moved (mark_at new j) (mark_at new k) (mark_at old j) (mark_at old k) (below j (omega (arith, lt, lower))) (below k lower) (rise j k lt (omega (arith, inside, shorter)))
        | inr higher ↦ elim (cases_lt j at) [
          | inl low ↦ moved (mark_at new j) (mark_at new k) (mark_at old j) (mark_at old (k + 1)) (below j low) (above k higher) (rise j (k + 1) (omega (arith, lt)) (omega (arith, inside, shorter)))
          | inr high ↦ moved (mark_at new j) (mark_at new k) (mark_at old (j + 1)) (mark_at old (k + 1)) (above j high) (above k higher) (rise (j + 1) (k + 1) (omega (arith, lt)) (omega (arith, inside, shorter)))
        ]
      ]

      -- the others stay
      pub taken_rest : at < length old → mark_at old at ≡ mark → (other : Mark) → (other ≡ mark → ⊥) → Stands old other → Stands new other
      taken_rest there is other apart was = elim (cases_order was.at at) [
        | inl e ↦ absurd (apart (sym was.here ∙ ap (mark_at old) e ∙ is))
        | inr (inl low) ↦ record { at = was.at; least = omega arith; inside = omega (arith, low, there, shorter); here = below was.at low ∙ was.here }
        | inr (inr high) ↦ record {
          at = was.at - 1;
          least = omega arith;
          inside = omega (arith, high, was.inside, shorter);
          here = above (was.at - 1) (omega (arith, high)) ∙ ap (mark_at old) (omega (arith, high)) ∙ was.here;
        }
      ]
