-- A chunk that isn't refused keeps the window.
use Rattle.std.proofs.Common.{◌≡◌, ℕ, ◌+◌, ◌≤◌, ◌==◌, min, max, nat_le, nat_lt, not, cond, Bool, true, false, ◌&&◌, ◌||◌, List, [], ◌∷◌, refl, ap, sym, ◌∙◌, subst, arith, inl, inr, ◌⊎◌}
use Rattle.std.proofs.lemmas.Bool.{cases_Bool, cases_lt, lt-ltb, le-ltb, leb-true, eqb-true, ltb-false}
use Rattle.flow_recv.specs.declared.spans.Span.{Span}
use Rattle.flow_recv.specs.Receiver.{FromZero, knows, lacks, add_span, end_of_first, held_in, spans_forward, runs_forward, spans_after, counted, passes_buffer}
use Rattle.flow_recv.proofs.Knowing.{apart_formed, from_zero_add, lacks_after}
use Rattle.flow_recv.specs.Window.{KeepsWithin}
use Rattle.flow_recv.proofs.Taking.{passes_if}

end_at_least : (m : ℕ) (ss : List Span) → m ≤ end_of_first (add_span 0 m ss)
end_at_least m [] = omega arith
end_at_least m (s ∷ later) = rw (le-ltb (s.last + 1) 0 (omega arith)) (
    elim (cases_lt (m + 1) s.first) [
      | inl l ↦ rw (lt-ltb (m + 1) s.first l) (omega arith)
      | inr l ↦ rw (le-ltb (m + 1) s.first l) (
          let e : min 0 s.first ≡ 0 = omega arith in
          rw e (omega (arith, end_at_least (max m s.last) later))
          )
    ]
    )

end_rises : (a b : ℕ) (ss : List Span) → FromZero ss → end_of_first ss ≤ end_of_first (add_span a b ss)
end_rises a b [] z = absurd z
end_rises a b (s ∷ later) z = elim (cases_lt (s.last + 1) a) [
  | inl l ↦ rw (lt-ltb (s.last + 1) a l) (omega arith)
  | inr l ↦ rw (le-ltb (s.last + 1) a l) (
      rw (le-ltb (b + 1) s.first (omega (arith, z))) (
      let e : min a s.first ≡ 0 = omega (arith, z) in
      rw e (omega (arith, end_at_least (max b s.last) later))
      )
      )
]

known_cases : (l a b : Bool) → (l && not (a || b)) ≡ false → (l ≡ false) ⊎ (a ≡ true) ⊎ (b ≡ true)
known_cases true true b e = inr (inl refl)
known_cases true false true e = inr (inr refl)
known_cases true false false e = absurd cc
known_cases false a b e = inl refl

not_true : (b : Bool) → not b ≡ false → b ≡ true
not_true true e = refl
not_true false e = absurd cc

near_if : (t : Bool) (low held len seq : ℕ) → (seq == low) ≡ t → cond t (nat_lt 3145728 (held + len)) (cond (nat_lt 2097152 (held + len)) true (nat_lt (low + 65536) seq)) ≡ false → seq ≤ low + 65536
near_if true low held len seq e f = omega (arith, eqb-true seq low e)
near_if false low held len seq e f = elim (cases_Bool (nat_lt 2097152 (held + len))) [
  | inl t ↦ absurd (let g : true ≡ false = subst (λ (x : Bool). cond x true (nat_lt (low + 65536) seq) ≡ false) t f in cc)
  | inr t ↦ let g : nat_lt (low + 65536) seq ≡ false = subst (λ (x : Bool). cond x true (nat_lt (low + 65536) seq) ≡ false) t f in ltb-false (low + 65536) seq g
]

pub keeps_within : KeepsWithin
keeps_within r c apart z within none n known =
    let f = spans_forward r c in
    let zf = from_zero_add 0 c.forward r.spans z in
    let up1 = end_rises 0 c.forward r.spans z in
    let up2 = end_rises c.seq c.seq f zf in
    let low = end_at_least c.forward r.spans in
    let after : (lacks r.spans n && not ((n == c.seq) || nat_le n c.forward)) ≡ false = sym (lacks_after r c n (apart_formed r.spans apart)) ∙ ap not known in
    let old : (k : ℕ) → lacks r.spans k ≡ false → k ≤ end_of_first (spans_after r c) + 1 + 65536 = λ k e. omega (arith, within k (not_true (knows r.spans k) e), up1, up2) in
    elim (known_cases (lacks r.spans n) (n == c.seq) (nat_le n c.forward) after) [
      | inl a ↦ old n a
      | inr a ↦ elim a [
        | inl e ↦
            let same = eqb-true n c.seq e in
            elim (cases_Bool (lacks r.spans c.seq)) [
              | inr k ↦ subst (λ (i : ℕ). i ≤ end_of_first (spans_after r c) + 1 + 65536) (sym same) (old c.seq k)
              | inl k ↦ elim (cases_lt c.forward c.seq) [
                | inr le ↦ omega (arith, same, le, low, up2)
                | inl lt ↦
                    let held = held_in (runs_forward r c) in
                    let lowest = end_of_first f + 1 in
                    let passes = passes_if (lacks r.spans c.seq) (nat_lt c.forward c.seq) (passes_buffer lowest held c) true held k (lt-ltb c.forward c.seq lt) none in
                    omega (arith, same, near_if (c.seq == lowest) lowest held (counted c) c.seq refl passes, up2)
              ]
            ]
        | inr le ↦ omega (arith, leb-true n c.forward le, low, up2)
      ]
    ]
