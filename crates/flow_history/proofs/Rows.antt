-- What a flow owes, row by row.
use Rattle.std.proofs.Common.{◌≡◌, ℕ, List, [], ◌∷◌, refl, sym, ap, subst, inl, inr, arith}
use Rattle.rtmfp_data_chunks.specs.Fragments.{Message}
use Rattle.rtmfp_data_chunks.specs.HandsOver.{IsIn, HandsOver}
use Rattle.flow_history.specs.Broken.{said}
use Rattle.flow_history.specs.Edges.{longer, InQueueingOrder, InArrivalOrder, FlowsAreApart}

-- the only one of a list, and the two of one
one_of : (P : Message → Type 0) (a m : Message) → P a → IsIn m (a ∷ []) → P m
one_of P a m p (inl e) = subst P (sym e) p
one_of P a m p (inr i) = absurd i

two_of : (P : Message → Type 0) (a b m : Message) → P a → P b → IsIn m (a ∷ b ∷ []) → P m
two_of P a b m p q (inl e) = subst P (sym e) p
two_of P a b m p q (inr (inl e)) = subst P (sym e) q
two_of P a b m p q (inr (inr i)) = absurd i

bytes_are : (m n : Message) → m ≡ n → m.bytes ≡ n.bytes
bytes_are m n e = ap (λ (x : Message). x.bytes) e

not_longer : IsIn (said 1 7) (longer ∷ []) → ⊥
not_longer (inl e) = let b : ◌≡◌ {A = List ℕ} (7 ∷ []) (7 ∷ 8 ∷ []) = bytes_are _ _ e in absurd cc
not_longer (inr i) = i

not_other : IsIn (said 1 8) (said 1 7 ∷ []) → ⊥
not_other (inl e) = let b : ◌≡◌ {A = List ℕ} (8 ∷ []) (7 ∷ []) = bytes_are _ _ e in absurd cc
not_other (inr i) = i

not_second : IsIn (said 1 7) (said 2 8 ∷ []) → ⊥
not_second (inl e) =
    let n : ◌≡◌ {A = ℕ} 1 2 = ap (λ (x : Message). x.number) e in absurd cc
not_second (inr i) = i

two_not_one : ◌≡◌ {A = ℕ} 1 2 → ⊥
two_not_one e = absurd cc

both_over : HandsOver (said 2 8 ∷ said 1 7 ∷ []) [] (said 1 7 ∷ said 2 8 ∷ [])
both_over = record {
  rise = (
    λ later i. one_of (λ (m : Message). Rattle.std.specs.Prelude.◌<◌ 1 m.number)
        (said 2 8) later (omega arith) i,
    (λ later i. absurd i, tt),
  );
  were_queued = λ m i. two_of (λ (x : Message). IsIn x (said 2 8 ∷ said 1 7 ∷ [])) (said 1 7)
      (said 2 8) m
      (inr (inl refl)) (inl refl) i;
  skipped = λ m later q h lt unhanded. absurd (unhanded
      (two_of (λ (x : Message). IsIn x (said 1 7 ∷ said 2 8 ∷ [])) (said 2 8) (said 1 7) m
      (inr (inl refl)) (inl refl) q));
}

not_below : (m : Message) → IsIn m (said 2 8 ∷ said 1 7 ∷ []) → (IsIn m (said 2 8 ∷ []) → ⊥) →
    IsIn m.number (1 ∷ [])
not_below m (inl e) unhanded = absurd (unhanded (inl e))
not_below m (inr (inl e)) unhanded = inl (ap (λ (x : Message). x.number) e)
not_below m (inr (inr i)) unhanded = absurd i

skips_over : HandsOver (said 2 8 ∷ said 1 7 ∷ []) (1 ∷ []) (said 2 8 ∷ [])
skips_over = record {
  rise = (λ later i. absurd i, tt);
  were_queued = λ m i. inl (one_of (λ (x : Message). x ≡ said 2 8) (said 2 8) m refl i);
  skipped = λ m later q h lt unhanded. not_below m q unhanded;
}

pub in_queueing_order : InQueueingOrder
in_queueing_order = record {
  both = both_over;
  skips = skips_over;
  passes = λ h. h.skipped (said 1 7) (said 2 8) (inr (inl refl)) (inl refl)
      (omega arith) not_second;
  wrong_one =
      λ h. elim (h.skipped (said 1 7) (said 2 8) (inr (inl refl)) (inl refl)
      (omega arith) not_second)
      [ inl e ↦ two_not_one e | inr i ↦ i ];
  falls = λ h. let lt = h.rise.0 (said 1 7) (inl refl) in omega (arith, lt);
  twice = λ h. let lt = h.rise.0 (said 1 7) (inl refl) in omega (arith, lt);
  part = λ h. not_longer (h.were_queued (said 1 7) (inl refl));
  other = λ h. not_other (h.were_queued (said 1 8) (inl refl));
}

pub in_arrival_order : InArrivalOrder
in_arrival_order = record {
  later_first = record {
    differ = (
      λ other i e. two_not_one (sym (subst (λ (n : ℕ). 2 ≡ n)
          (one_of (λ (x : Message). x.number ≡ 1) (said 1 7) other refl i) e)),
      (λ other i e. i, tt),
    );
    were_queued = λ m i. i;
  };
  alone = record {
    differ = (λ other i e. i, tt);
    were_queued = λ m i. inl (one_of (λ (x : Message). x ≡ said 2 8) (said 2 8) m refl i);
  };
  twice = λ h. h.differ.0 (said 1 7) (inl refl) refl;
  part = λ h. not_longer (h.were_queued (said 1 7) (inl refl));
}

pub flows_are_apart : FlowsAreApart
flows_are_apart = record { first = refl; second = refl; another = refl }
