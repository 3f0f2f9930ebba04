-- Why one session at most may send in a context: with two, each other condition met, a message is
-- passed over that was not abandoned.
use Rattle.std.proofs.Common.{◌≡◌, ℕ, false, List, [], ◌∷◌, Some, refl, ap, inl, inr, subst, sym}
use Rattle.std.proofs.Common.{arith}
use Rattle.rtmfp_data_chunks.specs.Fragments.{Message}
use Rattle.rtmfp_data_chunks.specs.HandsOver.{IsIn, HandsOver}
use Rattle.rtmfp_fragments.specs.Pieces.{PieceParts}
use Rattle.flow_send.specs.Acks.{Told}
use Rattle.flow_history.specs.Flow.{Carried}
use Rattle.flow_history.specs.Said.{WasGiven, WasTold}
use Rattle.flow_history.specs.Deeds.{back, name, Data, Ack, Part, Out, done, History, steps_of}
use Rattle.flow_history.specs.Lawful.{MayDo, IsHonest}
use Rattle.flow_history.specs.Log.{log_of, queued_of, abandoned_of, handed_of}
use Rattle.flow_history.specs.Lively.{there, flow}
use Rattle.flow_history.specs.Broken.{said, part, before, broken, IsLawfulBut}

broken_handed : handed_of flow (log_of broken) ≡ said 1 7 ∷ said 2 9 ∷ []
broken_handed = refl

broken_queued : queued_of flow (log_of broken) ≡ said 2 9 ∷ said 1 8 ∷ said 1 7 ∷ []
broken_queued = refl

broken_abandoned : abandoned_of flow (log_of broken) ≡ []
broken_abandoned = refl

not_handed : IsIn (said 1 8) (said 1 7 ∷ said 2 9 ∷ []) → ⊥
not_handed (inl e) = let b : ◌≡◌ {A = List ℕ} (8 ∷ []) (7 ∷ []) = ap (λ (m : Message). m.bytes) e in
    absurd cc
not_handed (inr (inl e)) = let n : ◌≡◌ {A = ℕ} 1 2 = ap (λ (m : Message). m.number) e in absurd cc
not_handed (inr (inr i)) = i

-- 8 is passed over
pub broken_hands : HandsOver (queued_of flow (log_of broken)) (abandoned_of flow (log_of broken))
    (handed_of flow (log_of broken)) → ⊥
broken_hands h = h.skipped (said 1 8) (said 2 9) (inr (inl refl)) (inr (inl refl))
    (omega arith) not_handed

pub broken_honest : IsHonest broken
broken_honest = (
  tt,
  (
    tt,
    (
      tt,
      (
        tt,
        (
          tt,
          (
            inr (inl (refl, refl)),
            (
              inr (inl (refl, refl)),
              (tt, (tt, (tt, (tt, (tt, (tt, (tt, (tt, (tt, (tt, (tt, (tt, (tt, tt))))))))))))),
            ),
          ),
        ),
      ),
    ),
  ),
)

the_data : (P : ℕ → Carried → Type 0) (y : Carried) (f : ℕ) (x : Carried) → P 0 y →
    IsIn (Data f x) (Data 0 y ∷ []) → P f x
the_data P y f x p (inl e) = let a : f ≡ 0 = cc in let b : x ≡ y = cc in
    subst (λ (g : ℕ). P g x) (sym a) (subst (λ (z : Carried). P 0 z) (sym b) p)
the_data P y f x p (inr k) = absurd k

no_ack : (P : ℕ → Told → Type 0) (y : Carried) (f : ℕ) (x : Told) → IsIn (Ack f x) (Data 0 y ∷ []) →
    P f x
no_ack P y f x (inl e) = absurd cc
no_ack P y f x (inr k) = absurd k

whole : (y : Carried) (id : ℕ) (x : PieceParts) → IsIn (Part id x) (Data 0 y ∷ []) → ⊥
whole y id x (inl e) = absurd cc
whole y id x (inr k) = k

abbrev gone_one : History
gone_one = done 1 (Out there (Data 0 (part 1 7) ∷ [])) ∷ before

may_go_two : MayDo gone_one 3 (Out there (Data 0 (part 2 9) ∷ []))
may_go_two = (
  λ f x i. the_data (λ g y. WasGiven (steps_of (name there g) gone_one) y) (part 2 9) f x
      (inr (inl (record { flow = _; is_open = refl; given = refl; order = refl }))) i,
  λ f a i. no_ack (λ g y. WasTold (steps_of (name (back there) g) gone_one) y) (part 2 9) f a i,
  λ id x i. absurd (whole (part 2 9) id x i),
)

may_go_one : MayDo before 1 (Out there (Data 0 (part 1 7) ∷ []))
may_go_one = (
  λ f x i. the_data (λ g y. WasGiven (steps_of (name there g) before) y) (part 1 7) f x
      (inr (inr (inl (record { flow = _; is_open = refl; given = refl; order = refl })))) i,
  λ f a i. no_ack (λ g y. WasTold (steps_of (name (back there) g) before) y) (part 1 7) f a i,
  λ id x i. absurd (whole (part 1 7) id x i),
)

pub broken_lawful : IsLawfulBut broken
broken_lawful = (
  (_, _, refl, refl),
  (
    ((_, refl), Some false, inr (inr (inr (inl (refl, (refl, inl refl)))))),
    (
      (_, _, refl, refl),
      (
        ((_, refl), Some false, inr (inr (inl (refl, (refl, inl refl))))),
        (
          (refl, (part 2 9).chunk, inl (refl, (refl, inl refl))),
          (
            tt,
            (
              tt,
              (
                may_go_two,
                (
                  may_go_one,
                  (
                    ((_, refl), tt),
                    (
                      ((_, refl), tt),
                      (
                        ((_, refl), tt),
                        (
                          ((_, refl), tt),
                          (((_, refl), tt), (((_, refl), tt), (refl, (refl, (tt, (tt, (tt, tt))))))),
                        ),
                      ),
                    ),
                  ),
                ),
              ),
            ),
          ),
        ),
      ),
    ),
  ),
)
