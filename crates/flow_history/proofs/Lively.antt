-- The lively history is lawful and honest, and hands its message over.
use Rattle.std.proofs.Common.{◌≡◌, ℕ, true, false, [], ◌∷◌, Some, refl, ap, inl, inr, subst, sym}
use Rattle.std.proofs.Common.{◌∙◌}
use Rattle.flow_send.specs.Acks.{Told}
use Rattle.rtmfp_data_chunks.specs.HandsOver.{IsIn}
use Rattle.rtmfp_fragments.specs.Pieces.{PieceParts}
use Rattle.flow_history.specs.Flow.{Carried}
use Rattle.flow_history.specs.Said.{WasGiven, WasTold}
use Rattle.flow_history.specs.Deeds.{Context, back, name, Data, Ack, Part, Out, steps_of}
use Rattle.flow_history.specs.Lawful.{MayDo, IsLawful, IsHonest}
use Rattle.flow_history.specs.Log.{HasOrder, log_of, handed_of}
use Rattle.flow_history.specs.Lively.{there, flow, message, chunk, carried, ack, at_queued}
use Rattle.flow_history.specs.Lively.{at_given, at_sent, at_made, at_handed, at_acked, at_told}
use Rattle.flow_history.specs.Lively.{lively}

ways_differ : (c d : Context) → c ≡ d → c.to_responder ≡ true → d.to_responder ≡ false → ⊥
ways_differ c d e t f = let q : true ≡ false = sym t ∙ (ap (λ x. x.to_responder) e ∙ f) in absurd cc

-- what goes out was given, what goes back was told
the_data : (P : ℕ → Carried → Type 0) (f : ℕ) (x : Carried) → P 0 carried →
    IsIn (Data f x) (Data 0 carried ∷ []) → P f x
the_data P f x p (inl e) = let a : f ≡ 0 = cc in let b : x ≡ carried = cc in
    subst (λ (g : ℕ). P g x) (sym a) (subst (λ (y : Carried). P 0 y) (sym b) p)
the_data P f x p (inr k) = absurd k

the_ack : (P : ℕ → Told → Type 0) (f : ℕ) (x : Told) → P 0 ack → IsIn (Ack f x) (Ack 0 ack ∷ []) →
    P f x
the_ack P f x p (inl e) = let a : f ≡ 0 = cc in let b : x ≡ ack = cc in
    subst (λ (g : ℕ). P g x) (sym a) (subst (λ (y : Told). P 0 y) (sym b) p)
the_ack P f x p (inr k) = absurd k

no_data : (P : ℕ → Carried → Type 0) (f : ℕ) (x : Carried) → IsIn (Data f x) (Ack 0 ack ∷ []) →
    P f x
no_data P f x (inl e) = absurd cc
no_data P f x (inr k) = absurd k

no_ack : (P : ℕ → Told → Type 0) (f : ℕ) (x : Told) → IsIn (Ack f x) (Data 0 carried ∷ []) → P f x
no_ack P f x (inl e) = absurd cc
no_ack P f x (inr k) = absurd k

queued_lawful : IsLawful at_queued
queued_lawful = (
  ((_, refl), tt),
  (
    refl,
    (
      (λ h. elim h [ inl e ↦ ways_differ there (back there) e refl refl | inr k ↦ k ]),
      ((λ h. h), tt),
    ),
  ),
)

whole_data : (y : Carried) (id : ℕ) (x : PieceParts) → IsIn (Part id x) (Data 0 y ∷ []) → ⊥
whole_data y id x (inl e) = absurd cc
whole_data y id x (inr k) = k

whole_ack : (id : ℕ) (x : PieceParts) → IsIn (Part id x) (Ack 0 ack ∷ []) → ⊥
whole_ack id x (inl e) = absurd cc
whole_ack id x (inr k) = k

may_go : MayDo at_given 1 (Out there (Data 0 carried ∷ []))
may_go = (
  λ f x i. the_data (λ g y. WasGiven (steps_of (name there g) at_given) y) f x
      (inl (record { flow = _; is_open = refl; given = refl; order = refl })) i,
  λ f a i. no_ack (λ g y. WasTold (steps_of (name (back there) g) at_given) y) f a i,
  λ id x i. absurd (whole_data carried id x i),
)

pub sent_lawful : IsLawful at_sent
sent_lawful = (may_go, (((_, refl), tt), queued_lawful))

made_lawful : IsLawful at_made
made_lawful = ((refl, chunk, inl (refl, (refl, inl refl))), (tt, sent_lawful))

handed_lawful : IsLawful at_handed
handed_lawful =
    ((_, _, refl, refl), (((_, refl), Some false, inr (inl (refl, (refl, inl refl)))), made_lawful))

may_go_back : MayDo at_acked 2 (Out (back there) (Ack 0 ack ∷ []))
may_go_back = (
  λ f x i. no_data (λ g y. WasGiven (steps_of (name (back there) g) at_acked) y) f x i,
  λ f a i. the_ack (λ g y. WasTold (steps_of (name there g) at_acked) y) f a
      (inl (record { receiver = _; is_made = refl; told = refl })) i,
  λ id x i. absurd (whole_ack id x i),
)

told_lawful : IsLawful at_told
told_lawful = (may_go_back, ((_, refl), handed_lawful))

pub lively_lawful : IsLawful lively
lively_lawful = (tt, (((_, refl), inl (refl, (refl, inl refl))), (tt, told_lawful)))

pub lively_honest : IsHonest lively
lively_honest = (
  tt,
  (
    tt,
    (
      inl (refl, refl),
      (tt, (tt, (tt, (tt, (tt, (inl (refl, refl), (tt, (tt, (tt, (tt, (tt, (tt, tt)))))))))))),
    ),
  ),
)

pub lively_hands : handed_of flow (log_of lively) ≡ message ∷ []
lively_hands = refl

pub lively_ordered : HasOrder false flow lively
lively_ordered =
    (tt, (tt, (tt, (tt, (tt, (tt, (tt, (tt, (tt, (tt, (tt, (tt, (refl, (tt, (tt, tt)))))))))))))))
