-- The history with a packet in two pieces is lawful and honest, and hands its message over.
use Rattle.std.proofs.Common.{◌≡◌, ℕ, false, List, [], ◌∷◌, Some, refl, inl, inr, subst, sym}
use Rattle.rtmfp_data_chunks.specs.HandsOver.{IsIn}
use Rattle.rtmfp_fragments.specs.Pieces.{PieceParts}
use Rattle.flow_send.specs.Acks.{Told}
use Rattle.flow_history.specs.Flow.{Carried}
use Rattle.flow_history.specs.Said.{WasGiven, WasTold}
use Rattle.flow_history.specs.Deeds.{back, name, Data, Ack, Part, Out, done, History, steps_of}
use Rattle.flow_history.specs.Lawful.{HasPart, MayDo, IsLawful, IsHonest}
use Rattle.flow_history.specs.Log.{log_of, handed_of}
use Rattle.flow_history.specs.Lively.{there, flow, message, chunk}
use Rattle.flow_history.specs.Parts.{packet, first_part, last_part, at_split, at_parts, at_gathered}
use Rattle.flow_history.specs.Parts.{parted}
use Rattle.flow_history.proofs.Lively.{sent_lawful}

no_data : (P : ℕ → Carried → Type 0) (y : PieceParts) (f : ℕ) (x : Carried) →
    IsIn (Data f x) (Part 7 y ∷ []) → P f x
no_data P y f x (inl e) = absurd cc
no_data P y f x (inr k) = absurd k

no_ack : (P : ℕ → Told → Type 0) (y : PieceParts) (f : ℕ) (a : Told) →
    IsIn (Ack f a) (Part 7 y ∷ []) → P f a
no_ack P y f a (inl e) = absurd cc
no_ack P y f a (inr k) = absurd k

the_part : (P : ℕ → PieceParts → Type 0) (y : PieceParts) (id : ℕ) (x : PieceParts) → P 7 y →
    IsIn (Part id x) (Part 7 y ∷ []) → P id x
the_part P y id x p (inl e) = let a : id ≡ 7 = cc in let b : x ≡ y = cc in
    subst (λ (i : ℕ). P i x) (sym a) (subst (λ (z : PieceParts). P 7 z) (sym b) p)
the_part P y id x p (inr k) = absurd k

-- a part goes out of what was split
part_goes : (h : History) (y : PieceParts) → HasPart there 7 y h →
    MayDo h 1 (Out there (Part 7 y ∷ []))
part_goes h y has = (
  λ f x i. no_data (λ g z. WasGiven (steps_of (name there g) h) z) y f x i,
  λ f a i. no_ack (λ g z. WasTold (steps_of (name (back there) g) h) z) y f a i,
  λ id x i. the_part (λ n z. HasPart there n z h) y id x has i,
)

split_lawful : IsLawful at_split
split_lawful = (
  (
    inr (inr (inr (inr (inr (inl (refl, refl)))))),
    λ s p w. elim w [
      | inl e ↦ e
      | inr (inl e) ↦ e
      | inr (inr (inl e)) ↦ e
      | inr (inr (inr (inl e))) ↦ e
      | inr (inr (inr (inr (inl e)))) ↦ e
      | inr (inr (inr (inr (inr (inl e))))) ↦ e
      | inr (inr (inr (inr (inr (inr e))))) ↦ e
    ],
  ),
  sent_lawful,
)

parts_lawful : IsLawful at_parts
parts_lawful = (
  part_goes (done 1 (Out there (Part 7 first_part ∷ [])) ∷ at_split) last_part
      (2, packet, inr (inl (refl, refl, refl, refl)), inr (inl refl)),
  (
    part_goes at_split first_part (2, packet, inl (refl, refl, refl, refl), inl refl),
    split_lawful,
  ),
)

gathered_lawful : IsLawful at_gathered
gathered_lawful = (tt, (tt, (tt, parts_lawful)))

pub parted_lawful : IsLawful parted
parted_lawful = (
  (_, _, refl, refl),
  (
    ((_, refl), Some false, inr (inl (refl, (refl, inl refl)))),
    ((refl, chunk, inl (refl, (refl, inl refl))), gathered_lawful),
  ),
)

pub parted_honest : IsHonest parted
parted_honest = (tt, (tt, (tt, (inr (inr (inr (inr (inr (inl (refl, refl)))))), (inr (inr (inl (refl, refl))), (inl (refl, refl), (tt, (tt, (tt, (tt, (tt, (tt, (tt, (tt, (tt, tt)))))))))))))))

pub parted_hands : handed_of flow (log_of parted) ≡ message ∷ []
parted_hands = refl
