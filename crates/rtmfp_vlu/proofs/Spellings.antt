-- Where spellings end: no spelling begins another, so each list of bytes begins with at most one.
use Rattle.std.proofs.Common.{◌≡◌, ℕ, ◌<◌, ◌≤◌, List, [], ◌∷◌, ◌++◌, length, take, drop, Result, Ok, Err, refl, sym, ap, ◌∙◌, inl, inr, arith}
use Rattle.std.proofs.lemmas.List.{length-take, take-append-drop, take-take}
use Rattle.rtmfp_vlu.specs.Vlu.{value, IsContinued, AllContinued, IsEnded, VluSpells, IsCut, IsLarge}
use Rattle.rtmfp_vlu.specs.Decoding.{Decodes}
use Rattle.rtmfp_vlu.specs.declared.reading.VluFault.{VluFault}
use Rattle.rtmfp_vlu.specs.declared.reading.VluFault.TheVariants.{Short, Large}

pub AllContinued-push : (xs : List ℕ) (b : ℕ) → AllContinued xs → IsContinued b → AllContinued (xs ++ b ∷ [])
AllContinued-push [] b h c = (c, tt)
AllContinued-push (x ∷ xs) b h c = (h.0, AllContinued-push xs b h.1 c)

pub IsEnded-push : (xs : List ℕ) (b : ℕ) → AllContinued xs → b < 128 → IsEnded (xs ++ b ∷ [])
IsEnded-push [] b h lt = lt
IsEnded-push (x ∷ []) b h lt = (h.0, lt)
IsEnded-push (x ∷ y ∷ xs) b h lt = (h.0, IsEnded-push (y ∷ xs) b h.1 lt)

pub IsEnded-some : (s : List ℕ) → IsEnded s → 1 ≤ length s
IsEnded-some [] e = absurd e
IsEnded-some (b ∷ s) e = omega arith

-- what goes on to the end of the bytes has not ended before
pub not_ended : (s x : List ℕ) → AllContinued (s ++ x) → IsEnded s → ⊥
not_ended [] x h e = e
not_ended (a ∷ []) x h e = omega (arith, h.0.0)
not_ended (a ∷ b ∷ s) x h e = not_ended (b ∷ s) x h.1 e.1

pub not_ended_at : (n : ℕ) (b : List ℕ) → AllContinued b → IsEnded (take n b) → ⊥
not_ended_at n b h e = not_ended (take n b) (drop n b) (rw take-append-drop h) e

-- two spellings that begin the same bytes are one
pub prefix_code : (s t x y : List ℕ) → IsEnded s → IsEnded t → s ++ x ≡ t ++ y → s ≡ t
prefix_code [] t x y p q e = absurd p
prefix_code (a ∷ s) [] x y p q e = absurd q
prefix_code (a ∷ []) (b ∷ []) x y p q e = let same : a ≡ b = cc in ap (λ (n : ℕ). n ∷ []) same
prefix_code (a ∷ []) (b ∷ c ∷ t) x y p q e = let same : a ≡ b = cc in absurd (omega (arith, q.0.0))
prefix_code (a ∷ c ∷ s) (b ∷ []) x y p q e = let same : a ≡ b = cc in absurd (omega (arith, p.0.0))
prefix_code (a ∷ c ∷ s) (b ∷ d ∷ t) x y p q e =
    let same : a ≡ b = cc in
    let others : c ∷ s ++ x ≡ d ∷ t ++ y = cc in
    let tails : c ∷ s ≡ d ∷ t = prefix_code (c ∷ s) (d ∷ t) x y p.1 q.1 others in
    cc

pub same_end : (m n : ℕ) (b : List ℕ) → m ≤ length b → n ≤ length b → IsEnded (take m b) → IsEnded (take n b) → m ≡ n
same_end m n b hm hn p q =
    let same : take m b ≡ take n b = prefix_code (take m b) (take n b) (drop m b) (drop n b) p q (take-append-drop m b ∙ sym (take-append-drop n b)) in
    omega (arith, ap length same, length-take m b, length-take n b)

-- ---- one outcome rules the others out

pub not_cut : (b : List ℕ) (n : ℕ) → IsCut b → IsEnded (take n b) → ⊥
not_cut b n cut e = not_ended_at n b cut.1 e

pub not_large : (b : List ℕ) (v n : ℕ) → IsLarge b → n ≤ length b → VluSpells v (take n b) → ⊥
not_large b v n (inl long) le s =
    let few : n ≤ 10 = omega (arith, s.size, length-take n b) in
    not_ended_at n (take 10 b) long.1 (rw (take-take n 10 b few) s.ended)
not_large b v n (inr over) le s =
    let same : over.0 ≡ n = same_end over.0 n b over.1.0 le over.1.2 s.ended in
    omega (arith, over.2, s.sum, s.fits, ap (λ (k : ℕ). value (take k b)) same)

pub not_cut_and_large : (b : List ℕ) → IsCut b → IsLarge b → ⊥
not_cut_and_large b cut (inl long) = omega (arith, cut.0, long.0)
not_cut_and_large b cut (inr over) = not_cut b over.0 cut over.1.2

-- ---- so the decoder's answer is exact

pub complete_from : (b : List ℕ) (r : Result (ℕ × ℕ) VluFault) → Decodes b r → (v n : ℕ) → n ≤ length b → VluSpells v (take n b) → r ≡ Ok (v, n)
complete_from b (Ok found) d v n le s =
    let used : found.1 ≡ n = same_end found.1 n b d.0 le d.1.ended s.ended in
    let number : found.0 ≡ v = sym d.1.sum ∙ ap (λ (k : ℕ). value (take k b)) used ∙ s.sum in
    rw (← used, ← number) refl
complete_from b (Err Short) d v n le s = absurd (not_cut b n d s.ended)
complete_from b (Err Large) d v n le s = absurd (not_large b v n d le s)

pub short_from : (b : List ℕ) (r : Result (ℕ × ℕ) VluFault) → Decodes b r → (r ≡ Err Short → IsCut b) × (IsCut b → r ≡ Err Short)
short_from b (Ok found) d = (λ e. absurd cc, λ cut. absurd (not_cut b found.1 cut d.1.ended))
short_from b (Err Short) d = (λ e. d, λ cut. refl)
short_from b (Err Large) d = (λ e. absurd cc, λ cut. absurd (not_cut_and_large b cut d))

pub large_from : (b : List ℕ) (r : Result (ℕ × ℕ) VluFault) → Decodes b r → (r ≡ Err Large → IsLarge b) × (IsLarge b → r ≡ Err Large)
large_from b (Ok found) d = (λ e. absurd cc, λ large. absurd (not_large b found.0 found.1 large d.0 d.1))
large_from b (Err Short) d = (λ e. absurd cc, λ large. absurd (not_cut_and_large b d large))
large_from b (Err Large) d = (λ e. d, λ large. refl)
