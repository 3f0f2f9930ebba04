-- What a decoder may answer is what is read from left to right.
use Rattle.std.proofs.Common.{◌≡◌, ℕ, zero, suc, ◌^◌, ◌<◌, ◌≤◌, List, [], ◌∷◌, length, take, ltb, true, false, Result, Ok, Err, refl, sym, inl, inr, arith}
use Rattle.std.proofs.lemmas.Bool.{lt-ltb, le-ltb}
use Rattle.std.proofs.lemmas.List.{length-take}
use Rattle.std.proofs.lemmas.Bool.{cases_lt}
use Rattle.rtmfp_vlu.proofs.Bytes.{IsBytes, IsBytes-tail}
use Rattle.rtmfp_vlu.proofs.Tails.{IsEnded-cons}
use Rattle.rtmfp_vlu.specs.declared.reading.VluFault.{VluFault}
use Rattle.rtmfp_vlu.specs.declared.reading.VluFault.TheVariants.{Short, Large}
use Rattle.rtmfp_vlu.specs.Vlu.{value, IsContinued, AllContinued, IsEnded, VluSpells, IsCut, IsLarge}
use Rattle.rtmfp_vlu.specs.Reading.{one_more, end_within, fitting, number_at}
use Rattle.rtmfp_vlu.specs.Decoding.{Decodes}

ends_at : (most n : ℕ) (b : List ℕ) → n ≤ most → n ≤ length b → IsEnded (take n b) → end_within most b ≡ Ok n
unfolding end_within
ends_at most zero b few le e = absurd e
ends_at zero (suc n) b few le e = absurd (omega arith)
ends_at (suc most) (suc n) [] few le e = absurd e
ends_at (suc most) (suc zero) (b ∷ bs) few le e = rw (lt-ltb b 128 e) refl
ends_at (suc most) (suc (suc n)) (b ∷ []) few le e = absurd (omega (arith, le))
ends_at (suc most) (suc (suc n)) (b ∷ c ∷ bs) few le e =
    rw (le-ltb b 128 e.0.0, ends_at most (suc n) (c ∷ bs) (omega (arith, few)) (omega (arith, le)) e.1) refl

cut_within : (most : ℕ) (b : List ℕ) → length b < most → AllContinued b → end_within most b ≡ Err Short
unfolding end_within
cut_within zero b lt c = absurd (omega arith)
cut_within (suc most) [] lt c = refl
cut_within (suc most) (b ∷ bs) lt c = rw (le-ltb b 128 c.0.0, cut_within most bs (omega (arith, lt)) c.1) refl

long_within : (most : ℕ) (b : List ℕ) → most ≤ length b → AllContinued (take most b) → end_within most b ≡ Err Large
unfolding end_within
long_within zero b le c = refl
long_within (suc most) [] le c = absurd (omega (arith, le))
long_within (suc most) (b ∷ bs) le c = rw (le-ltb b 128 c.0.0, long_within most bs (omega (arith, le)) c.1) refl

pub reads_number : (b : List ℕ) (v n : ℕ) → n ≤ length b → VluSpells v (take n b) → number_at b ≡ Ok (v, n)
unfolding number_at
reads_number b v n le s =
    let few : n ≤ 10 = omega (arith, s.size, length-take n b) in
    let below : ltb (value (take n b)) (2 ^ 64) ≡ true = lt-ltb _ _ (omega (arith, s.sum, s.fits)) in
    rw (ends_at 10 n b few le s.ended, below, s.sum) refl

pub reads_cut : (b : List ℕ) → IsCut b → number_at b ≡ Err Short
unfolding number_at
reads_cut b cut = rw (cut_within 10 b cut.0 cut.1) refl

pub reads_large : (b : List ℕ) → IsLarge b → number_at b ≡ Err Large
unfolding number_at
reads_large b (inl long) = rw (long_within 10 b long.0 long.1) refl
reads_large b (inr over) =
    let above : ltb (value (take over.0 b)) (2 ^ 64) ≡ false = le-ltb _ _ over.2 in
    rw (ends_at 10 over.0 b over.1.1 over.1.0 over.1.2, above) refl

pub exact_from : (b : List ℕ) (r : Result (ℕ × ℕ) VluFault) → Decodes b r → r ≡ number_at b
exact_from b (Ok found) d = sym (reads_number b found.0 found.1 d.0 d.1)
exact_from b (Err Short) d = sym (reads_cut b d)
exact_from b (Err Large) d = sym (reads_large b d)

-- ---- and the other way round

abbrev EndIs : ℕ → List ℕ → Result ℕ VluFault → Type 0
EndIs most b (Ok n) = (n ≤ length b) × (n ≤ most) × IsEnded (take n b)
EndIs most b (Err Short) = (length b < most) × AllContinued b
EndIs most b (Err Large) = (most ≤ length b) × AllContinued (take most b)

end_more : (most x : ℕ) (bs : List ℕ) (r : Result ℕ VluFault) → IsContinued x → EndIs most bs r → EndIs (suc most) (x ∷ bs) (one_more r)
end_more most x bs (Ok n) c e = (omega (arith, e.0), omega (arith, e.1), IsEnded-cons x (take n bs) c e.2)
end_more most x bs (Err Short) c e = (omega (arith, e.0), (c, e.1))
end_more most x bs (Err Large) c e = (omega (arith, e.0), (c, e.1))

end_is : (most : ℕ) (b : List ℕ) → IsBytes b → EndIs most b (end_within most b)
unfolding end_within
end_is zero b fits = (omega arith, tt)
end_is (suc most) [] fits = (omega arith, tt)
end_is (suc most) (x ∷ bs) fits =
    elim (cases_lt x 128) [
      | inl lt ↦ rw (lt-ltb x 128 lt) (omega arith, omega arith, lt)
      | inr ge ↦ rw (le-ltb x 128 ge) (end_more most x bs (end_within most bs) (ge, fits 0) (end_is most bs (IsBytes-tail x bs fits)))
    ]

fitting_is : (b : List ℕ) (r : Result ℕ VluFault) → EndIs 10 b r → Decodes b (fitting b r)
fitting_is b (Ok n) e =
    elim (cases_lt (value (take n b)) (2 ^ 64)) [
      | inl lt ↦ rw (lt-ltb (value (take n b)) (2 ^ 64) lt) (e.0, record { size = omega (arith, length-take n b, e.1); ended = e.2; sum = refl; fits = lt })
      | inr ge ↦ rw (le-ltb (value (take n b)) (2 ^ 64) ge) (inr (n, (e.0, e.1, e.2), ge))
    ]
fitting_is b (Err Short) e = e
fitting_is b (Err Large) e = inl e

-- what is read stands there, and what isn't is cut off or large
pub decodes_number : (b : List ℕ) → IsBytes b → Decodes b (number_at b)
unfolding number_at
decodes_number b fits = fitting_is b (end_within 10 b) (end_is 10 b fits)
