-- Bits that are alike, from one of them on to the end of its byte.
use Rattle.std.proofs.Common.{◌≡◌, ℕ, ◌+◌, ◌-◌, ◌/◌, ◌%◌, ◌^◌, ◌<◌, true, false, eqb, min, List, get_or, sym, ap, ◌∙◌, inl, inr, arith}
use Rattle.std.proofs.lemmas.Bool.{cases_eq}
use Rattle.std.proofs.lemmas.Nat.{shr-shr, shr_le}
use Rattle.std.proofs.lemmas.Nat.Bits.{bit_at-zero, bit_at_ones, bit_at-trailing_zeros, bit_at-trailing_ones}
use Rattle.std.specs.Int.{bit_at, trailing_zeros, trailing_ones, w8}
use Rattle.rtmfp_data_chunks.specs.Fields.{flag}
use Rattle.rtmfp_data_chunks.specs.Acked.{is_set}

-- ---- in a byte

zeros_below : (n j : ℕ) → n < 256 → j < trailing_zeros w8 n → bit_at n j ≡ 0
zeros_below n j fits lt =
    elim (cases_eq n 0) [
      | inl none ↦ ap (λ (m : ℕ). bit_at m j) none ∙ bit_at-zero j
      | inr some ↦ (bit_at-trailing_zeros w8 n (omega (arith, some)) fits).2 j lt
    ]

zeros_end : (n : ℕ) → n < 256 → trailing_zeros w8 n ≡ 0 → bit_at n 0 ≡ 1
unfolding lib.Count.count_trailing_zeros
zeros_end n fits e =
    elim (cases_eq n 0) [
      | inl none ↦ let eight : trailing_zeros w8 n ≡ 8 = ap (trailing_zeros w8) none in absurd (omega (arith, e, eight))
      | inr some ↦ ap (bit_at n) (sym e) ∙ (bit_at-trailing_zeros w8 n (omega (arith, some)) fits).1
    ]

ones_below : (n j : ℕ) → n < 256 → j < 8 → j < trailing_ones w8 n → bit_at n j ≡ 1
ones_below n j fits within lt =
    elim (cases_eq n 255) [
      | inl all ↦ ap (λ (m : ℕ). bit_at m j) all ∙ bit_at_ones 8 j within
      | inr not_all ↦ (bit_at-trailing_ones w8 n (omega (arith, not_all, fits))).2 j lt
    ]

ones_end : (n : ℕ) → n < 256 → trailing_ones w8 n ≡ 0 → bit_at n 0 ≡ 0
unfolding lib.Count.count_trailing_zeros
ones_end n fits e =
    elim (cases_eq n 255) [
      | inl all ↦ let eight : trailing_ones w8 n ≡ 8 = ap (trailing_ones w8) all in absurd (omega (arith, e, eight))
      | inr not_all ↦ ap (bit_at n) (sym e) ∙ (bit_at-trailing_ones w8 n (omega (arith, not_all, fits))).1
    ]

-- ---- in the bits of an ack

-- bit j behind the one at an index, in its byte
bit_is : (upto at j : ℕ) (bits : List ℕ) → at % 8 + j < 8 → is_set upto bits (upto + 2 + at + j) ≡ eqb (bit_at (get_or bits (at / 8) 0 / 2 ^ (at % 8)) j) 1
bit_is upto at j bits within =
    let begins : (upto + 2 + at + j - (upto + 2)) / 8 ≡ at / 8 = omega (arith, within) in
    let bit : (upto + 2 + at + j - (upto + 2)) % 8 ≡ at % 8 + j = omega (arith, within) in
    ap (λ (i : ℕ). flag (get_or bits i 0) ((upto + 2 + at + j - (upto + 2)) % 8)) begins
    ∙ (ap (λ (i : ℕ). flag (get_or bits (at / 8) 0) i) bit ∙ ap (λ (n : ℕ). eqb (n % 2) 1) (sym (shr-shr (get_or bits (at / 8) 0) (at % 8) j)))

pub unset_behind : (upto at j : ℕ) (bits : List ℕ) → get_or bits (at / 8) 0 < 256 → j < min (trailing_zeros w8 (get_or bits (at / 8) 0 / 2 ^ (at % 8))) (8 - at % 8)
    → is_set upto bits (upto + 2 + at + j) ≡ false
unset_behind upto at j bits fits lt =
    let rest = get_or bits (at / 8) 0 / 2 ^ (at % 8) in
    let small : rest < 256 = omega (arith, fits, shr_le (get_or bits (at / 8) 0) (at % 8)) in
    bit_is upto at j bits (omega (arith, lt)) ∙ ap (λ (n : ℕ). eqb n 1) (zeros_below rest j small (omega (arith, lt)))

pub unset_ends : (upto at : ℕ) (bits : List ℕ) → get_or bits (at / 8) 0 < 256 → min (trailing_zeros w8 (get_or bits (at / 8) 0 / 2 ^ (at % 8))) (8 - at % 8) ≡ 0
    → is_set upto bits (upto + 2 + at) ≡ true
unset_ends upto at bits fits e =
    let rest = get_or bits (at / 8) 0 / 2 ^ (at % 8) in
    let small : rest < 256 = omega (arith, fits, shr_le (get_or bits (at / 8) 0) (at % 8)) in
    let here : upto + 2 + at ≡ upto + 2 + at + 0 = omega arith in
    ap (is_set upto bits) here ∙ (bit_is upto at 0 bits (omega arith) ∙ ap (λ (n : ℕ). eqb n 1) (zeros_end rest small (omega (arith, e))))

pub set_behind : (upto at j : ℕ) (bits : List ℕ) → get_or bits (at / 8) 0 < 256 → j < min (trailing_ones w8 (get_or bits (at / 8) 0 / 2 ^ (at % 8))) (8 - at % 8)
    → is_set upto bits (upto + 2 + at + j) ≡ true
set_behind upto at j bits fits lt =
    let rest = get_or bits (at / 8) 0 / 2 ^ (at % 8) in
    let small : rest < 256 = omega (arith, fits, shr_le (get_or bits (at / 8) 0) (at % 8)) in
    bit_is upto at j bits (omega (arith, lt)) ∙ ap (λ (n : ℕ). eqb n 1) (ones_below rest j small (omega (arith, lt)) (omega (arith, lt)))

pub set_ends : (upto at : ℕ) (bits : List ℕ) → get_or bits (at / 8) 0 < 256 → min (trailing_ones w8 (get_or bits (at / 8) 0 / 2 ^ (at % 8))) (8 - at % 8) ≡ 0
    → is_set upto bits (upto + 2 + at) ≡ false
set_ends upto at bits fits e =
    let rest = get_or bits (at / 8) 0 / 2 ^ (at % 8) in
    let small : rest < 256 = omega (arith, fits, shr_le (get_or bits (at / 8) 0) (at % 8)) in
    let here : upto + 2 + at ≡ upto + 2 + at + 0 = omega arith in
    ap (is_set upto bits) here ∙ (bit_is upto at 0 bits (omega arith) ∙ ap (λ (n : ℕ). eqb n 1) (ones_end rest small (omega (arith, e))))
