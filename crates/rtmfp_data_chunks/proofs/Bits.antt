-- The first byte of an ack's bits that speaks of too large a number.
use Rattle.std.proofs.Common.{◌≡◌, ℕ, zero, suc, ◌+◌, ◌-◌, ◌*◌, ◌/◌, ◌%◌, ◌^◌, ◌<◌, ◌≤◌, min, List, [], ◌∷◌, length, drop, get_or, Option, Some, None, refl, sym, ap, subst, ◌∙◌, inl, inr, arith}
use Rattle.std.proofs.lemmas.Bool.{cases_lt, cases_eq, eq-eqb, ne_eqb}
use Rattle.std.proofs.lemmas.Nat.{shr-shr, shr_le, le-div, pow_pos}
use Rattle.std.proofs.lemmas.List.{drop_more, drop_all}
use Rattle.std.proofs.lemmas.Nat.Bits.{bit_at_above, bit_at-zero, bit_at-trailing_zeros}
use Rattle.std.specs.Int.{bit_at, trailing_zeros, w8}
use Rattle.std.specs.Option.{option_map}
use Rattle.rtmfp_vlu.proofs.Bytes.{IsBytes, IsBytes-tail}
use Rattle.rtmfp_data_chunks.specs.Acks.{BitsFit, BitsPass}
use Rattle.rtmfp_data_chunks.specs.Reader.{passing_byte}

-- ---- one byte

none_from : (b r j : ℕ) → b / 2 ^ r ≡ 0 → r ≤ j → bit_at b j ≡ 1 → ⊥
none_from b r j e le set =
    let low : b < 2 ^ r = elim (cases_lt b (2 ^ r)) [ inl lt ↦ lt | inr ge ↦ absurd (omega (arith, e, le-div 1 b (2 ^ r) (pow_pos r) (omega (arith, ge)))) ] in
    omega (arith, set, bit_at_above b r j low le)

abbrev HasFrom : ℕ → ℕ → Type 0
HasFrom b r = (j : ℕ) × (j < 8) × (bit_at b j ≡ 1) × (r ≤ j)

some_from : (b r : ℕ) → b < 256 → (b / 2 ^ r ≡ 0 → ⊥) → HasFrom b r
some_from b r fits ne =
    let m = b / 2 ^ r in
    let some : 0 < m = omega (arith, ne) in
    let below : m < 2 ^ 8 = omega (arith, fits, shr_le b r) in
    let lowest = bit_at-trailing_zeros w8 m some below in
    let j = r + trailing_zeros w8 m in
    let set : bit_at b j ≡ 1 = ap (λ (n : ℕ). n % 2) (sym (shr-shr b r (trailing_zeros w8 m))) ∙ lowest.1 in
    let within : j < 8 = elim (cases_lt j 8) [ inl lt ↦ lt | inr ge ↦ absurd (omega (arith, set, bit_at_above b 8 j fits ge)) ] in
    (j, within, set, omega arith)

-- ---- all bytes, where bit 0 of the first one speaks of number n

abbrev PassesFrom : ℕ → List ℕ → ℕ → Type 0
PassesFrom n bits i = (j : ℕ) × (j < 8) × (bit_at (get_or bits i 0) j ≡ 1) × (2 ^ 64 ≤ n + (8 * i + j))

abbrev ByteIs : ℕ → List ℕ → Option ℕ → Type 0
ByteIs n bits None = (i : ℕ) → PassesFrom n bits i → ⊥
ByteIs n bits (Some at) = PassesFrom n bits at × ((i : ℕ) → i < at → PassesFrom n bits i → ⊥)

nothing_passes : (n i : ℕ) → PassesFrom n [] i → ⊥
nothing_passes n i p = omega (arith, p.2, bit_at-zero p.0)

head_passes : (n b : ℕ) (bs : List ℕ) → HasFrom b (min (2 ^ 64 - n) 8) → PassesFrom n (b ∷ bs) 0
head_passes n b bs h = (h.0, h.1, h.2, omega (arith, h.1, h.3))

head_fits : (n b : ℕ) (bs : List ℕ) → b / 2 ^ min (2 ^ 64 - n) 8 ≡ 0 → PassesFrom n (b ∷ bs) 0 → ⊥
head_fits n b bs e p = none_from b (min (2 ^ 64 - n) 8) p.0 e (omega (arith, p.1, p.3)) p.2

tail_up : (n b i : ℕ) (bs : List ℕ) → PassesFrom (n + 8) bs i → PassesFrom n (b ∷ bs) (suc i)
tail_up n b i bs p = (p.0, p.1, p.2, omega (arith, p.3))

tail_down : (n b i : ℕ) (bs : List ℕ) → PassesFrom n (b ∷ bs) (suc i) → PassesFrom (n + 8) bs i
tail_down n b i bs p = (p.0, p.1, p.2, omega (arith, p.3))

earlier : (n b : ℕ) (bs : List ℕ) (at : ℕ) → (PassesFrom n (b ∷ bs) 0 → ⊥) → ((i : ℕ) → i < at → PassesFrom (n + 8) bs i → ⊥) → (i : ℕ) → i < suc at → PassesFrom n (b ∷ bs) i → ⊥
earlier n b bs at first h zero lt p = first p
earlier n b bs at first h (suc i) lt p = h i (omega (arith, lt)) (tail_down n b i bs p)

nowhere : (n b : ℕ) (bs : List ℕ) → (PassesFrom n (b ∷ bs) 0 → ⊥) → ((i : ℕ) → PassesFrom (n + 8) bs i → ⊥) → (i : ℕ) → PassesFrom n (b ∷ bs) i → ⊥
nowhere n b bs first h zero p = first p
nowhere n b bs first h (suc i) p = h i (tail_down n b i bs p)

shifted : (n b : ℕ) (bs : List ℕ) (r : Option ℕ) → (PassesFrom n (b ∷ bs) 0 → ⊥) → ByteIs (n + 8) bs r → ByteIs n (b ∷ bs) (option_map suc r)
shifted n b bs None first h = nowhere n b bs first h
shifted n b bs (Some at) first h = (tail_up n b at bs h.0, earlier n b bs at first h.1)

byte_is : (fitting n : ℕ) (bits : List ℕ) → fitting ≡ 2 ^ 64 - n → IsBytes bits → ByteIs n bits (passing_byte fitting bits)
unfolding passing_byte
byte_is fitting n [] e fits = nothing_passes n
byte_is fitting n (b ∷ bs) e fits =
    let later : fitting - 8 ≡ 2 ^ 64 - (n + 8) = omega (arith, e) in
    let room : min fitting 8 ≡ min (2 ^ 64 - n) 8 = ap (λ (m : ℕ). min m 8) e in
    elim (cases_eq (b / 2 ^ min fitting 8) 0) [
      | inl none ↦ rw (eq-eqb (b / 2 ^ min fitting 8) 0 none)
          (shifted n b bs (passing_byte (fitting - 8) bs) (head_fits n b bs (subst (λ (m : ℕ). b / 2 ^ m ≡ 0) room none)) (byte_is (fitting - 8) (n + 8) bs later (IsBytes-tail b bs fits)))
      | inr some ↦ rw (ne_eqb (b / 2 ^ min fitting 8) 0 some)
          (head_passes n b bs (subst (λ (m : ℕ). HasFrom b m) room (some_from b (min fitting 8) (fits 0) some)), λ i lt p. absurd (omega (arith, lt)))
    ]

pub bits_fit : (upto : ℕ) (bits : List ℕ) → IsBytes bits → passing_byte (2 ^ 64 - (upto + 2)) bits ≡ None → BitsFit upto bits
bits_fit upto bits fits e i p =
    let h : ByteIs (upto + 2) bits None = subst (ByteIs (upto + 2) bits) e (byte_is (2 ^ 64 - (upto + 2)) (upto + 2) bits refl fits) in
    h i p

pub bits_pass : (upto : ℕ) (bits : List ℕ) (at : ℕ) → IsBytes bits → passing_byte (2 ^ 64 - (upto + 2)) bits ≡ Some at → BitsPass upto bits at
bits_pass upto bits at fits e =
    let h : ByteIs (upto + 2) bits (Some at) = subst (ByteIs (upto + 2) bits) e (byte_is (2 ^ 64 - (upto + 2)) (upto + 2) bits refl fits) in
    record { passes = h.0; first = h.1 }

fit_again : (upto : ℕ) (bits : List ℕ) (r : Option ℕ) → ByteIs (upto + 2) bits r → BitsFit upto bits → r ≡ None
fit_again upto bits None h fit = refl
fit_again upto bits (Some at) h fit = absurd (fit at h.0)

pub bits_fit_again : (upto : ℕ) (bits : List ℕ) → IsBytes bits → BitsFit upto bits → passing_byte (2 ^ 64 - (upto + 2)) bits ≡ None
bits_fit_again upto bits fits = fit_again upto bits (passing_byte (2 ^ 64 - (upto + 2)) bits) (byte_is (2 ^ 64 - (upto + 2)) (upto + 2) bits refl fits)

pass_again : (upto : ℕ) (bits : List ℕ) (at : ℕ) (r : Option ℕ) → ByteIs (upto + 2) bits r → BitsPass upto bits at → r ≡ Some at
pass_again upto bits at None h pass = absurd (h at pass.passes)
pass_again upto bits at (Some found) h pass =
    elim (cases_lt found at) [
      | inl lt ↦ absurd (pass.first found lt h.0)
      | inr ge ↦ elim (cases_lt at found) [
        | inl lt ↦ absurd (h.1 at lt pass.passes)
        | inr le ↦ let same : found ≡ at = omega (arith, ge, le) in ap (λ (n : ℕ). Some n) same
      ]
    ]

pub bits_pass_again : (upto : ℕ) (bits : List ℕ) (at : ℕ) → IsBytes bits → BitsPass upto bits at → passing_byte (2 ^ 64 - (upto + 2)) bits ≡ Some at
bits_pass_again upto bits at fits = pass_again upto bits at (passing_byte (2 ^ 64 - (upto + 2)) bits) (byte_is (2 ^ 64 - (upto + 2)) (upto + 2) bits refl fits)

-- ---- the loop

-- where the numbers of all bits fit
pub all_fit : (fitting : ℕ) (bits : List ℕ) → IsBytes bits → length bits ≤ fitting / 8 → passing_byte fitting bits ≡ None
unfolding passing_byte
all_fit fitting [] fits le = refl
all_fit fitting (b ∷ bs) fits le =
    let room : min fitting 8 ≡ 8 = omega (arith, le) in
    let small : b < 256 = fits 0 in
    let none : b / 256 ≡ 0 = omega (arith, small) in
    let later = all_fit (fitting - 8) bs (IsBytes-tail b bs fits) (omega (arith, le)) in
    rw (room, none, later) refl

-- the bytes before byte i don't pass
abbrev pub PassedOver : ℕ → ℕ → ℕ → List ℕ → Type 0
PassedOver fitting room i bits = passing_byte fitting bits ≡ option_map (λ k. i + k) (passing_byte room (drop i bits))

byte_passes : (room b : ℕ) (bs : List ℕ) → (b / 2 ^ min room 8 ≡ 0 → ⊥) → passing_byte room (b ∷ bs) ≡ Some 0
unfolding passing_byte
byte_passes room b bs some = rw (ne_eqb (b / 2 ^ min room 8) 0 some) refl

byte_fits : (room b : ℕ) (bs : List ℕ) → b / 2 ^ min room 8 ≡ 0 → passing_byte room (b ∷ bs) ≡ option_map suc (passing_byte (room - 8) bs)
unfolding passing_byte
byte_fits room b bs none = rw (eq-eqb (b / 2 ^ min room 8) 0 none) refl

pub over_hit : (fitting room i : ℕ) (bits : List ℕ) → i < length bits → PassedOver fitting room i bits → (get_or bits i 0 / 2 ^ min room 8 ≡ 0 → ⊥) → passing_byte fitting bits ≡ Some i
over_hit fitting room i bits lt over some =
    let same : i + 0 ≡ i = omega arith in
    over ∙ rw (drop_more bits i 0 lt, byte_passes room (get_or bits i 0) (drop (i + 1) bits) some) (ap (λ (n : ℕ). Some n) same)

one_on : (i : ℕ) (r : Option ℕ) → option_map (λ k. i + k) (option_map suc r) ≡ option_map (λ k. (i + 1) + k) r
one_on i None = refl
one_on i (Some k) = let same : i + suc k ≡ (i + 1) + k = omega arith in ap (λ (n : ℕ). Some n) same

pub over_more : (fitting room i : ℕ) (bits : List ℕ) → i < length bits → PassedOver fitting room i bits → get_or bits i 0 / 2 ^ min room 8 ≡ 0 → PassedOver fitting (room - 8) (i + 1) bits
over_more fitting room i bits lt over none =
    over ∙ rw (drop_more bits i 0 lt, byte_fits room (get_or bits i 0) (drop (i + 1) bits) none) (one_on i (passing_byte (room - 8) (drop (i + 1) bits)))

nothing_left : (room : ℕ) → passing_byte room [] ≡ None
unfolding passing_byte
nothing_left room = refl

pub over_all : (fitting room i : ℕ) (bits : List ℕ) → length bits ≤ i → PassedOver fitting room i bits → passing_byte fitting bits ≡ None
over_all fitting room i bits le over = over ∙ rw (drop_all i bits le, nothing_left room) refl
