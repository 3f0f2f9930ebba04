-- The two words of a sealed part, byte by byte.
use Rattle.std.proofs.Common.{◌≡◌, ℕ, zero, suc, ◌+◌, ◌*◌, ◌^◌, ◌<◌, List, [], ◌∷◌, ◌++◌, length, get_or, refl, ◌∙◌, arith, inl, inr}
use Rattle.std.specs.Prelude.{replicate}
use Rattle.std.proofs.lemmas.List.{get_or-take, get_or-drop, get_or_past}
use Rattle.std.proofs.lemmas.Bool.{cases_lt}
use Rattle.packet_scramble.specs.Datagram.{AreBytes, padded, first_word, second_word}

zeros : (m i : ℕ) → ◌≡◌ {A = ℕ} (get_or (replicate m 0) i 0) 0
zeros zero i = refl
zeros (suc m) zero = refl
zeros (suc m) (suc i) = zeros m i

-- zeros at the end change no byte, since there is none past the end
with_zeros : (part : List ℕ) (m i : ℕ) → get_or (part ++ replicate m 0) i 0 ≡ get_or part i 0
with_zeros [] m i = zeros m i
with_zeros (byte ∷ rest) m zero = refl
with_zeros (byte ∷ rest) m (suc i) = with_zeros rest m i

-- a byte of a padded part is that of the part
pub in_padded : (part : List ℕ) (i : ℕ) → i < 8 → get_or (padded part) i 0 ≡ get_or part i 0
in_padded part i h = get_or-take 8 (part ++ replicate 8 0) i 0 h ∙ with_zeros part 8 i

-- four bytes and the number that they spell
spelled : (a b c d e f g h : ℕ) → a ≡ e → b ≡ f → c ≡ g → d ≡ h → a * 16777216 + b * 65536 + c * 256 + d ≡ e * 16777216 + f * 65536 + g * 256 + h
spelled a b c d e f g h p q r s = omega arith

pub first_word_bytes : (part : List ℕ) → first_word part ≡ get_or part 0 0 * 16777216 + get_or part 1 0 * 65536 + get_or part 2 0 * 256 + get_or part 3 0
first_word_bytes part =
    spelled _ _ _ _ _ _ _ _
    (get_or-take 4 (padded part) 0 0 (omega arith) ∙ in_padded part 0 (omega arith))
    (get_or-take 4 (padded part) 1 0 (omega arith) ∙ in_padded part 1 (omega arith))
    (get_or-take 4 (padded part) 2 0 (omega arith) ∙ in_padded part 2 (omega arith))
    (get_or-take 4 (padded part) 3 0 (omega arith) ∙ in_padded part 3 (omega arith))

pub second_word_bytes : (part : List ℕ) → second_word part ≡ get_or part 4 0 * 16777216 + get_or part 5 0 * 65536 + get_or part 6 0 * 256 + get_or part 7 0
second_word_bytes part =
    spelled _ _ _ _ _ _ _ _
    (get_or-drop 4 (padded part) 0 0 ∙ in_padded part 4 (omega arith))
    (get_or-drop 4 (padded part) 1 0 ∙ in_padded part 5 (omega arith))
    (get_or-drop 4 (padded part) 2 0 ∙ in_padded part 6 (omega arith))
    (get_or-drop 4 (padded part) 3 0 ∙ in_padded part 7 (omega arith))

-- each byte of bytes is below 256, and past their end stands 0
pub byte_below : (bytes : List ℕ) (i : ℕ) → AreBytes bytes → get_or bytes i 0 < 256
byte_below bytes i all =
    elim (cases_lt i (length bytes)) [
      | inl within ↦ all i 0 within
      | inr past ↦ omega (arith, get_or_past bytes i 0 past)
    ]

number_below : (a b c d : ℕ) → a < 256 → b < 256 → c < 256 → d < 256 → a * 16777216 + b * 65536 + c * 256 + d < 2 ^ 32
number_below a b c d p q r s = omega arith

pub first_word_below : (part : List ℕ) → AreBytes part → first_word part < 2 ^ 32
first_word_below part all =
    let below : (i : ℕ) → get_or part i 0 < 256 = λ i. byte_below part i all in
    let fits : get_or part 0 0 * 16777216 + get_or part 1 0 * 65536 + get_or part 2 0 * 256 + get_or part 3 0 < 2 ^ 32 = number_below _ _ _ _ (below 0) (below 1) (below 2) (below 3) in
    omega (arith, first_word_bytes part, fits)

pub second_word_below : (part : List ℕ) → AreBytes part → second_word part < 2 ^ 32
second_word_below part all =
    let below : (i : ℕ) → get_or part i 0 < 256 = λ i. byte_below part i all in
    let fits : get_or part 4 0 * 16777216 + get_or part 5 0 * 65536 + get_or part 6 0 * 256 + get_or part 7 0 < 2 ^ 32 = number_below _ _ _ _ (below 4) (below 5) (below 6) (below 7) in
    omega (arith, second_word_bytes part, fits)
