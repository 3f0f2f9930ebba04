-- Bytes in hexadecimal digits.
use Rattle.std.proofs.Common.{◌≡◌, ℕ, zero, suc, ◌+◌, ◌-◌, ◌*◌, ◌/◌, ◌%◌, ◌<◌, ◌≤◌, ◌==◌, ◌&&◌, Bool, true, false, List, [], ◌∷◌, length, Some, None, Ok, Result, refl, sym, ap, ◌∙◌, subst, arith, rules, inl, inr}
use Rattle.std.specs.Prelude.{IsSome, nat_lt, nat_le, slice_index, codes, if◌then◌else◌}
use Rattle.std.specs.List.{list_all}
use Rattle.std.proofs.lemmas.Bool.{and_parts, and_from, eq-eqb, eqb-true, cases_Bool, cases_lt, lt-ltb, le-leb}
use Rattle.std.proofs.lemmas.Bool.Decides.{nat_tests}
use Rattle.hex.specs.Hex.{IsBytes, decode_pairs, encode_lower, encode_with, lower_digits, hex_digit_value, pair_value, value_at, digit_or_error}
use Rattle.hex.specs.declared.error.FromHexError.{FromHexError}
use Rattle.hex.proofs.HexLemmas.{decode_pairs-encode_with, IsDigits-lower_digits, length-encode_with}
use Rattle.hex.proofs.Pairs.{cons_byte, decode_pairs-ok_pair}
use Rattle.rtmfp_text.specs.Words.{bytes_text}
use Rattle.rtmfp_script.specs.Grammar.{IsBytesUpTo, AreBytes}
use Rattle.rtmfp_script.specs.Fields.{is_lower_digit, digits_of, bytes_of, hexadecimal_of, is_hyphen, value_of}
use Rattle.rtmfp_script.proofs.Splits.{some_some}

-- ---- one digit

-- the digit of a number below 16
abbrev digit_of : ℕ → ℕ
digit_of v = if nat_lt v 10 then 48 + v else 87 + v

abbrev all_shown : ℕ → Bool
all_shown zero = true
all_shown (suc n) = slice_index lower_digits n == digit_of n && all_shown n

shown_at : (n k : ℕ) → all_shown n ≡ true → k < n → slice_index lower_digits k ≡ digit_of k
shown_at zero k h lt = absurd (omega arith)
shown_at (suc n) k h lt =
    let parts = and_parts (slice_index lower_digits n == digit_of n) (all_shown n) h in
    elim (cases_lt k n) [
      | inl below ↦ shown_at n k parts.1 below
      | inr top ↦
          let e : n ≡ k = omega arith in
          subst (λ (m : ℕ). slice_index lower_digits m ≡ digit_of m) e (eqb-true _ _ parts.0)
    ]

shown : (k : ℕ) → k < 16 → slice_index lower_digits k ≡ digit_of k
shown k lt = shown_at 16 k refl lt

record IsDigitOf (c v : ℕ) : Type 0 where
  small : v < 16
  value : hex_digit_value c ≡ Some v
  is_shown : slice_index lower_digits v ≡ c

low_digit : (c : ℕ) → 48 ≤ c → c ≤ 57 → IsDigitOf c (c - 48)
low_digit c low high = record {
  small = omega arith;
  value = grind (arith, nat_tests);
  is_shown = shown (c - 48) (omega arith) ∙ grind (arith, nat_tests);
}

high_digit : (c : ℕ) → 97 ≤ c → c ≤ 102 → IsDigitOf c (c - 87)
high_digit c low high = record {
  small = omega arith;
  value = grind (arith, nat_tests);
  is_shown = shown (c - 87) (omega arith) ∙ grind (arith, nat_tests);
}

some_digit : (c : ℕ) → is_lower_digit c ≡ true → (v : ℕ) × IsDigitOf c v
some_digit c h = elim (cases_lt c 58) [
  | inl small ↦ let low : 48 ≤ c = grind (arith, nat_tests) in (c - 48, low_digit c low (omega arith))
  | inr large ↦
      let low : 97 ≤ c = grind (arith, nat_tests) in
      let high : c ≤ 102 = grind (arith, nat_tests) in
      (c - 87, high_digit c low high)
]

-- ---- pairs of digits

pair_is : (a b x y i : ℕ) → IsDigitOf a x → IsDigitOf b y → pair_value a b i ≡ Ok (x * 16 + y)
pair_is a b x y i p q =
    let ha : value_at a i ≡ Ok x = ap (digit_or_error a i) p.value in
    let hb : value_at b (i + 1) ≡ Ok y = ap (digit_or_error b (i + 1)) q.value in
    rw (ha, hb) refl

-- the bytes that digits spell
record Decoded (i : ℕ) (text bytes : List ℕ) : Type 0 where
  value : decode_pairs i text ≡ Ok bytes
  spelled : text ≡ encode_lower bytes
  fits : list_all (λ b. nat_lt b 256) bytes ≡ true

decoded_more : (i a b x y : ℕ) (text bytes : List ℕ) → IsDigitOf a x → IsDigitOf b y → Decoded (i + 2) text bytes → Decoded i (a ∷ b ∷ text) ((x * 16 + y) ∷ bytes)
unfolding encode_with
decoded_more i a b x y text bytes p q more =
    let vx = p.small in
    let vy = q.small in
    let top : (x * 16 + y) / 16 ≡ x = omega arith in
    let low : (x * 16 + y) % 16 ≡ y = omega arith in
    let small : nat_lt (x * 16 + y) 256 ≡ true = lt-ltb _ _ (omega arith) in
    record {
      value = decode_pairs-ok_pair i a b (x * 16 + y) text (pair_is a b x y i p q) ∙ ap (cons_byte (x * 16 + y)) more.value;
      spelled =
          ap (λ (c : ℕ). c ∷ b ∷ text) (sym (ap (slice_index lower_digits) top ∙ p.is_shown))
          ∙ ap (λ (c : ℕ). slice_index lower_digits ((x * 16 + y) / 16) ∷ c ∷ text) (sym (ap (slice_index lower_digits) low ∙ q.is_shown))
          ∙ ap (λ cs. slice_index lower_digits ((x * 16 + y) / 16) ∷ slice_index lower_digits ((x * 16 + y) % 16) ∷ cs) more.spelled;
      fits = and_from _ _ small more.fits;
    }

decoded : (i : ℕ) (text : List ℕ) → length text % 2 ≡ 0 → list_all is_lower_digit text ≡ true → (bytes : List ℕ) × Decoded i text bytes
unfolding decode_pairs encode_with
decoded i [] even all = ([], record { value = refl; spelled = refl; fits = refl })
decoded i (a ∷ []) even all = absurd (omega arith)
decoded i (a ∷ b ∷ text) even all =
    let first = and_parts (is_lower_digit a) (is_lower_digit b && list_all is_lower_digit text) all in
    let second = and_parts (is_lower_digit b) (list_all is_lower_digit text) first.1 in
    let more = decoded (i + 2) text (omega arith) second.1 in
    let x = some_digit a first.0 in
    let y = some_digit b second.0 in
    ((x.0 * 16 + y.0) ∷ more.0, decoded_more i a b x.0 y.0 text more.0 x.1 y.1 more.1)

-- ---- digits that were read

even_test : (word : List ℕ) → (length word % 2 == 0) ≡ true → length word % 2 ≡ 0
even_test word h = eqb-true (length word % 2) 0 h

ok_ok : (a b : List ℕ) (r : Result (List ℕ) FromHexError) → r ≡ Ok a → value_of r ≡ Some b → a ≡ b
ok_ok a b r e h = some_some a b (sym (ap value_of e) ∙ h)

pub digits_of-some : (word bytes : List ℕ) → digits_of word ≡ Some bytes → (word ≡ encode_lower bytes) × (list_all (λ b. nat_lt b 256) bytes ≡ true)
unfolding digits_of
digits_of-some word bytes h = elim (cases_Bool (length word % 2 == 0 && list_all is_lower_digit word)) [
  | inl good ↦
      let parts = and_parts (length word % 2 == 0) (list_all is_lower_digit word) good in
      let found = decoded 0 word (even_test word parts.0) parts.1 in
      let same : found.0 ≡ bytes = ok_ok found.0 bytes (decode_pairs 0 word) found.1.value (rw good at h) in
      (found.1.spelled ∙ ap (λ bs. encode_lower bs) same, ap (list_all (λ b. nat_lt b 256)) (sym same) ∙ found.1.fits)
  | inr bad ↦ absurd (let none : None ≡ Some bytes = rw bad at h in cc)
]

-- ---- the digits of bytes are read

lower_glyph : (v : ℕ) → v < 16 → is_lower_digit (slice_index lower_digits v) ≡ true
lower_glyph v lt = ap is_lower_digit (shown v lt) ∙ elim (cases_lt v 10) [
  | inl small ↦ grind (arith, nat_tests)
  | inr large ↦ grind (arith, nat_tests)
]

pub lower_encoded : (bytes : List ℕ) → list_all (λ b. nat_lt b 256) bytes ≡ true → list_all is_lower_digit (encode_lower bytes) ≡ true
unfolding encode_with
lower_encoded [] h = refl
lower_encoded (b ∷ bytes) h =
    let parts = and_parts (nat_lt b 256) (list_all (λ b. nat_lt b 256) bytes) h in
    let small : b < 256 = grind (arith, nat_tests, parts.0) in
    and_from _ _ (lower_glyph (b / 16) (omega arith)) (and_from _ _ (lower_glyph (b % 16) (omega arith)) (lower_encoded bytes parts.1))

each_byte : (bytes : List ℕ) → list_all (λ b. nat_lt b 256) bytes ≡ true → IsBytes bytes
each_byte [] h i = omega arith
each_byte (b ∷ bytes) h zero =
    let parts = and_parts (nat_lt b 256) (list_all (λ b. nat_lt b 256) bytes) h in
    grind (arith, nat_tests, parts.0)
each_byte (b ∷ bytes) h (suc i) =
    let parts = and_parts (nat_lt b 256) (list_all (λ b. nat_lt b 256) bytes) h in
    each_byte bytes parts.1 i

pub length-encoded : (bytes : List ℕ) → length (encode_lower bytes) ≡ 2 * length bytes
length-encoded bytes = length-encode_with lower_digits bytes

pub digits_of-encoded : (bytes : List ℕ) → list_all (λ b. nat_lt b 256) bytes ≡ true → digits_of (encode_lower bytes) ≡ Some bytes
unfolding digits_of
digits_of-encoded bytes h =
    let even : (length (encode_lower bytes) % 2 == 0) ≡ true = eq-eqb _ _ (omega (arith, length-encoded bytes)) in
    let good : (length (encode_lower bytes) % 2 == 0 && list_all is_lower_digit (encode_lower bytes)) ≡ true = and_from _ _ even (lower_encoded bytes h) in
    let value : decode_pairs 0 (encode_lower bytes) ≡ Ok bytes = decode_pairs-encode_with lower_digits IsDigits-lower_digits 0 bytes (each_byte bytes h) in
    rw (good, value) refl

-- ---- with a hyphen for none

pub hyphen_is : (word : List ℕ) → is_hyphen word ≡ true → word ≡ codes "-"
hyphen_is [] h = absurd (cc)
hyphen_is (b ∷ []) h = ap (λ (x : ℕ). x ∷ []) (eqb-true b 45 h)
hyphen_is (b ∷ c ∷ word) h = absurd (cc)

some_text : (bytes : List ℕ) → 1 ≤ length (encode_lower bytes) → bytes_text bytes ≡ encode_lower bytes
some_text [] h = absurd (omega (arith, length-encoded []))
some_text (b ∷ bytes) h = refl

pub bytes_of-some : (most : ℕ) (word bytes : List ℕ) → bytes_of most word ≡ Some bytes → (word ≡ bytes_text bytes) × IsBytesUpTo most bytes
unfolding bytes_of
bytes_of-some most word bytes h = elim (cases_Bool (is_hyphen word)) [
  | inl is ↦
      let none : [] ≡ bytes = some_some [] bytes (rw is at h) in
      (hyphen_is word is ∙ ap bytes_text none, subst (IsBytesUpTo most) none (record { fits = omega arith; each = refl }))
  | inr other ↦ elim (cases_Bool (nat_le 1 (length word) && nat_le (length word) (2 * most))) [
    | inl good ↦
        let parts = and_parts (nat_le 1 (length word)) (nat_le (length word) (2 * most)) good in
        let some : 1 ≤ length word = grind (arith, nat_tests, parts.0) in
        let few : length word ≤ 2 * most = grind (arith, nat_tests, parts.1) in
        let found = digits_of-some word bytes (rw (other, good) at h) in
        let size : length word ≡ 2 * length bytes = ap length found.0 ∙ length-encoded bytes in
        (found.0 ∙ sym (some_text bytes (omega (arith, some, length-encoded bytes))), record { fits = omega arith; each = found.1 })
    | inr bad ↦ absurd (let none : None ≡ Some bytes = rw (other, bad) at h in cc)
  ]
]

two_digits : (b : ℕ) (bytes : List ℕ) → is_hyphen (encode_lower (b ∷ bytes)) ≡ false
unfolding encode_with
two_digits b bytes = refl

pub bytes_of-text : (most : ℕ) (bytes : List ℕ) → IsBytesUpTo most bytes → bytes_of most (bytes_text bytes) ≡ Some bytes
unfolding bytes_of
bytes_of-text most [] is = refl
bytes_of-text most (b ∷ bytes) is =
    let size = length-encoded (b ∷ bytes) in
    let fits = is.fits in
    let plain : is_hyphen (encode_lower (b ∷ bytes)) ≡ false = two_digits b bytes in
    let some : nat_le 1 (length (encode_lower (b ∷ bytes))) ≡ true = le-leb _ _ (omega arith) in
    let few : nat_le (length (encode_lower (b ∷ bytes))) (2 * most) ≡ true = le-leb _ _ (omega arith) in
    rw (plain, some, few) (digits_of-encoded (b ∷ bytes) is.each)

-- ---- however many

pub hexadecimal_of-some : (word bytes : List ℕ) → hexadecimal_of word ≡ Some bytes → (word ≡ bytes_text bytes) × AreBytes bytes
unfolding hexadecimal_of
hexadecimal_of-some word bytes h = elim (cases_Bool (is_hyphen word)) [
  | inl is ↦
      let none : [] ≡ bytes = some_some [] bytes (rw is at h) in
      (hyphen_is word is ∙ ap bytes_text none, subst AreBytes none refl)
  | inr other ↦ elim (cases_Bool (nat_le 1 (length word))) [
    | inl good ↦
        let some : 1 ≤ length word = grind (arith, nat_tests, good) in
        let found = digits_of-some word bytes (rw (other, good) at h) in
        (found.0 ∙ sym (some_text bytes (subst (λ (xs : List ℕ). 1 ≤ length xs) found.0 some)), found.1)
    | inr bad ↦ absurd (let none : None ≡ Some bytes = rw (other, bad) at h in cc)
  ]
]

pub hexadecimal_of-text : (bytes : List ℕ) → AreBytes bytes → hexadecimal_of (bytes_text bytes) ≡ Some bytes
unfolding hexadecimal_of
hexadecimal_of-text [] is = refl
hexadecimal_of-text (b ∷ bytes) is =
    let plain : is_hyphen (encode_lower (b ∷ bytes)) ≡ false = two_digits b bytes in
    let some : nat_le 1 (length (encode_lower (b ∷ bytes))) ≡ true = le-leb _ _ (omega (arith, length-encoded (b ∷ bytes))) in
    rw (plain, some) (digits_of-encoded (b ∷ bytes) is)

-- digits that pass have bytes
pub digits_of-good : (word : List ℕ) → length word % 2 ≡ 0 → list_all is_lower_digit word ≡ true → IsSome (digits_of word)
unfolding digits_of
digits_of-good word even all =
    let test : (length word % 2 == 0) ≡ true = eq-eqb _ _ even in
    let found = decoded 0 word even all in
    let value : decode_pairs 0 word ≡ Ok found.0 = found.1.value in
    rw (test, all, value) (search rules)
