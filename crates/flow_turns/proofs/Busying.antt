-- A set of flow IDs: what goes in and out of it, and whether one is in it.
use Prim.Native.Nat.{zero, suc}
use Rattle.std.proofs.Common.{◌≡◌, ◌≢◌, ℕ, ◌+◌, ◌*◌, ◌/◌, ◌%◌, ◌^◌, ◌<◌, ◌==◌, ◌||◌, Bool, true, false, List, [], ◌∷◌, length, get_or, set, refl, ap, ◌∙◌, arith}
use Rattle.std.specs.Int.{w64, bit_at, trailing_zeros}
use Rattle.std.specs.List.{list_any}
use Rattle.std.proofs.lemmas.Bool.Decides.{nat_tests}
use Rattle.std.proofs.lemmas.Nat.Bits.{bit_at_set_same, bit_at_set_other, bit_at_clear_same, bit_at_clear_other, bit_at-trailing_zeros}
use Rattle.flow_turns.specs.Busy.{has_flow, HasAny, HasOne, is_used}
use Rattle.flow_turns.proofs.Turning.{bit_own, bits_other, with_bit, without_bit, quiet_word}

-- ---- one that is put in, or taken out

pub in_own : (words : List ℕ) (id : ℕ) → length words ≡ 4 → id < 256 → has_flow (set words (id / 64) (with_bit (get_or words (id / 64) 0) (id % 64))) id ≡ true
in_own words id len few = bit_own words id (with_bit (get_or words (id / 64) 0) (id % 64)) 1 (omega (arith, len, few)) (bit_at_set_same w64 (get_or words (id / 64) 0) (id % 64) (omega arith))

pub in_others : (words : List ℕ) (id other : ℕ) → length words ≡ 4 → id < 256 → other ≢ id →
    has_flow (set words (id / 64) (with_bit (get_or words (id / 64) 0) (id % 64))) other ≡ has_flow words other
in_others words id other len few differ = bits_other words id other (with_bit (get_or words (id / 64) 0) (id % 64)) (omega (arith, len, few)) differ
    (λ i within away. bit_at_set_other w64 (get_or words (id / 64) 0) (id % 64) (omega arith) i away)

pub out_own : (words : List ℕ) (id : ℕ) → length words ≡ 4 → id < 256 → has_flow (set words (id / 64) (without_bit (get_or words (id / 64) 0) (id % 64))) id ≡ false
out_own words id len few = bit_own words id (without_bit (get_or words (id / 64) 0) (id % 64)) 0 (omega (arith, len, few)) (bit_at_clear_same w64 (get_or words (id / 64) 0) (id % 64) (omega arith))

pub out_others : (words : List ℕ) (id other : ℕ) → length words ≡ 4 → id < 256 → other ≢ id →
    has_flow (set words (id / 64) (without_bit (get_or words (id / 64) 0) (id % 64))) other ≡ has_flow words other
out_others words id other len few differ = bits_other words id other (without_bit (get_or words (id / 64) 0) (id % 64)) (omega (arith, len, few)) differ
    (λ i within away. bit_at_clear_other w64 (get_or words (id / 64) 0) (id % 64) (omega arith) i within away)

-- ---- whether one is in it

-- a word that has a bit
record Used (words : List ℕ) : Type 0 where
  place : ℕ
  some : 0 < get_or words place 0

used_by : (word : ℕ) (later : List ℕ) (b : Bool) → is_used word ≡ b → (b || list_any is_used later) ≡ true → (list_any is_used later ≡ true → Used later) → Used (word ∷ later)
used_by word later true is e next = record { place = 0; some = grind (arith, nat_tests, is) }
used_by word later false is e next = let u : Used later = next e in record { place = suc u.place; some = u.some }

used_in : (words : List ℕ) → list_any is_used words ≡ true → Used words
used_in [] e = absurd cc
used_in (word ∷ later) e = used_by word later (is_used word) refl e (used_in later)

none_first : (a b : Bool) → (a || b) ≡ false → a ≡ false
none_first true b e = absurd cc
none_first false b e = refl

none_later : (a b : Bool) → (a || b) ≡ false → b ≡ false
none_later true b e = absurd cc
none_later false b e = e

unused_at : (words : List ℕ) → list_any is_used words ≡ false → (place : ℕ) → get_or words place 0 ≡ 0
unused_at [] e place = refl
unused_at (word ∷ later) e zero = let is : is_used word ≡ false = none_first _ (list_any is_used later) e in grind (arith, nat_tests, is)
unused_at (word ∷ later) e (suc place) = unused_at later (none_later (is_used word) _ e) place

-- its lowest bit
bit_of_word : (words : List ℕ) (place bit : ℕ) → bit < 64 → bit_at (get_or words place 0) bit ≡ 1 → has_flow words (place * 64 + bit) ≡ true
bit_of_word words place bit few set =
    let quotient : (place * 64 + bit) / 64 ≡ place = omega (arith, few) in
    let remainder : (place * 64 + bit) % 64 ≡ bit = omega (arith, few) in
    ap (λ (b : ℕ). b == 1) (ap (λ s. bit_at (get_or words s 0) ((place * 64 + bit) % 64)) quotient ∙ ap (λ i. bit_at (get_or words place 0) i) remainder ∙ set)

one_of : (words : List ℕ) → ((place : ℕ) → get_or words place 0 < 2 ^ 64) → Used words → HasOne words
one_of words fit u =
    let low = bit_at-trailing_zeros w64 (get_or words u.place 0) u.some (fit u.place) in
    let bit : ℕ = trailing_zeros w64 (get_or words u.place 0) in
    record { id = u.place * 64 + bit; there = bit_of_word words u.place bit low.0 low.1 }

pub has_any : (words : List ℕ) → ((place : ℕ) → get_or words place 0 < 2 ^ 64) → (b : Bool) → list_any is_used words ≡ b → HasAny words b
has_any words fit true e = one_of words fit (used_in words e)
has_any words fit false e = λ id. quiet_word words id (unused_at words e (id / 64))
