-- Scrambling is its own inverse, and a datagram has one session ID.
use Rattle.std.proofs.Common.{◌≡◌, ℕ, zero, suc, ◌^◌, ◌<◌, List, [], ◌∷◌, ◌++◌, get_or, ap, ◌∙◌, refl, sym, arith}
use Rattle.std.specs.Prelude.{bit_xor}
use Rattle.std.specs.Int.{w32, to_be_bytes, from_be_bytes}
use Rattle.std.specs.Int.Bits.{xor_assoc, xor_self, xor_zero_r}
use Rattle.std.proofs.lemmas.Nat.{xor_comm, xor_of_32, be_bytes_4, from_be_bytes-to_be_bytes_4}
use Rattle.packet_scramble.specs.Datagram.{AreBytes, first_word, second_word, scrambled, unscrambled, HasItsSessionId, IsDatagramOfItsSessionId}
use Rattle.packet_scramble.proofs.Words.{byte_below, first_word_below, second_word_below}

-- XOR with a number twice leaves the other
xor_twice : (a m : ℕ) → bit_xor (bit_xor a m) m ≡ a
xor_twice a m = xor_assoc a m m ∙ ap (bit_xor a) (xor_self m) ∙ xor_zero_r a

-- XOR with two numbers twice leaves the third
pub xor_both_twice : (a m n : ℕ) → bit_xor (bit_xor (bit_xor (bit_xor a m) n) m) n ≡ a
xor_both_twice a m n =
    ap (λ x. bit_xor (bit_xor x m) n) (xor_assoc a m n ∙ ap (bit_xor a) (xor_comm m n) ∙ sym (xor_assoc a n m))
    ∙ ap (λ x. bit_xor x n) (xor_twice (bit_xor a n) m) ∙ xor_twice a n

-- a scrambled session ID is one of 32 bits, and so is an unscrambled one
pub scrambled_below : (sid : ℕ) (part : List ℕ) → sid < 2 ^ 32 → AreBytes part → scrambled sid part < 2 ^ 32
scrambled_below sid part h all =
    xor_of_32 (bit_xor sid (first_word part)) (second_word part)
    (xor_of_32 sid (first_word part) h (first_word_below part all)) (second_word_below part all)

pub has_its_session_id : HasItsSessionId
has_its_session_id sid part h all =
    ap (λ n. unscrambled n part) (from_be_bytes-to_be_bytes_4 (scrambled sid part) (scrambled_below sid part h all))
    ∙ xor_both_twice sid (first_word part) (second_word part)

rest_are_bytes : (a b c d : ℕ) (rest : List ℕ) → AreBytes (a ∷ b ∷ c ∷ d ∷ rest) → AreBytes rest
rest_are_bytes a b c d rest all k z h = all (suc (suc (suc (suc k)))) z (omega arith)

number_of_four : (a b c d : ℕ) (rest : List ℕ) → AreBytes (a ∷ b ∷ c ∷ d ∷ rest) → from_be_bytes w32 (a ∷ b ∷ c ∷ d ∷ []) < 2 ^ 32
number_of_four a b c d rest all =
    let p : a < 256 = byte_below (a ∷ b ∷ c ∷ d ∷ rest) 0 all in
    let q : b < 256 = byte_below (a ∷ b ∷ c ∷ d ∷ rest) 1 all in
    let r : c < 256 = byte_below (a ∷ b ∷ c ∷ d ∷ rest) 2 all in
    let s : d < 256 = byte_below (a ∷ b ∷ c ∷ d ∷ rest) 3 all in
    omega arith

-- a byte of the first four
four_below : (a b c d : ℕ) (rest : List ℕ) (i : ℕ) → AreBytes (a ∷ b ∷ c ∷ d ∷ rest) → get_or (a ∷ b ∷ c ∷ d ∷ []) i 0 < 256
four_below a b c d rest zero all = byte_below (a ∷ b ∷ c ∷ d ∷ rest) 0 all
four_below a b c d rest (suc zero) all = byte_below (a ∷ b ∷ c ∷ d ∷ rest) 1 all
four_below a b c d rest (suc (suc zero)) all = byte_below (a ∷ b ∷ c ∷ d ∷ rest) 2 all
four_below a b c d rest (suc (suc (suc zero))) all = byte_below (a ∷ b ∷ c ∷ d ∷ rest) 3 all
four_below a b c d rest (suc (suc (suc (suc i)))) all = omega arith

pub each_is_of_its_session_id : IsDatagramOfItsSessionId
each_is_of_its_session_id [] h all = absurd (omega arith)
each_is_of_its_session_id (a ∷ []) h all = absurd (omega arith)
each_is_of_its_session_id (a ∷ b ∷ []) h all = absurd (omega arith)
each_is_of_its_session_id (a ∷ b ∷ c ∷ []) h all = absurd (omega arith)
each_is_of_its_session_id (a ∷ b ∷ c ∷ d ∷ rest) h all =
    let ssid : ℕ = from_be_bytes w32 (a ∷ b ∷ c ∷ d ∷ []) in
    let of_rest : AreBytes rest = rest_are_bytes a b c d rest all in (
      scrambled_below ssid rest (number_of_four a b c d rest all) of_rest,
      ap (λ n. to_be_bytes w32 n ++ rest) (xor_both_twice ssid (first_word rest) (second_word rest))
          ∙ ap (λ bytes. bytes ++ rest) (be_bytes_4 (a ∷ b ∷ c ∷ d ∷ []) ssid refl (λ i. four_below a b c d rest i all) refl),
    )
