-- What is made of bytes is bytes: digests, keystreams, and plain packets.
use Rattle.std.proofs.Common.{◌≡◌, ℕ, zero, suc, ◌/◌, ◌%◌, ◌<◌, List, [], ◌∷◌, ◌++◌, length, drop, bit_xor, inl, inr, subst, arith}
use Rattle.std.specs.Prelude.{slice_index}
use Rattle.std.specs.Int.{w32, w64, to_be_bytes}
use Rattle.std.proofs.lemmas.Nat.{xor_of_8}
use Rattle.std.proofs.lemmas.Bool.{cases_lt}
use Rattle.std.proofs.lemmas.List.{get_or_past}
use Rattle.sha2.specs.Sha256.{sha256, digest_bytes, final_hash, initial_hash_256}
use Rattle.crypto_profile.specs.Keys.{Keys}
use Rattle.crypto_profile.specs.Hmac.{hmac, inner_block, outer_block}
use Rattle.crypto_profile.specs.Opening.{plain_of}
use Rattle.crypto_profile.specs.Sealing.{keystream, stream_block, blocks_of, xored, ciphered, number_of}
use Rattle.rtmfp_vlu.proofs.Bytes.{IsBytes, IsBytes-drop, IsBytes-take, IsBytes-tail}
use Rattle.rtmfp_vlu.proofs.Fields.{front, behind}
use Rattle.endpoint_laws.specs.Laws.{AreBytes}

pub none_are : IsBytes []
none_are i = omega (arith, get_or_past {X = ℕ} [] i 0 (omega arith))

pub one_more : (b : ℕ) (bytes : List ℕ) → b < 256 → IsBytes bytes → IsBytes (b ∷ bytes)
one_more b bytes small are zero = small
one_more b bytes small are (suc i) = are i

pub both_are : (xs ys : List ℕ) → IsBytes xs → IsBytes ys → IsBytes (xs ++ ys)
both_are [] ys p q = q
both_are (x ∷ xs) ys p q = one_more x (xs ++ ys) (p 0) (both_are xs ys (IsBytes-tail x xs p) q)

pub front_are : (b xs ys : List ℕ) → b ≡ xs ++ ys → IsBytes b → IsBytes xs
front_are b xs ys e are = subst IsBytes (front b xs ys e) (IsBytes-take (length xs) b are)

pub back_are : (b xs ys : List ℕ) → b ≡ xs ++ ys → IsBytes b → IsBytes ys
back_are b xs ys e are = subst IsBytes (behind b xs ys e) (IsBytes-drop (length xs) b are)

word_is : (n : ℕ) → IsBytes (to_be_bytes w32 n)
word_is n =
    one_more (n / 16777216 % 256) (n / 65536 % 256 ∷ n / 256 % 256 ∷ n % 256 ∷ []) (omega arith) (one_more (n / 65536 % 256) (n / 256 % 256 ∷ n % 256 ∷ []) (omega arith) (one_more (n / 256 % 256) (n % 256 ∷ []) (omega arith) (one_more (n % 256) [] (omega arith) none_are)))

digest_is : (h : List ℕ) (n : ℕ) → IsBytes (digest_bytes h n)
unfolding digest_bytes
digest_is h zero = none_are
digest_is h (suc n) = both_are (digest_bytes h n) (to_be_bytes w32 (slice_index h n)) (digest_is h n) (word_is (slice_index h n))

pub sha256_is : (m : List ℕ) → IsBytes (sha256 m)
unfolding sha256
sha256_is m = digest_is (final_hash initial_hash_256 m) 8

pub hmac_is : (key text : List ℕ) → IsBytes (hmac key text)
unfolding hmac
hmac_is key text = sha256_is (outer_block key ++ sha256 (inner_block key ++ text))

stream_is : (enc number : List ℕ) (n : ℕ) → IsBytes (keystream enc number n)
stream_is enc number zero = none_are
stream_is enc number (suc n) = both_are (keystream enc number n) (stream_block enc number n) (stream_is enc number n) (hmac_is enc (number ++ to_be_bytes w64 n))

xored_is : (bytes stream : List ℕ) → IsBytes bytes → IsBytes stream → IsBytes (xored bytes stream)
xored_is [] stream p q = none_are
xored_is (b ∷ bytes) [] p q = none_are
xored_is (b ∷ bytes) (k ∷ stream) p q =
    one_more (bit_xor b k) (xored bytes stream) (xor_of_8 b k (p 0) (q 0)) (xored_is bytes stream (IsBytes-tail b bytes p) (IsBytes-tail k stream q))

ciphered_is : (enc number bytes : List ℕ) → IsBytes bytes → IsBytes (ciphered enc number bytes)
unfolding ciphered
ciphered_is enc number bytes are = xored_is bytes (keystream enc number (blocks_of (length bytes))) are (stream_is enc number (blocks_of (length bytes)))

pub plain_is : (keys : Keys) (part : List ℕ) → IsBytes part → IsBytes (plain_of keys part)
plain_is keys part are = ciphered_is keys.enc (number_of part) (drop 32 part) (IsBytes-drop 32 part are)

pub of_bytes : (bytes : List ℕ) → AreBytes bytes → IsBytes bytes
of_bytes bytes all i =
    elim (cases_lt i (length bytes)) [
      | inl within ↦ all i 0 within
      | inr past ↦ omega (arith, get_or_past bytes i 0 past)
    ]
