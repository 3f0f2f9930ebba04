-- The front of a plain packet is deciphered without the rest.
use Rattle.std.proofs.Common.{◌≡◌, ℕ, suc, zero, ◌+◌, ◌-◌, ◌≤◌, List, [], ◌∷◌, ◌++◌, length, take, drop, refl, sym, ap, ◌∙◌, arith, length-take}
use Rattle.std.specs.Prelude.{bit_xor}
use Rattle.std.proofs.lemmas.List.{append-nil, append_assoc, drop-take, take-take}
use Rattle.crypto_profile.specs.Keys.{Keys}
use Rattle.crypto_profile.specs.Opening.{plain_of}
use Rattle.crypto_profile.specs.Sealing.{blocks_of, ciphered, keystream, number_of, stream_block, xored}
use Rattle.crypto_profile.proofs.Streams.{length-keystream}

xored-take : (n : ℕ) (bytes stream : List ℕ) → xored (take n bytes) stream ≡ take n (xored bytes stream)
xored-take zero bytes stream = refl
xored-take (suc n) [] stream = refl
xored-take (suc n) (byte ∷ rest) [] = refl
xored-take (suc n) (byte ∷ rest) (key ∷ stream) = ap (λ bytes. bit_xor byte key ∷ bytes) (xored-take n rest stream)

-- what stands behind a stream that is long enough isn't looked at
xored_front : (bytes stream more : List ℕ) → length bytes ≤ length stream → xored bytes (stream ++ more) ≡ xored bytes stream
xored_front [] stream more h = refl
xored_front (byte ∷ rest) [] more h = absurd (omega arith)
xored_front (byte ∷ rest) (key ∷ stream) more h = ap (λ bytes. bit_xor byte key ∷ bytes) (xored_front rest stream more (omega arith))

-- the first blocks of a keystream stand in front of more of them
begins : (enc number : List ℕ) (n m : ℕ) → (more : List ℕ) × (keystream enc number (n + m) ≡ keystream enc number n ++ more)
begins enc number n zero = let same : n + 0 ≡ n = omega arith in ([], ap (keystream enc number) same ∙ sym (append-nil (keystream enc number n)))
begins enc number n (suc m) =
    let before = begins enc number n m in
    let next : n + suc m ≡ suc (n + m) = omega arith in (
      before.0 ++ stream_block enc number (n + m),
      ap (keystream enc number) next
          ∙ ap (λ stream. stream ++ stream_block enc number (n + m)) before.1
          ∙ append_assoc (keystream enc number n) before.0 (stream_block enc number (n + m)),
    )

ciphered-take : (enc number bytes : List ℕ) (n : ℕ) → ciphered enc number (take n bytes) ≡ take n (ciphered enc number bytes)
unfolding ciphered
ciphered-take enc number bytes n =
    let few = blocks_of (length (take n bytes)) in
    let all = blocks_of (length bytes) in
    let split : few + (all - few) ≡ all = omega (arith, length-take n bytes) in
    let more = begins enc number few (all - few) in
    let enough : length (take n bytes) ≤ length (keystream enc number few) = omega (arith, length-keystream enc number few) in
    sym (xored_front (take n bytes) (keystream enc number few) more.0 enough)
    ∙ ap (xored (take n bytes)) (sym more.1 ∙ ap (keystream enc number) split)
    ∙ xored-take n bytes (keystream enc number all)

number_of-take : (n : ℕ) (part : List ℕ) → number_of (take (32 + n) part) ≡ number_of part
number_of-take n part =
    let split : 32 + n ≡ 16 + (16 + n) = omega arith in
    ap (λ m. take 16 (drop 16 (take m part))) split ∙ ap (take 16) (drop-take 16 (16 + n) part)
    ∙ take-take 16 (16 + n) (drop 16 part) (omega arith)

-- the plain packet of the front of a part is the front of the plain packet
pub plain_of-take : (keys : Keys) (part : List ℕ) (n : ℕ) → plain_of keys (take (32 + n) part) ≡ take n (plain_of keys part)
plain_of-take keys part n =
    ap (λ number. ciphered keys.enc number (drop 32 (take (32 + n) part))) (number_of-take n part)
    ∙ ap (ciphered keys.enc (number_of part)) (drop-take 32 n part)
    ∙ ciphered-take keys.enc (number_of part) (drop 32 part) n
