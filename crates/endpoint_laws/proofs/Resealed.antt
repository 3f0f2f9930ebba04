-- A sealed part opens under the session ID that it goes out under, and to its plain packet alone.
use Rattle.std.proofs.Common.{◌≡◌, ℕ, ◌+◌, ◌*◌, ◌^◌, ◌<◌, List, ◌++◌, length, take, get_or, Some, sym, ap, ◌∙◌, arith}
use Rattle.std.specs.Int.{w32, to_be_bytes}
use Rattle.std.specs.FinMap.{get}
use Rattle.std.proofs.lemmas.List.{take_at, get_or-take}
use Rattle.std.proofs.lemmas.Nat.{xor_of_32, from_be_bytes-to_be_bytes_4}
use Rattle.std.specs.Prelude.{bit_xor}
use Rattle.rtmfp_vlu.proofs.Bytes.{IsBytes-take}
use Rattle.crypto_profile.specs.declared.keys.Context.TheVariants.{Startup}
use Rattle.crypto_profile.specs.Hmac.{hmac}
use Rattle.crypto_profile.specs.Keys.{Keys, keys_of}
use Rattle.crypto_profile.specs.Sealing.{Opens, sealed, sealed_in, tag_of, ciphered}
use Rattle.crypto_profile.proofs.Opened.{length-tag_of, sealed_carries, sealed_opens, opens_by_its_tag}
use Rattle.packet_scramble.specs.Datagram.{datagram, sid_of, first_word, second_word, scrambled, unscrambled}
use Rattle.packet_scramble.proofs.Words.{first_word_bytes, second_word_bytes}
use Rattle.packet_scramble.proofs.Scrambling.{xor_both_twice}
use Rattle.endpoint_laws.specs.Contexts.{OpensUnder, Secrets}
use Rattle.endpoint_laws.proofs.Bytes.{hmac_is}

-- the tag is bytes
tag_bytes : (keys : Keys) (sid : ℕ) (number plain : List ℕ) (i : ℕ) → i < 16 → get_or (sealed keys sid number plain) i 0 < 256
tag_bytes keys sid number plain i within =
    let rest : List ℕ = number ++ ciphered keys.enc number plain in
    let tag : List ℕ = tag_of keys.mac sid rest in
    let front : take 16 (tag ++ rest) ≡ tag = take_at tag rest 16 (length-tag_of keys.mac sid rest) in
    let at : get_or (take 16 (tag ++ rest)) i 0 ≡ get_or (tag ++ rest) i 0 = get_or-take 16 (tag ++ rest) i 0 within in
    let small : get_or tag i 0 < 256 = IsBytes-take 16 (hmac keys.mac (to_be_bytes w32 sid ++ rest)) (hmac_is keys.mac (to_be_bytes w32 sid ++ rest)) i in
    omega (arith, at, ap (λ xs. get_or xs i 0) front, small)

word_small : (a b c d : ℕ) → a < 256 → b < 256 → c < 256 → d < 256 → a * 16777216 + b * 65536 + c * 256 + d < 2 ^ 32
word_small a b c d p q r s = omega arith

pub scrambled_small : (keys : Keys) (sid : ℕ) (number plain : List ℕ) → sid < 2 ^ 32 → scrambled sid (sealed keys sid number plain) < 2 ^ 32
scrambled_small keys sid number plain small =
    let part : List ℕ = sealed keys sid number plain in
    let at : (i : ℕ) → i < 16 → get_or part i 0 < 256 = tag_bytes keys sid number plain in
    let one = word_small (get_or part 0 0) (get_or part 1 0) (get_or part 2 0) (get_or part 3 0) (at 0 (omega arith)) (at 1 (omega arith)) (at 2 (omega arith)) (at 3 (omega arith)) in
    let two = word_small (get_or part 4 0) (get_or part 5 0) (get_or part 6 0) (get_or part 7 0) (at 4 (omega arith)) (at 5 (omega arith)) (at 6 (omega arith)) (at 7 (omega arith)) in
    let first : first_word part < 2 ^ 32 = omega (arith, first_word_bytes part, one) in
    let second : second_word part < 2 ^ 32 = omega (arith, second_word_bytes part, two) in
    xor_of_32 (bit_xor sid (first_word part)) (second_word part) (xor_of_32 sid (first_word part) small first) second

unfoldable pub opens_again : (secrets : Secrets) (secret : List ℕ) (generation sid : ℕ) (number plain : List ℕ) → get secrets generation ≡ Some secret → sid < 2 ^ 32 → length number ≡ 16 →
    OpensUnder secrets (Startup generation) sid (datagram sid (sealed_in secret (Startup generation) sid number plain)) plain
opens_again secrets secret generation sid number plain known small size =
    let keys : Keys = keys_of secret (Startup generation) in
    let part : List ℕ = sealed keys sid number plain in
    let carries = sealed_carries keys sid number plain size in
    let id : sid_of (datagram sid part) ≡ sid =
    ap (λ n. unscrambled n part) (from_be_bytes-to_be_bytes_4 (scrambled sid part) (scrambled_small keys sid number plain small)) ∙ xor_both_twice sid (first_word part) (second_word part) in
    record { secret = secret; known = known; id = id; opens = (omega (arith, carries.1), ap (λ n. sealed keys sid n plain) (sym carries.0), tt) }

-- under whatever session ID it is opened
pub opened_plain : (secret : List ℕ) (generation sid other : ℕ) (number plain opened : List ℕ) → length number ≡ 16 →
    Opens secret (Startup generation) other (sealed_in secret (Startup generation) sid number plain) opened → opened ≡ plain
opened_plain secret generation sid other number plain opened size opens =
    ((opens_by_its_tag secret (Startup generation) other (sealed_in secret (Startup generation) sid number plain) opened).0 opens).2 ∙ (sealed_opens (keys_of secret (Startup generation)) sid number plain size).1
