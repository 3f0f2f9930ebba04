-- What was sealed, by the looks that tell it.
use Rattle.std.proofs.Common.{ℕ, zero, suc, ◌/◌, ◌%◌, ◌^◌, ◌≡◌, ◌≤◌, ◌<◌, nat_lt, Bool, true, false, if◌then◌else◌, List, [], ◌∷◌, ◌++◌, length, take, drop, Some, None, Result, Ok, Err, refl, sym, ap, subst, ◌∙◌, arith, length-drop}
use Rattle.std.specs.Prelude.{IfOk, OnOk, bit_xor}
use Rattle.std.specs.FinMap.{get}
use Rattle.std.specs.Int.{w32, to_be_bytes, from_be_bytes}
use Rattle.std.proofs.lemmas.Bool.Decides.{nat_tests}
use Rattle.std.proofs.lemmas.List.{drop_at, length-take}
use Rattle.std.proofs.lemmas.Nat.{xor_mod, from_be_bytes-to_be_bytes_4}
use Rattle.rtmfp_vlu.proofs.Bytes.{IsBytes, IsBytes-drop}
use Rattle.crypto_profile.specs.declared.keys.Context.{Context}
use Rattle.crypto_profile.specs.Hmac.{hmac}
use Rattle.crypto_profile.specs.Keys.{Keys, keys_of}
use Rattle.crypto_profile.specs.Opening.{open_refusal, plain_of}
use Rattle.crypto_profile.specs.Sealing.{ciphered, number_of, sealed}
use Rattle.crypto_profile.proofs.Opened.{length-sealed, opened_was_sealed, sealed_carries, sealed_opens}
use Rattle.packet_scramble.specs.Datagram.{AreBytes, datagram, first_word, second_word, scrambled, sid_of, unscrambled}
use Rattle.packet_scramble.proofs.Scrambling.{each_is_of_its_session_id, xor_both_twice}
use Rattle.packet_scramble.proofs.Words.{first_word_below, second_word_below}
use Rattle.endpoint_laws.specs.Contexts.{Secrets, generation_of}
use Rattle.log_packets.specs.Opening.{sid_in, is_tagged, held_then, IsSealed, WasSealed}
use Rattle.log_packets.proofs.Opens.{held_where, is_it, no_some, none_is, one_of}

to_bytes : (bytes : List ℕ) → IsBytes bytes → AreBytes bytes
to_bytes [] are k d lt = absurd (omega arith)
to_bytes (b ∷ bytes) are zero d lt = are 0
to_bytes (b ∷ bytes) are (suc k) d lt = to_bytes bytes (λ i. are (suc i)) k d (omega arith)

-- ---- a session ID has 32 bits

high_byte : (n : ℕ) → n / 16777216 % 256 ≡ n % 4294967296 / 16777216 % 256
high_byte n = omega arith

next_byte : (n : ℕ) → n / 65536 % 256 ≡ n % 4294967296 / 65536 % 256
next_byte n = omega arith

third_byte : (n : ℕ) → n / 256 % 256 ≡ n % 4294967296 / 256 % 256
third_byte n = omega arith

low_byte : (n : ℕ) → n % 256 ≡ n % 4294967296 % 256
low_byte n = omega arith

word_of : (n : ℕ) → to_be_bytes w32 n ≡ to_be_bytes w32 (n % 2 ^ 32)
word_of n = λ i. high_byte n i ∷ next_byte n i ∷ third_byte n i ∷ low_byte n i ∷ []

below : (n : ℕ) → n % 2 ^ 32 < 2 ^ 32
below n = omega arith

as_it_is : (n : ℕ) → n < 2 ^ 32 → n % 2 ^ 32 ≡ n
as_it_is n small = omega (arith, small)

read_word : (n : ℕ) → from_be_bytes w32 (to_be_bytes w32 n) ≡ n % 2 ^ 32
read_word n = ap (from_be_bytes w32) (word_of n) ∙ from_be_bytes-to_be_bytes_4 (n % 2 ^ 32) (below n)

scrambled_low : (sid : ℕ) (part : List ℕ) → AreBytes part → scrambled sid part % 2 ^ 32 ≡ scrambled (sid % 2 ^ 32) part
scrambled_low sid part are =
    xor_mod (bit_xor sid (first_word part)) (second_word part) 32
    ∙ ap (λ n. bit_xor n (second_word part % 2 ^ 32)) (xor_mod sid (first_word part) 32)
    ∙ ap (λ n. bit_xor (bit_xor (sid % 2 ^ 32) n) (second_word part % 2 ^ 32)) (as_it_is (first_word part) (first_word_below part are))
    ∙ ap (bit_xor (bit_xor (sid % 2 ^ 32) (first_word part))) (as_it_is (second_word part) (second_word_below part are))

-- the session ID of a datagram that was made under whatever number
sid_low : (sid : ℕ) (part : List ℕ) → AreBytes part → sid_of (datagram sid part) ≡ sid % 2 ^ 32
sid_low sid part are =
    ap (λ n. unscrambled n part) (read_word (scrambled sid part) ∙ scrambled_low sid part are)
    ∙ xor_both_twice (sid % 2 ^ 32) (first_word part) (second_word part)

sealed_low : (keys : Keys) (sid : ℕ) (number plain : List ℕ) → sealed keys sid number plain ≡ sealed keys (sid % 2 ^ 32) number plain
sealed_low keys sid number plain =
    ap (λ (word : List ℕ). take 16 (hmac keys.mac (word ++ (number ++ ciphered keys.enc number plain))) ++ (number ++ ciphered keys.enc number plain)) (word_of sid)

-- ---- what was sealed

-- What is so of a datagram that was sealed.
record DoesSeal (keys : Keys) (bytes : List ℕ) (sid : ℕ) (number plain : List ℕ) : Type 0 where
  there : sid_in bytes ≡ Some (sid_of bytes)
  tagged : is_tagged keys (sid_of bytes) (drop 4 bytes) ≡ true
  sid_is : sid % 2 ^ 32 ≡ sid_of bytes
  number_is : number ≡ number_of (drop 4 bytes)
  plain_is : plain ≡ plain_of keys (drop 4 bytes)

kept_sid : (short : Bool) (id : ℕ) → short ≡ false → (if short then None else Some id) ≡ Some id
kept_sid true id e = absurd cc
kept_sid false id e = refl

does_seal : (keys : Keys) (bytes : List ℕ) (sid : ℕ) (number plain : List ℕ) → IsBytes bytes → length number ≡ 16 → bytes ≡ datagram sid (sealed keys sid number plain) → DoesSeal keys bytes sid number plain
does_seal keys bytes sid number plain are size is =
    let part : List ℕ = sealed keys sid number plain in
    let behind : drop 4 bytes ≡ part = ap (drop 4) is ∙ drop_at (to_be_bytes w32 (scrambled sid part)) part 4 refl in
    let part_are : AreBytes part = subst AreBytes behind (to_bytes (drop 4 bytes) (IsBytes-drop 4 bytes are)) in
    let id : sid_of bytes ≡ sid % 2 ^ 32 = ap sid_of is ∙ sid_low sid part part_are in
    let same : drop 4 bytes ≡ sealed keys (sid_of bytes) number plain =
    behind ∙ sealed_low keys sid number plain ∙ ap (λ n. sealed keys n number plain) (sym id) in
    let told = sealed_opens keys (sid_of bytes) number plain size in
    let count : 36 ≤ length bytes = omega (arith, length-drop 4 bytes, ap length behind, length-sealed keys sid number plain size) in
    let long : nat_lt (length bytes) 36 ≡ false = grind (arith, nat_tests, count) in
    record {
      there = kept_sid (nat_lt (length bytes) 36) (sid_of bytes) long;
      tagged = is_it (open_refusal keys (sid_of bytes) (drop 4 bytes)) (ap (open_refusal keys (sid_of bytes)) same ∙ told.0);
      sid_is = sym id;
      number_is = sym (ap number_of same ∙ (sealed_carries keys (sid_of bytes) number plain size).0);
      plain_is = sym (ap (plain_of keys) same ∙ told.1);
    }

number_size : (part : List ℕ) → 32 ≤ length part → length (number_of part) ≡ 16
number_size part long = omega (arith, long, length-drop 16 part, length-take 16 (drop 16 part))

module _ (secrets : Secrets) (context : Context) (bytes plain : List ℕ) (are : IsBytes bytes) where
  -- what any secret sealed
  by_secret : (sid : ℕ) (number other : List ℕ) (s : IsSealed secrets context bytes sid number other) → DoesSeal (keys_of s.secret context) bytes sid number other
  by_secret sid number other s = does_seal (keys_of s.secret context) bytes sid number other are s.numbered s.is

  -- where it is too short
  pub not_sealed : sid_in bytes ≡ None → WasSealed secrets context bytes false plain
  not_sealed none = record {
    yes = λ e. absurd (let clash : false ≡ true = e in cc);
    no = λ sid number other s. absurd (no_some (sid_in bytes) (sid_of bytes) none (by_secret sid number other s).there);
  }

  module _ (secret part before : List ℕ) (sid : ℕ) (keys : Keys) (known : get secrets (generation_of context) ≡ Some secret) (under : keys ≡ keys_of secret context) (found : sid_in bytes ≡ Some sid) (behind : part ≡ drop 4 bytes) where
    abbrev ours : Keys
    ours = keys_of secret context

    sealing : (it : Bool) → it ≡ is_tagged keys sid part → plain ≡ held_then keys sid part before → WasSealed secrets context bytes it plain
    sealing it is holds =
        let id : sid_of bytes ≡ sid = (kept_not (nat_lt (length bytes) 36) (sid_of bytes) sid found).1 in
        let long : 4 ≤ length bytes = long_of (length bytes) (kept_not (nat_lt (length bytes) 36) (sid_of bytes) sid found).0 in
        let tag : is_tagged keys sid part ≡ is_tagged ours (sid_of bytes) (drop 4 bytes) =
        ap (λ (k : Keys). is_tagged k sid part) under ∙ ap (is_tagged ours sid) behind ∙ ap (λ n. is_tagged ours n (drop 4 bytes)) (sym id) in
        let its_plain : plain_of keys part ≡ plain_of ours (drop 4 bytes) = ap (λ (k : Keys). plain_of k part) under ∙ ap (plain_of ours) behind in
        record {
          yes = λ e.
              let right = opened_was_sealed ours (sid_of bytes) (drop 4 bytes) (none_is (open_refusal ours (sid_of bytes) (drop 4 bytes)) (sym tag ∙ sym is ∙ e)) in
              let its : plain ≡ plain_of ours (drop 4 bytes) = holds ∙ held_where (is_tagged keys sid part) (plain_of keys part) before (sym is ∙ e) ∙ its_plain in
              record {
                numbered = number_size (drop 4 bytes) right.0;
                secret = secret;
                known = known;
                is = sym (each_is_of_its_session_id bytes long (to_bytes bytes are)).1
                    ∙ ap (datagram (sid_of bytes)) (right.1 ∙ ap (sealed ours (sid_of bytes) (number_of (drop 4 bytes))) (sym its));
              };
          no = λ other_sid number other s.
              let same : s.secret ≡ secret = one_of s.secret secret (sym s.known ∙ known) in
              let does = by_secret other_sid number other s in
              let right : is_tagged keys sid part ≡ true = tag ∙ ap (λ (x : List ℕ). is_tagged (keys_of x context) (sid_of bytes) (drop 4 bytes)) (sym same) ∙ does.tagged in (
                is ∙ right,
                does.sid_is,
                does.number_is,
                does.plain_is ∙ ap (λ (x : List ℕ). plain_of (keys_of x context) (drop 4 bytes)) same
                    ∙ sym (holds ∙ held_where (is_tagged keys sid part) (plain_of keys part) before right ∙ its_plain),
              );
        }
      where
        kept_not : (short : Bool) (id n : ℕ) → (if short then None else Some id) ≡ Some n → (short ≡ false) × (id ≡ n)
        kept_not true id n e = absurd cc
        kept_not false id n e = (refl, one_of id n e)

        long_of : (n : ℕ) → nat_lt n 36 ≡ false → 4 ≤ n
        long_of n e = grind (arith, nat_tests)

    pub was_sealed : {E : Type 0} (r : Result Bool E) → IfOk r (λ is. is ≡ is_tagged keys sid part) → OnOk r (plain ≡ held_then keys sid part before) → IfOk r (λ it. WasSealed secrets context bytes it plain)
    was_sealed (Ok it) is holds = sealing it is holds
    was_sealed (Err e) is holds = tt
