-- The components of keyings have one reading each.
use Rattle.std.proofs.Common.{ℕ, ◌+◌, ◌<◌, ◌^◌, List, ◌++◌, length, take, drop, ◌≡◌, refl, sym, ap, ◌∙◌, arith, append_assoc, length-append}
use Rattle.std.specs.Int.{w64, to_be_bytes, from_be_bytes}
use Rattle.std.proofs.lemmas.List.{take_at, drop_at}
use Rattle.std.proofs.lemmas.Nat.{from_be_bytes-to_be_bytes_8}
use Rattle.endpoint_model.specs.Keying.{initiator_part, responder_part}

-- two fronts of one length, and what follows them
record AreFronts (a b c d : List ℕ) : Type 0 where
  front : a ≡ b
  rest : c ≡ d

fronts : (a b c d : List ℕ) (n : ℕ) → length a ≡ n → length b ≡ n → a ++ c ≡ b ++ d → AreFronts a b c d
fronts a b c d n p q e = record {
  front = sym (take_at a c n p) ∙ ap (take n) e ∙ take_at b d n q;
  rest = sym (drop_at a c n p) ∙ ap (drop n) e ∙ drop_at b d n q;
}

eight : (n : ℕ) → length (to_be_bytes w64 n) ≡ 8
eight n = refl

numbers : (m n : ℕ) → m < 2 ^ 64 → n < 2 ^ 64 → to_be_bytes w64 m ≡ to_be_bytes w64 n → m ≡ n
numbers m n p q e = sym (from_be_bytes-to_be_bytes_8 m p) ∙ ap (from_be_bytes w64) e ∙ from_be_bytes-to_be_bytes_8 n q

pub record OneInitiatorPart (ni ni' : List ℕ) (n n' : ℕ) (responder responder' : List ℕ) : Type 0 where
  pub ni_is : ni ≡ ni'
  pub n_is : n ≡ n'
  pub responder_is : responder ≡ responder'

pub one_initiator_part : (ni ni' : List ℕ) (n n' : ℕ) (responder responder' : List ℕ) → length ni ≡ 16 → length ni' ≡ 16 → n < 2 ^ 64 → n' < 2 ^ 64 →
    initiator_part ni n responder ≡ initiator_part ni' n' responder' → OneInitiatorPart ni ni' n n' responder responder'
one_initiator_part ni ni' n n' responder responder' p p' q q' e =
    let nonce = fronts ni ni' (to_be_bytes w64 n ++ responder) (to_be_bytes w64 n' ++ responder') 16 p p'
    (sym (append_assoc ni (to_be_bytes w64 n) responder) ∙ e ∙ append_assoc ni' (to_be_bytes w64 n') responder') in
    let number = fronts (to_be_bytes w64 n) (to_be_bytes w64 n') responder responder' 8 (eight n) (eight n') nonce.rest in
    record { ni_is = nonce.front; n_is = numbers n n' q q' number.front; responder_is = number.rest }

pub record OneResponderPart (nr nr' : List ℕ) (k k' : ℕ) (responder responder' ni ni' : List ℕ) : Type 0 where
  pub nr_is : nr ≡ nr'
  pub k_is : k ≡ k'
  pub responder_is : responder ≡ responder'
  pub ni_is : ni ≡ ni'

part_after : (nr : List ℕ) (k : ℕ) (responder ni : List ℕ) → responder_part nr k responder ni ≡ nr ++ (to_be_bytes w64 k ++ (responder ++ ni))
part_after nr k responder ni =
    append_assoc (nr ++ to_be_bytes w64 k) responder ni ∙ append_assoc nr (to_be_bytes w64 k) (responder ++ ni)

length_part : (nr word responder ni : List ℕ) → length word ≡ 8 → length (nr ++ (word ++ (responder ++ ni))) ≡ length nr + (8 + (length responder + length ni))
length_part nr word responder ni size = omega (arith, size, length-append nr (word ++ (responder ++ ni)), length-append word (responder ++ ni), length-append responder ni)

pub one_responder_part : (nr nr' : List ℕ) (k k' : ℕ) (responder responder' ni ni' : List ℕ) → length nr' ≡ 16 → k < 2 ^ 64 → k' < 2 ^ 64 → length responder ≡ 32 → length responder' ≡ 32 →
    length ni ≡ 16 → length ni' ≡ 16 → responder_part nr k responder ni ≡ responder_part nr' k' responder' ni' → OneResponderPart nr nr' k k' responder responder' ni ni'
one_responder_part nr nr' k k' responder responder' ni ni' size q q' r r' s s' e =
    let whole : nr ++ (to_be_bytes w64 k ++ (responder ++ ni)) ≡ nr' ++ (to_be_bytes w64 k' ++ (responder' ++ ni')) = sym (part_after nr k responder ni) ∙ e ∙ part_after nr' k' responder' ni' in
    let same_size : length nr ≡ 16 = as_long (length nr) (length nr') (length responder + length ni) (length responder' + length ni')
    (sym (length_part nr (to_be_bytes w64 k) responder ni (eight k)) ∙ ap length whole ∙ length_part nr' (to_be_bytes w64 k') responder' ni' (eight k')) size (omega (arith, r, r', s, s')) in
    let nonce = fronts nr nr' (to_be_bytes w64 k ++ (responder ++ ni)) (to_be_bytes w64 k' ++ (responder' ++ ni')) 16 same_size size whole in
    let number = fronts (to_be_bytes w64 k) (to_be_bytes w64 k') (responder ++ ni) (responder' ++ ni') 8 (eight k) (eight k') nonce.rest in
    let print = fronts responder responder' ni ni' 32 r r' number.rest in
    record { nr_is = nonce.front; k_is = numbers k k' q q' number.front; responder_is = print.front; ni_is = print.rest }
  where
    as_long : (a b c d : ℕ) → a + (8 + c) ≡ b + (8 + d) → b ≡ 16 → c ≡ d → a ≡ 16
    as_long a b c d e size same = omega arith
