-- The parts of keyings read as what they were made of.
use Rattle.std.proofs.Common.{◌≡◌, ℕ, ◌≤◌, List, ◌++◌, length, take, drop, Bool, if◌then◌else◌, Option, Some, None, sym, ap, ◌∙◌, arith}
use Rattle.std.specs.Int.{w64, to_be_bytes, from_be_bytes}
use Rattle.std.proofs.lemmas.List.{take-append-drop, length-take-le, length-drop, drop-drop, append_assoc}
use Rattle.std.proofs.lemmas.Bool.{eq-eqb}
use Rattle.std.proofs.lemmas.Nat.{be_bytes_8}
use Rattle.rtmfp_vlu.proofs.Bytes.{IsBytes, IsBytes-drop, IsBytes-take}
use Rattle.startup_packets.specs.declared.parts.ResponderPart.{ResponderPart}
use Rattle.startup_packets.specs.Packets.{initiator_part, responder_part, responder_part_in}

-- the number in the middle, spelled again
number_again : (bytes eight : List ℕ) (n : ℕ) → IsBytes bytes → 24 ≤ length bytes → eight ≡ take 8 (drop 16 bytes) → n ≡ from_be_bytes w64 eight
    → to_be_bytes w64 n ≡ take 8 (drop 16 bytes)
number_again bytes eight n are long part is =
    be_bytes_8 (take 8 (drop 16 bytes)) n (length-take-le 8 (drop 16 bytes) (omega (arith, length-drop 16 bytes)))
    (IsBytes-take 8 (drop 16 bytes) (IsBytes-drop 16 bytes are)) (is ∙ ap (from_be_bytes w64) part)

-- a nonce, a number, and the rest
in_three : (bytes : List ℕ) → take 16 bytes ++ take 8 (drop 16 bytes) ++ drop 24 bytes ≡ bytes
in_three bytes =
    append_assoc (take 16 bytes) (take 8 (drop 16 bytes)) (drop 24 bytes)
    ∙ ap (λ xs. take 16 bytes ++ (take 8 (drop 16 bytes) ++ xs)) (sym (drop-drop 8 16 bytes))
    ∙ ap (λ xs. take 16 bytes ++ xs) (take-append-drop 8 (drop 16 bytes))
    ∙ take-append-drop 16 bytes

pub initiator_again : (bytes ni eight responder : List ℕ) (n : ℕ) → IsBytes bytes → 24 ≤ length bytes → ni ≡ take 16 bytes → eight ≡ take 8 (drop 16 bytes)
    → n ≡ from_be_bytes w64 eight → responder ≡ drop 24 bytes → bytes ≡ initiator_part ni n responder
initiator_again bytes ni eight responder n are long first second is third =
    sym (
    ap (λ xs. xs ++ to_be_bytes w64 n ++ responder) first
    ∙ ap (λ xs. take 16 bytes ++ xs ++ responder) (number_again bytes eight n are long second is)
    ∙ ap (λ xs. take 16 bytes ++ take 8 (drop 16 bytes) ++ xs) third
    ∙ in_three bytes)

pub responder_again : (bytes nr eight responder ni : List ℕ) (k : ℕ) → IsBytes bytes → 24 ≤ length bytes → nr ≡ take 16 bytes → eight ≡ take 8 (drop 16 bytes)
    → k ≡ from_be_bytes w64 eight → responder ≡ take 32 (drop 24 bytes) → ni ≡ drop 56 bytes → bytes ≡ responder_part nr k responder ni
responder_again bytes nr eight responder ni k are long first second is third fourth =
    let tail : responder ++ ni ≡ drop 24 bytes =
    ap (λ xs. xs ++ ni) third ∙ ap (λ xs. take 32 (drop 24 bytes) ++ xs) (fourth ∙ sym (drop-drop 32 24 bytes)) ∙ take-append-drop 32 (drop 24 bytes) in
    initiator_again bytes nr eight (responder ++ ni) k are long first second is tail
    ∙ sym (append_assoc (nr ++ to_be_bytes w64 k) responder ni)

abbrev pub part_of : List ℕ → ℕ → List ℕ → List ℕ → ResponderPart
part_of nr k responder ni = record { nr = nr; k = k; responder = responder; ni = ni }

pub responder_says : (bytes nr eight responder ni : List ℕ) (k : ℕ) → length bytes ≡ 72 → nr ≡ take 16 bytes → eight ≡ take 8 (drop 16 bytes) → k ≡ from_be_bytes w64 eight
    → responder ≡ take 32 (drop 24 bytes) → ni ≡ drop 56 bytes → Some (part_of nr k responder ni) ≡ responder_part_in bytes
unfolding responder_part_in
responder_says bytes nr eight responder ni k long first second is third fourth =
    let number : k ≡ from_be_bytes w64 (take 8 (drop 16 bytes)) = is ∙ ap (from_be_bytes w64) second in
    let found : Option ResponderPart = Some (part_of (take 16 bytes) (from_be_bytes w64 (take 8 (drop 16 bytes))) (take 32 (drop 24 bytes)) (drop 56 bytes)) in
    let all : Some (part_of nr k responder ni) ≡ found = λ i. Some (part_of (first i) (number i) (third i) (fourth i)) in
    all ∙ ap (λ (b : Bool). if b then found else None) (sym (eq-eqb (length bytes) 72 long))
