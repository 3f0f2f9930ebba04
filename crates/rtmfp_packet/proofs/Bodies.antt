-- A walk finds the chunks and the padding that the bytes spell, and no others.
use Rattle.std.proofs.Common.{◌≡◌, ℕ, suc, zero, ◌+◌, ◌*◌, ◌^◌, ◌<◌, ◌≤◌, ◌/◌, ◌%◌, inl, inr, List, [], ◌∷◌, ◌++◌, length, take, drop, refl, sym, ap, ◌∙◌, arith, length-drop, append_assoc, subst}
use Rattle.std.proofs.lemmas.Bool.{cases_lt}
use Rattle.std.proofs.lemmas.List.{length-take-le, take-append-drop, drop_at, take_at, length-append}
use Rattle.std.specs.List.{AllByRecursion, flat_map}
use Rattle.std.specs.Int.{to_be_bytes, w16}
use Rattle.rtmfp_packet.specs.Spelling.{Chunk, IsChunk, IsPadding, chunk_bytes}
use Rattle.rtmfp_packet.specs.Walk.{Body, body_of, then_body}
use Rattle.rtmfp_packet.proofs.Walking.{body_of-chunk, body_of-padding}

abbrev pub AreBytes : List ℕ → Type 0
AreBytes b = AllByRecursion (λ x. x < 256) b

-- the two bytes of a length
be16_of : (h l : ℕ) → h < 256 → l < 256 → to_be_bytes w16 (h * 256 + l) ≡ h ∷ l ∷ []
be16_of h l p q =
    let high : (h * 256 + l) / 256 % 256 ≡ h = omega arith in
    let low : (h * 256 + l) % 256 ≡ l = omega arith in
    ap (λ x. x ∷ (h * 256 + l) % 256 ∷ []) high ∙ ap (λ x. h ∷ x ∷ []) low

-- a length of two bytes is the number that they spell
be16_sum : (n : ℕ) → n < 2 ^ 16 → n / 256 % 256 * 256 + n % 256 ≡ n
be16_sum n h = omega arith

-- a body whose bytes are these
pub record IsBodyOf (body : Body) (b : List ℕ) : Type 0 where
  pub joined : b ≡ flat_map chunk_bytes body.chunks ++ body.padding
  pub each : AllByRecursion IsChunk body.chunks
  pub is_padding : IsPadding body.padding

padding_is_body : (b : List ℕ) → IsPadding b → IsBodyOf (body_of b) b
padding_is_body b h =
    let P : Body → Type 0 = λ body. IsBodyOf body b in
    subst P (sym (body_of-padding b h)) record { joined = refl; each = tt; is_padding = h }

dropped : (P : ℕ → Type 0) (n : ℕ) (b : List ℕ) → AllByRecursion P b → AllByRecursion P (drop n b)
dropped P zero b all = all
dropped P (suc n) [] all = tt
dropped P (suc n) (x ∷ b) all = dropped P n b all.1

chunk_is_body : (k h l : ℕ) (rest : List ℕ) → k < 256 → h < 256 → l < 256 → h * 256 + l ≤ length rest →
    IsBodyOf (body_of (drop (h * 256 + l) rest)) (drop (h * 256 + l) rest) → IsBodyOf (body_of (k ∷ h ∷ l ∷ rest)) (k ∷ h ∷ l ∷ rest)
chunk_is_body k h l rest kind high low le later =
    let len = h * 256 + l in
    let payload = take len rest in
    let body = body_of (drop len rest) in
    let size : length payload ≡ len = length-take-le len rest le in
    let head : to_be_bytes w16 (length payload) ≡ h ∷ l ∷ [] = ap (to_be_bytes w16) size ∙ be16_of h l high low in
    let whole : rest ≡ payload ++ (flat_map chunk_bytes body.chunks ++ body.padding) =
    sym (take-append-drop len rest) ∙ ap (λ xs. payload ++ xs) later.joined in
    let P : Body → Type 0 = λ b. IsBodyOf b (k ∷ h ∷ l ∷ rest) in
    subst P (sym (body_of-chunk k h l rest le)) record {
      joined =
          ap (λ xs. k ∷ h ∷ l ∷ xs) whole
          ∙ ap (λ xs. k ∷ (xs ++ (payload ++ (flat_map chunk_bytes body.chunks ++ body.padding)))) (sym head)
          ∙ ap (λ xs. k ∷ xs) (sym (append_assoc (to_be_bytes w16 (length payload)) payload (flat_map chunk_bytes body.chunks ++ body.padding)))
          ∙ sym (append_assoc (k ∷ (to_be_bytes w16 (length payload) ++ payload)) (flat_map chunk_bytes body.chunks) body.padding);
      each = (record { kind = kind; size = omega (arith, size) }, later.each);
      is_padding = later.is_padding;
    }

bytes_are_body : (n : ℕ) (b : List ℕ) → length b ≤ n → AreBytes b → IsBodyOf (body_of b) b
bytes_are_body n [] le all = padding_is_body [] tt
bytes_are_body n (k ∷ []) le all = padding_is_body (k ∷ []) tt
bytes_are_body n (k ∷ h ∷ []) le all = padding_is_body (k ∷ h ∷ []) tt
bytes_are_body zero (k ∷ h ∷ l ∷ rest) le all = absurd (omega arith)
bytes_are_body (suc n) (k ∷ h ∷ l ∷ rest) le all =
    elim (cases_lt (length rest) (h * 256 + l)) [
      | inl short ↦ padding_is_body (k ∷ h ∷ l ∷ rest) short
      | inr whole ↦ chunk_is_body k h l rest all.0 all.1.0 all.1.1.0 whole
          (bytes_are_body n (drop (h * 256 + l) rest) (omega (arith, length-drop (h * 256 + l) rest)) (dropped (λ x. x < 256) (h * 256 + l) rest all.1.1.1))
    ]

-- the walk over bytes finds a body that they spell
pub body_of-spells : (b : List ℕ) → AreBytes b → IsBodyOf (body_of b) b
body_of-spells b all = bytes_are_body (length b) b (omega arith) all

first_again : (chunk : Chunk) (rest : List ℕ) → IsChunk chunk → body_of (chunk_bytes chunk ++ rest) ≡ then_body chunk (body_of rest)
first_again chunk rest is =
    let n = length chunk.payload in
    let len : n / 256 % 256 * 256 + n % 256 ≡ n = be16_sum n is.size in
    let behind = chunk.payload ++ rest in
    let fits : n / 256 % 256 * 256 + n % 256 ≤ length behind = omega (arith, len, length-append chunk.payload rest) in
    body_of-chunk chunk.kind (n / 256 % 256) (n % 256) behind fits
    ∙ ap (λ m. then_body (record { kind = chunk.kind; payload = take m behind }) (body_of (drop m behind))) len
    ∙ ap (λ p. then_body (record { kind = chunk.kind; payload = p }) (body_of (drop n behind))) (take_at chunk.payload rest n refl)
    ∙ ap (λ r. then_body chunk (body_of r)) (drop_at chunk.payload rest n refl)

-- what bytes spell is what the walk over them finds
pub body_of-spelled : (chunks : List Chunk) (padding : List ℕ) → AllByRecursion IsChunk chunks → IsPadding padding →
    body_of (flat_map chunk_bytes chunks ++ padding) ≡ record { chunks = chunks; padding = padding }
body_of-spelled [] padding each is = body_of-padding padding is
body_of-spelled (chunk ∷ chunks) padding each is =
    ap body_of (append_assoc (chunk_bytes chunk) (flat_map chunk_bytes chunks) padding)
    ∙ first_again chunk (flat_map chunk_bytes chunks ++ padding) each.0
    ∙ ap (then_body chunk) (body_of-spelled chunks padding each.1 is)
