-- What an ack acknowledges above its cumulative number (RFC 7016 sections 2.3.13 and 2.3.14).
use Rattle.std.specs.Prelude.{◌≡◌, ℕ, zero, suc, ◌+◌, ◌-◌, ◌*◌, ◌/◌, ◌%◌, ◌^◌, ◌<◌, ◌≤◌, ◌==◌, ◌⊎◌, ◌↔◌, min, Bool, true, List, [], ◌∷◌, length, drop, get_or, Result, Ok, Err, nat_lt, if◌then◌else◌}
use Rattle.rtmfp_data_chunks.specs.Chunk.{DataChunk, Data, Next, AckBitmap, AckRanges, Probe, Exception}
use Rattle.rtmfp_data_chunks.specs.Fields.{flag}
use Rattle.rtmfp_data_chunks.specs.Acks.{PairsTell}
use Rattle.rtmfp_vlu.specs.declared.reading.VluFault.{VluFault}
use Rattle.rtmfp_vlu.specs.Reading.{number_at}

-- the spans that pairs tell of, above the last number that was told of. A pair is one less than
-- the count of the numbers that aren't there, and one less than the count of those that are. It
-- ends where a pair isn't whole or would pass 64 bits
abbrev pub with_received : (ℕ → List ℕ → List (ℕ × ℕ)) → ℕ → List ℕ → Result (ℕ × ℕ) VluFault →
    List (ℕ × ℕ)
with_received later first bytes (Err fault) = []
with_received later first bytes (Ok received) =
    if nat_lt (first + received.0) (2 ^ 64) then
    (first, first + received.0) ∷ later (first + received.0) (drop received.1 bytes) else []

abbrev pub with_holes : (ℕ → List ℕ → List (ℕ × ℕ)) → ℕ → List ℕ → Result (ℕ × ℕ) VluFault →
    List (ℕ × ℕ)
with_holes later last bytes (Err fault) = []
with_holes later last bytes (Ok holes) = with_received later (last + holes.0 + 2)
    (drop holes.1 bytes) (number_at (drop holes.1 bytes))

-- in so many steps
unfoldable pub spans_within : ℕ → ℕ → List ℕ → List (ℕ × ℕ)
spans_within zero last bytes = []
spans_within (suc steps) last bytes = with_holes (spans_within steps) last bytes (number_at bytes)

-- a pair has at least two bytes
abbrev pub spans_of_pairs : ℕ → List ℕ → List (ℕ × ℕ)
spans_of_pairs upto bytes = spans_within (suc (length bytes)) upto bytes

-- ---- bits

-- the bit that speaks of number n is set: the least significant bit of the first byte speaks of
-- upto + 2, and each further one of the next number
abbrev pub is_set : ℕ → List ℕ → ℕ → Bool
is_set upto bits n = flag (get_or bits ((n - (upto + 2)) / 8) 0) ((n - (upto + 2)) % 8)

-- the numbers a to b in front of spans, as one with the first of them where that begins behind
-- b
abbrev pub in_front : ℕ → ℕ → List (ℕ × ℕ) → List (ℕ × ℕ)
in_front a b [] = (a, b) ∷ []
in_front a b (s ∷ ss) = if s.0 == b + 1 then (a, s.1) ∷ ss else (a, b) ∷ (s ∷ ss)

-- the spans of the numbers that pass a test, of so many from n on
unfoldable pub spans_where : (ℕ → Bool) → ℕ → ℕ → List (ℕ × ℕ)
spans_where test n zero = []
spans_where test n (suc count) = if test n then in_front n n (spans_where test (suc n) count)
    else spans_where test (suc n) count

-- how many bits speak of numbers of 64 bits
abbrev pub bits_told : ℕ → List ℕ → ℕ
bits_told upto bits = min (8 * length bits) (2 ^ 64 - (upto + 2))

abbrev pub spans_of_bits : ℕ → List ℕ → List (ℕ × ℕ)
spans_of_bits upto bits = spans_where (is_set upto bits) (upto + 2) (bits_told upto bits)

-- ---- chunks

abbrev pub acked : DataChunk → List (ℕ × ℕ)
acked (Data user) = []
acked (Next user) = []
acked (AckBitmap flow blocks upto bits) = spans_of_bits upto bits
acked (AckRanges flow blocks upto pairs) = spans_of_pairs upto pairs
acked (Probe flow) = []
acked (Exception flow code) = []

-- number n is of a span
abbrev pub IsTold : ℕ → List (ℕ × ℕ) → Type 0
IsTold n [] = ⊥
IsTold n (s ∷ ss) = ((s.0 ≤ n) × (n ≤ s.1)) ⊎ IsTold n ss

-- the spans rise, each with a number missing before it, from the one above this number on
abbrev pub AreApart : ℕ → List (ℕ × ℕ) → Type 0
AreApart above [] = Unit {0}
AreApart above (s ∷ ss) = (above + 2 ≤ s.0) × (s.0 ≤ s.1) × AreApart s.1 ss

-- the spans are those of the ack: of the numbers whose bit is set, or those that the pairs tell
-- of
abbrev pub AckTells : DataChunk → List (ℕ × ℕ) → Type 0
AckTells (Data user) ss = ss ≡ []
AckTells (Next user) ss = ss ≡ []
AckTells (AckBitmap flow blocks upto bits) ss = AreApart upto ss ×
    ((n : ℕ) → IsTold n ss ↔ ((upto + 2 ≤ n) × (n < 2 ^ 64) × (is_set upto bits n ≡ true)))
AckTells (AckRanges flow blocks upto pairs) ss = (told : List (ℕ × ℕ)) → PairsTell upto told pairs →
    ss ≡ told
AckTells (Probe flow) ss = ss ≡ []
AckTells (Exception flow code) ss = ss ≡ []
