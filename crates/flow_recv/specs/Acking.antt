-- The ack that a receiving flow tells (RFC 7016 section 2.3.14).
use Rattle.std.specs.Prelude.{ℕ, ◌-◌, ◌/◌, if◌then◌else◌, nat_lt, List, [], ◌∷◌, ◌++◌, length}
use Rattle.std.specs.Int.{to_be_bytes, w16}
use Rattle.rtmfp_vlu.specs.Vlu.{vlu}
use Rattle.rtmfp_data_chunks.specs.Acks.{PairsTell}
use Rattle.flow_recv.specs.declared.spans.Span.{Span}
use Rattle.flow_recv.specs.Receiver.{Receiver, held_in, through_in}

-- the blocks of 1,024 bytes that are free of 2,097,152 bytes (own)
abbrev pub free_blocks : ℕ → ℕ
free_blocks held = (2097152 - held) / 1024

-- how many numbers are missing above a number, and how many then aren't, each less 1
abbrev pub pair_bytes : ℕ → Span → List ℕ
pair_bytes after s = vlu (s.first - after - 2) ++ vlu (s.last - s.first)

-- as many pairs, from the lowest one on, as fit into so many bytes
abbrev pub pairs_in : ℕ → ℕ → List Span → List ℕ
pairs_in room after [] = []
pairs_in room after (s ∷ later) =
    if nat_lt room (length (pair_bytes after s)) then []
    else pair_bytes after s ++ pairs_in (room - length (pair_bytes after s)) s.last later

-- the spans of these pairs, each by its first and its last number
abbrev pub spans_in : ℕ → ℕ → List Span → List (ℕ × ℕ)
spans_in room after [] = []
spans_in room after (s ∷ later) =
    if nat_lt room (length (pair_bytes after s)) then []
    else (s.first, s.last) ∷ spans_in (room - length (pair_bytes after s)) s.last later

abbrev pub later_spans : List Span → List Span
later_spans [] = []
later_spans (s ∷ later) = later

-- the flow, the free blocks and the number at or below which none is missing
abbrev pub ack_head : ℕ → Receiver → List ℕ
ack_head flow r = vlu flow ++ vlu (free_blocks (held_in r.runs)) ++ vlu (through_in r)

abbrev pub ack_payload : ℕ → ℕ → Receiver → List ℕ
ack_payload flow room r = ack_head flow r ++ pairs_in (room - length (ack_head flow r))
    (through_in r) (later_spans r.spans)

-- the pairs of an ack in so many bytes tell of the receiver's spans above the first, as many of
-- them as fit
abbrev pub TellsSpans : ℕ → ℕ → Receiver → Type 0
TellsSpans flow room r =
    PairsTell (through_in r) (spans_in (room - length (ack_head flow r)) (through_in r)
    (later_spans r.spans)) (pairs_in (room - length (ack_head flow r)) (through_in r)
    (later_spans r.spans))

-- a chunk of type 0x51, its length, and a payload of at most so many bytes
abbrev pub ack_bytes : ℕ → ℕ → Receiver → List ℕ
ack_bytes flow room r = 81 ∷ to_be_bytes w16 (length (ack_payload flow room r))
    ++ ack_payload flow room r
