-- Chunks that are written one after another are read so.
use Rattle.std.specs.Prelude.{◌==◌, if◌then◌else◌}
use Rattle.std.proofs.Common.{Result, ◌≡◌, ℕ, ◌+◌, ◌^◌, ◌<◌, Bool, true, false, cond, not, List, [], ◌∷◌}
use Rattle.std.proofs.Common.{◌++◌}
use Rattle.std.proofs.Common.{Option, None, Ok, length, map, refl, sym, ap, ◌∙◌, arith}
use Rattle.std.proofs.Common.{append_assoc}
use Rattle.std.specs.List.{AllByRecursion, flat_map}
use Rattle.rtmfp_packet.specs.Spelling.{Chunk as Written, IsChunk, chunk_bytes}
use Rattle.rtmfp_packet.specs.Walk.{Placed, is_ignored, all_placed_from, visible}
use Rattle.rtmfp_data_chunks.specs.declared.user_data.Numbers.{Numbers}
use Rattle.rtmfp_data_chunks.specs.declared.view.DataFault.{DataFault}
use Rattle.rtmfp_data_chunks.specs.Chunk.{DataChunk, Data, Next, AckBitmap, AckRanges, Probe}
use Rattle.rtmfp_data_chunks.specs.Chunk.{Exception}
use Rattle.rtmfp_data_chunks.specs.Reader.{data_reading}
use Rattle.rtmfp_data_chunks.specs.Spelling.{kind_of, before_next}
use Rattle.rtmfp_data_chunks.specs.Writing.{payload_bytes, data_bytes}
use Rattle.flow_history.specs.Deeds.{Piece}
use Rattle.rtmfp_chunks.specs.FieldReading.{chunk_reading}
use Rattle.session_deeds.specs.Pieces.{pieces_in, pieces_read, parts_read, pieces_behind, IsPutBehind}

-- a chunk as it stands in a packet
abbrev pub written : DataChunk → Written
written c = record { kind = kind_of c; payload = payload_bytes c }

-- each is read behind the one before it
abbrev pub AreRead : Option Numbers → List DataChunk → Type 0
AreRead last [] = Unit {0}
AreRead last (c ∷ later) =
    (data_reading last (kind_of c) (payload_bytes c) ≡ Ok c) × AreRead (before_next (Ok c)) later

-- what the chunk after these stands behind
abbrev pub cursor_after : Option Numbers → List DataChunk → Option Numbers
cursor_after last [] = last
cursor_after last (c ∷ later) = cursor_after (before_next (Ok c)) later

pub read_joined : (last : Option Numbers) (xs ys : List DataChunk) → AreRead last xs →
    AreRead (cursor_after last xs) ys → AreRead last (xs ++ ys)
read_joined last [] ys h k = k
read_joined last (c ∷ xs) ys h k = (h.0, read_joined (before_next (Ok c)) xs ys h.1 k)

pub cursor_joined : (last : Option Numbers) (xs ys : List DataChunk) →
    cursor_after last (xs ++ ys) ≡ cursor_after (cursor_after last xs) ys
cursor_joined last [] ys = refl
cursor_joined last (c ∷ xs) ys = cursor_joined (before_next (Ok c)) xs ys

abbrev pub IsShort : DataChunk → Type 0
IsShort c = length (payload_bytes c) < 2 ^ 16

module _ (P : DataChunk → Type 0) where
  pub each_joined : (xs ys : List DataChunk) → AllByRecursion P xs → AllByRecursion P ys →
      AllByRecursion P (xs ++ ys)
  each_joined [] ys h k = k
  each_joined (c ∷ xs) ys h k = (h.0, each_joined xs ys h.1 k)

pub bytes_joined : (xs ys : List DataChunk) →
    flat_map data_bytes (xs ++ ys) ≡ flat_map data_bytes xs ++ flat_map data_bytes ys
bytes_joined [] ys = refl
bytes_joined (c ∷ xs) ys = ap (λ (l : List ℕ). data_bytes c ++ l) (bytes_joined xs ys)
    ∙ sym (append_assoc (data_bytes c) (flat_map data_bytes xs) (flat_map data_bytes ys))

pub pieces_joined : (xs ys : List DataChunk) →
    flat_map pieces_in (xs ++ ys) ≡ flat_map pieces_in xs ++ flat_map pieces_in ys
pieces_joined [] ys = refl
pieces_joined (c ∷ xs) ys = ap (λ (l : List Piece). pieces_in c ++ l) (pieces_joined xs ys)
    ∙ sym (append_assoc (pieces_in c) (flat_map pieces_in xs) (flat_map pieces_in ys))

-- ---- as a packet

kind_small : (c : DataChunk) → kind_of c < 2 ^ 8
kind_small (Data user) = omega arith
kind_small (Next user) = omega arith
kind_small (AckBitmap flow blocks upto bits) = omega arith
kind_small (AckRanges flow blocks upto pairs) = omega arith
kind_small (Probe flow) = omega arith
kind_small (Exception flow code) = omega arith

is_shown : (c : DataChunk) → not (is_ignored (kind_of c)) ≡ true
is_shown (Data user) = refl
is_shown (Next user) = refl
is_shown (AckBitmap flow blocks upto bits) = refl
is_shown (AckRanges flow blocks upto pairs) = refl
is_shown (Probe flow) = refl
is_shown (Exception flow code) = refl

no_part : (c : DataChunk) → (kind_of c == 0x7f) ≡ false
no_part (Data user) = refl
no_part (Next user) = refl
no_part (AckBitmap flow blocks upto bits) = refl
no_part (AckRanges flow blocks upto pairs) = refl
no_part (Probe flow) = refl
no_part (Exception flow code) = refl

each_chunk : (cs : List DataChunk) → AllByRecursion IsShort cs →
    AllByRecursion IsChunk (map written cs)
each_chunk [] h = tt
each_chunk (c ∷ cs) h = (record { kind = kind_small c; size = h.0 }, each_chunk cs h.1)

same_bytes : (cs : List DataChunk) → flat_map data_bytes cs ≡ flat_map chunk_bytes (map written cs)
same_bytes [] = refl
same_bytes (c ∷ cs) = ap (λ (l : List ℕ). data_bytes c ++ l) (same_bytes cs)

read_all : (last : Option Numbers) (cs : List DataChunk) (at : ℕ) → AreRead last cs →
    pieces_behind last (visible (all_placed_from at (map written cs))) ≡ flat_map pieces_in cs
read_all last [] at h = refl
read_all last (c ∷ cs) at h =
    let here : Placed = record { kind = kind_of c; at = at; payload = payload_bytes c } in
    let rest : List Placed =
    visible (all_placed_from (at + (3 + length (payload_bytes c))) (map written cs)) in
    ap (λ (b : Bool). pieces_behind last (cond b (here ∷ rest) rest)) (is_shown c)
    ∙ ap (λ (b : Bool). (if b then parts_read (chunk_reading (kind_of c) (payload_bytes c)) else pieces_read (data_reading last (kind_of c) (payload_bytes c)))
    ++ pieces_behind (before_next (data_reading last (kind_of c) (payload_bytes c))) rest) (no_part c)
    ∙ ap (λ (r : Result DataChunk DataFault). pieces_read
    r ++ pieces_behind (before_next r) rest) h.0
    ∙ ap (λ (l : List Piece). pieces_in c ++ l)
    (read_all (before_next (Ok c)) cs (at + (3 + length (payload_bytes c))) h.1)

-- such chunks behind a packet's front
pub put_behind : (front packet : List ℕ) (cs : List DataChunk) →
    packet ≡ front ++ flat_map data_bytes cs → AllByRecursion IsShort cs → AreRead None cs →
    IsPutBehind front packet (flat_map pieces_in cs)
put_behind front packet cs is short read = record {
  chunks = map written cs;
  whole = is ∙ ap (λ (l : List ℕ). front ++ l) (same_bytes cs);
  each = each_chunk cs short;
  read = λ at. read_all None cs at read;
}
