-- What is said of the pieces of every packet.
use Rattle.std.specs.Prelude.{◌≡◌, ℕ, ◌+◌, ◌*◌, ◌<◌, ◌==◌, ◌||◌, nat_lt, if◌then◌else◌, List, length, take, drop, slice_get, Option, Some, None}
use Rattle.rtmfp_fragments.specs.Pieces.{PieceParts, piece, pieces_of}

-- Before the piece with the number k there are k stretches. The first piece is there even where the
-- packet is empty, any other where some bytes are left for it. More follow where the packet goes on.
abbrev pub stretch_at : List ℕ → ℕ → ℕ → Option PieceParts
stretch_at packet size k =
    if (k == 0) || nat_lt (k * size) (length packet)
    then Some (piece k (nat_lt ((k + 1) * size) (length packet))
    (take size (drop (k * size) packet)))
    else None

-- The pieces of a packet are its stretches, one after another.
abbrev pub CutsIntoStretches : Type 0
CutsIntoStretches = (packet : List ℕ) (size k : ℕ) → 0 < size
    → slice_get (pieces_of packet size) k ≡ stretch_at packet size k

-- A packet has more than 64 pieces exactly where it has more bytes than 64 pieces can have.
abbrev pub HasMorePieces : Type 0
HasMorePieces = (packet : List ℕ) (size : ℕ) → 0 < size
    → nat_lt 64 (length (pieces_of packet size)) ≡ nat_lt (64 * size) (length packet)
