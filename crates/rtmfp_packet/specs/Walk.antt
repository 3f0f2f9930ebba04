-- The walk over the chunks of a packet.
use Rattle.std.specs.Prelude.{ℕ, suc, ◌+◌, ◌*◌, ◌==◌, ◌||◌, nat_le, not, Bool, List, [], ◌∷◌, length, take, drop, filter, if◌then◌else◌}
use Rattle.rtmfp_packet.specs.Spelling.{Chunk}

-- what stands behind a head: chunks, and padding
pub record Body : Type 0 where
  pub chunks : List Chunk
  pub padding : List ℕ

abbrev pub then_body : Chunk → Body → Body
then_body chunk body = record { chunks = chunk ∷ body.chunks; padding = body.padding }

abbrev pub only_padding : List ℕ → Body
only_padding b = record { chunks = []; padding = b }

-- the first chunk and what follows it, for at most so many chunks
abbrev pub walk : ℕ → List ℕ → Body
walk (suc n) (kind ∷ high ∷ low ∷ rest) =
    if nat_le (high * 256 + low) (length rest)
    then then_body (record { kind = kind; payload = take (high * 256 + low) rest })
    (walk n (drop (high * 256 + low) rest))
    else only_padding (kind ∷ high ∷ low ∷ rest)
walk n b = only_padding b

abbrev pub body_of : List ℕ → Body
body_of b = walk (length b) b

-- a chunk with the offset of its type byte in the packet
pub record Placed : Type 0 where
  pub kind : ℕ
  pub at : ℕ
  pub payload : List ℕ

-- types that are passed over
abbrev pub is_ignored : ℕ → Bool
is_ignored kind = (kind == 0) || (kind == 255)

-- the chunks with their offsets, where the first begins at `at`
abbrev pub all_placed_from : ℕ → List Chunk → List Placed
all_placed_from at [] = []
all_placed_from at (chunk ∷ chunks) =
    record { kind = chunk.kind; at = at; payload = chunk.payload }
    ∷ all_placed_from (at + (3 + length chunk.payload)) chunks

-- the chunks that are not passed over
abbrev pub visible : List Placed → List Placed
visible chunks = filter (λ chunk. not (is_ignored chunk.kind)) chunks
