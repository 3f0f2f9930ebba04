-- A plain packet (RFC 7016 section 2.2.4): its head, then chunk after chunk, then padding.
use Rattle.std.specs.Prelude.{◌≡◌, ℕ, ◌+◌, ◌*◌, ◌^◌, ◌<◌, List, ◌∷◌, ◌++◌, length}
use Rattle.std.specs.List.{AllByRecursion, flat_map}
use Rattle.std.specs.Int.{to_be_bytes, w16}
use Rattle.rtmfp_packet.specs.declared.head.PacketHead.{PacketHead}
use Rattle.rtmfp_packet.specs.Head.{HeadSpells}

-- a chunk: its type and its payload
pub record Chunk : Type 0 where
  pub kind : ℕ
  pub payload : List ℕ

pub record IsChunk (chunk : Chunk) : Type 0 where
  pub kind : chunk.kind < 2 ^ 8
  pub size : length chunk.payload < 2 ^ 16

-- the type, the length of the payload in two bytes, and the payload
abbrev pub chunk_bytes : Chunk → List ℕ
chunk_bytes chunk = chunk.kind ∷ (to_be_bytes w16 (length chunk.payload) ++ chunk.payload)

-- own: what is shorter than a chunk's head, or has a length that passes its end, is padding
abbrev pub IsPadding : List ℕ → Type 0
IsPadding (kind ∷ high ∷ low ∷ rest) = length rest < high * 256 + low
IsPadding short = Unit {0}

-- the bytes are a packet of this head, these chunks and this padding
pub record PacketSpells (head : PacketHead) (chunks : List Chunk) (padding : List ℕ) (b : List ℕ)
    : Type 0 where
  pub front : List ℕ
  pub head_spelled : HeadSpells head front
  pub each : AllByRecursion IsChunk chunks
  pub is_padding : IsPadding padding
  pub joined : b ≡ front ++ flat_map chunk_bytes chunks ++ padding
