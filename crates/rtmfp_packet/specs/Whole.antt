-- What is seen of a packet that was read.
use Rattle.std.specs.Prelude.{ℕ, List}
use Rattle.rtmfp_packet.specs.declared.head.PacketHead.{PacketHead}
use Rattle.rtmfp_packet.specs.Spelling.{Chunk}

-- the head, the offset of the first chunk, the chunks, and the padding
pub record Whole : Type 0 where
  pub head : PacketHead
  pub start : ℕ
  pub chunks : List Chunk
  pub padding : List ℕ
