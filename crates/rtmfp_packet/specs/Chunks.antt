-- What is left of a walk over chunks.
use Rattle.std.specs.Prelude.{◌≡◌, ◌+◌, List, length}
use Rattle.rtmfp_packet.specs.declared.chunks.RawChunk.{RawChunk}
use Rattle.rtmfp_packet.specs.declared.chunks.Chunks.{Chunks}
use Rattle.rtmfp_packet.specs.Walk.{Placed, body_of, then_body, all_placed_from, visible}

abbrev pub shown : RawChunk → Placed
shown chunk = record { kind = chunk.kind; at = chunk.at; payload = chunk.payload.now }

-- the chunks that are left, those that are passed over included
abbrev pub all_left : Chunks → List Placed
all_left walk = all_placed_from walk.at (body_of walk.rest.now).chunks

-- the chunks that are left
abbrev pub left : Chunks → List Placed
left walk = visible (all_left walk)

-- one chunk is taken from what is left
pub record Steps (old : Chunks) (chunk : RawChunk) (new : Chunks) : Type 0 where
  pub body : body_of old.rest.now ≡ then_body
      (record { kind = chunk.kind; payload = chunk.payload.now }) (body_of new.rest.now)
  pub at : chunk.at ≡ old.at
  pub past : new.at ≡ old.at + (3 + length chunk.payload.now)
