-- Numbers of 64 bits, as those of chunks that were read.
use Rattle.std.specs.Prelude.{◌^◌, ◌<◌, ◌≤◌, Option, Some, None}
use Rattle.rtmfp_data_chunks.specs.declared.user_data.Numbers.{Numbers}
use Rattle.rtmfp_data_chunks.specs.Chunk.{UserParts, DataChunk, Data, Next}
use Rattle.rtmfp_data_chunks.specs.Spelling.{IsBehind}

-- of a user data chunk
pub record IsReadable (user : UserParts) : Type 0 where
  pub flow : user.flow < 2 ^ 64
  pub seq : user.seq < 2 ^ 64
  pub behind : IsBehind user.forward user.seq user.abandon

abbrev pub FitsIn : DataChunk → Type 0
FitsIn (Data user) = IsReadable user
FitsIn (Next user) = IsReadable user
FitsIn chunk = Unit {0}

-- the numbers of the chunk before
abbrev pub AreSmall : Option Numbers → Type 0
AreSmall None = Unit {0}
AreSmall (Some before) = (before.flow < 2 ^ 64) × (before.seq < 2 ^ 64)
    × (before.forward ≤ before.seq)
