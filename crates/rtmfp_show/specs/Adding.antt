-- Adding to a text.
use Rattle.std.specs.Prelude.{◌≡◌, ℕ, List, ◌++◌, Option}
use Rattle.rtmfp_packet.specs.declared.chunks.RawChunk.{RawChunk}
use Rattle.rtmfp_data_chunks.specs.declared.user_data.Numbers.{Numbers}
use Rattle.rtmfp_show.specs.ShowText.{FieldsText, chunk_line}

-- some text of this kind was added
abbrev pub Adds : (List ℕ → Type 0) → List ℕ → List ℕ → Type 0
Adds P old new = (text : List ℕ) × P text × (new ≡ old ++ text)

-- the line of a chunk was added
pub record AddsChunk (before : Option Numbers) (chunk : RawChunk) (old new : List ℕ)
    (after : Option Numbers) : Type 0 where
  pub fields : List ℕ
  pub told : FieldsText before chunk.kind chunk.payload.now fields after
  pub joined : new ≡ old ++ chunk_line chunk.at fields
