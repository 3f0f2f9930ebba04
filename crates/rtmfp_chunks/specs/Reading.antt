-- How a payload reads.
use Rattle.std.specs.Prelude.{◌≡◌, ℕ, List, None, Result, Ok, Err}
use Rattle.rtmfp_chunks.specs.declared.view.ChunkView.{ChunkView}
use Rattle.rtmfp_chunks.specs.declared.reading.ChunkFault.{ChunkFault}
use Rattle.rtmfp_chunks.specs.declared.reading.ChunkFault.TheVariants.{Unknown, Malformed}
use Rattle.rtmfp_chunks.specs.Chunk.{Chunk, Spells, Breaks, chunk_of, row_of}

-- as a chunk that it spells, or not: no chunk has the type, or the first field that can't be read
-- is told
abbrev pub Reading : ℕ → List ℕ → Result Chunk ChunkFault → Type 0
Reading kind b (Ok chunk) = Spells chunk kind b
Reading kind b (Err (Unknown told)) = (told ≡ kind) × (row_of kind ≡ None)
Reading kind b (Err (Malformed at)) = Breaks kind b at

-- what a reader's answer shows
abbrev pub shown : Result ChunkView ChunkFault → Result Chunk ChunkFault
shown (Ok view) = Ok (chunk_of view)
shown (Err fault) = Err fault
