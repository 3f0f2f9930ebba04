use Rattle.std.proofs.Common.{rules}
use Rattle.rtmfp_chunks.specs.Chunk.{row_of}
use Rattle.rtmfp_chunks.specs.FieldReading.{chunk_at, row_at, field_then}
use Rattle.rtmfp_chunks.proofs.rows.read_ihello.Goals as goal

pub returns : goal.returns
unfolding chunk_at row_of row_at field_then
returns c = search rules
