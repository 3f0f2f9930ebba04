use Rattle.rtmfp_chunks.proofs.ReadingLaws.{reading_is, reading_same}
use Rattle.rtmfp_chunks.proofs.reading.read_chunk.Goals as goal

pub returns-clause-only : goal.returns-clause-only
returns-clause-only c other other_reads = reading_same _ _ other _ other_reads c.read_kind.ensures

pub returns-clause-exact : goal.returns-clause-exact
returns-clause-exact c = reading_is _ _ _ c.read_kind.ensures
