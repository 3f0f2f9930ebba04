use Rattle.std.proofs.Common.{refl}
use Rattle.rtmfp_chunks.specs.Chunk.{chunk_of, parts_of}
use Rattle.rtmfp_chunks.proofs.WritingLaws.{parts_bytes-spell}
use Rattle.rtmfp_chunks.proofs.writing.write_chunk.Goals as goal

pub returns-then-saturating_add-room-clause-spells : goal.returns-then-saturating_add-room-clause-spells
returns-then-saturating_add-room-clause-spells c = (refl, parts_bytes-spell (parts_of (chunk_of c.args.view.now)) c.payload_len-len.ensures.fits)

pub returns-clause-spells : goal.returns-clause-spells
returns-clause-spells c = (refl, parts_bytes-spell (parts_of (chunk_of c.args.view.now)) c.payload_len-len.ensures.fits)
