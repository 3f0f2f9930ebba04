use Rattle.std.proofs.Common.{List, ℕ, ap, ◌∙◌}
use Rattle.rtmfp_packet.specs.Head.{head_bytes}
use Rattle.rtmfp_chunks.specs.Chunk.{Chunk, chunk_of}
use Rattle.rtmfp_chunks.specs.Writing.{chunk_bytes}
use Rattle.session_core.specs.Session.{head_at}
use Rattle.session_table.specs.Table.{packet_sealed, sealed_of}
use Rattle.session_table.proofs.SealedParts.{chunk_written}
use Rattle.session_table.proofs.sealing.seal_piece_in.Goals as goal

pub returns-clause-answer : goal.returns-clause-answer
returns-clause-answer c =
    let written = chunk_written c.write_chunk.result (head_at c.args.session.now c.args.moment) c.begin_packet-packet.result c.write_chunk.new.out (chunk_of c.fragment-chunk.result) c.fragment-chunk.ensures.short
    (c.begin_packet-packet.ensures.bytes ∙ ap head_bytes c.head.ensures) c.write_chunk.ensures.no_room.0 c.write_chunk.ensures.ok in
    c.seal_packet.ensures.answer ∙ ap (λ (packet : List ℕ). packet_sealed packet c.args.session.now) written
    ∙ ap (λ (chunk : Chunk). sealed_of c.args.moment (chunk_bytes chunk) c.args.session.now) c.fragment-chunk.ensures.chunk
