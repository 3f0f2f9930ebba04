use Rattle.std.proofs.Common.{List, ℕ, ap, ◌∙◌, subst}
use Rattle.rtmfp_packet.specs.Head.{head_bytes}
use Rattle.rtmfp_chunks.specs.Chunk.{chunk_of}
use Rattle.session_core.specs.Session.{head_at}
use Rattle.session_table.specs.Table.{IsPacked, after_packed}
use Rattle.session_table.proofs.SealedParts.{chunk_written}
use Rattle.session_table.proofs.sealing.pack_chunk.Goals as goal

pub returns-clause-answer : goal.returns-clause-answer
returns-clause-answer c =
    let written = chunk_written c.write_chunk.result (head_at c.args.session.now c.args.moment) c.begin_packet-packet.result c.write_chunk.new.out (chunk_of c.args.chunk.now) c.requires.short
    (c.begin_packet-packet.ensures.bytes ∙ ap head_bytes c.head.ensures) c.write_chunk.ensures.no_room.0 c.write_chunk.ensures.ok in
    subst (λ (packet : List ℕ). IsPacked c.args.limit packet c.args.session.now c.pack.result) written c.pack.ensures.answer

pub returns-clause-session : goal.returns-clause-session
returns-clause-session c =
    let written = chunk_written c.write_chunk.result (head_at c.args.session.now c.args.moment) c.begin_packet-packet.result c.write_chunk.new.out (chunk_of c.args.chunk.now) c.requires.short
    (c.begin_packet-packet.ensures.bytes ∙ ap head_bytes c.head.ensures) c.write_chunk.ensures.no_room.0 c.write_chunk.ensures.ok in
    c.pack.ensures.session ∙ ap (λ (packet : List ℕ). after_packed c.args.limit packet c.args.session.now) written
