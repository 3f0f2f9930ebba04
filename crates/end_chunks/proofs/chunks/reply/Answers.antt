use Rattle.std.proofs.Common.{rules, arith, ℕ, ◌<◌, length}
use Rattle.rtmfp_chunks.specs.Chunk.{chunk_of}
use Rattle.rtmfp_chunks.specs.Writing.{chunk_bytes}
use Rattle.endpoint_model.specs.Sending.{limit_of}
use Rattle.end_chunks.proofs.Datagrams.{longer_takes_more}
use Rattle.end_chunks.proofs.chunks.reply.Goals as goal

-- so that a wrong body is refused fast
pub returns-clause-ok : goal.returns-clause-ok
returns-clause-ok c = search rules

pub send_in_session-requires-clause-enough : goal.send_in_session-requires-clause-enough
send_in_session-requires-clause-enough c =
    let limit : ℕ = limit_of c.args.end.now in
    let wide : 32 < limit = omega arith in
    omega (
      arith,
      longer_takes_more limit (length (chunk_bytes (chunk_of c.args.chunk.now))) c.most_bytes.result wide c.most_bytes.ensures.most,
      c.in_ok-blanks.ensures.enough,
    )
