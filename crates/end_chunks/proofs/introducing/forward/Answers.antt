use Rattle.std.proofs.Common.{ℕ, ◌≤◌, List, length, arith}
use Rattle.rtmfp_chunks.specs.Chunk.{FIHello}
use Rattle.rtmfp_chunks.specs.Writing.{chunk_bytes}
use Rattle.endpoint_model.specs.Sending.{limit_of}
use Rattle.end_state.specs.Steps.{datagrams_for}
use Rattle.end_chunks.proofs.Datagrams.{few_home, longer_takes_more}
use Rattle.end_chunks.proofs.Introduced.{forwarded_length}
use Rattle.end_chunks.proofs.introducing.forward.Goals as goal

pub send_home-requires-clause-enough : goal.send_home-requires-clause-enough
send_home-requires-clause-enough c =
    let body : List ℕ = chunk_bytes (FIHello c.args.epd.now c.observed.result c.args.tag.now) in
    let short : length body ≤ 288 = forwarded_length c.args.epd.now c.args.tag.now c.observed.result c.requires.selected.0 c.requires.tag c.requires.selected.1 in
    let fewer : datagrams_for (limit_of c.args.end.now) (length body) ≤ datagrams_for (limit_of c.args.end.now) 288 = longer_takes_more (limit_of c.args.end.now) (length body) 288 (omega arith) short in
    omega (arith, fewer, c.requires.enough)

pub send_home-requires-clause-short : goal.send_home-requires-clause-short
send_home-requires-clause-short c =
    omega (arith, forwarded_length c.args.epd.now c.args.tag.now c.observed.result c.requires.selected.0 c.requires.tag c.requires.selected.1)

pub returns-clause-free : goal.returns-clause-free
returns-clause-free c =
    let body : List ℕ = chunk_bytes (FIHello c.args.epd.now c.observed.result c.args.tag.now) in
    let short : length body ≤ 288 = forwarded_length c.args.epd.now c.args.tag.now c.observed.result c.requires.selected.0 c.requires.tag c.requires.selected.1 in
    omega (
      arith,
      c.send_home.ensures.free,
      few_home c.args.end.now c.in-Some.near body,
      longer_takes_more (limit_of c.args.end.now) (length body) 288 (omega arith) short,
      c.requires.enough,
    )
