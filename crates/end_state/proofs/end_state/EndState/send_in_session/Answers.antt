use Rattle.std.specs.FinMap.{get}
use Rattle.rtmfp_chunks.specs.Chunk.{chunk_of}
use Rattle.rtmfp_chunks.specs.Writing.{chunk_bytes}
use Rattle.end_state.specs.Stored.{state_of}
use Rattle.end_state.proofs.InPieces.{body_may_go}
use Rattle.end_state.proofs.InSession.{sent_one}
use Rattle.end_state.proofs.end_state.EndState.send_in_session.Goals as goal

pub send_packed-requires-clause-may_go : goal.send_packed-requires-clause-may_go
send_packed-requires-clause-may_go c =
    let i = c.self.inside in
    body_may_go (state_of i.settings i.moment i.sealed i.limit i.groups i.startup i.sessions.rows) c.args.self.now c.limit-limit.result i.moment _ c.args.blanks (chunk_bytes (chunk_of c.args.chunk.now)) (get i.sessions.rows c.args.near)
    c.seal-packed.result c.self.view_is c.limit-limit.ensures.value c.limit-limit.ensures.least c.blanks.view_is c.requires.enough c.seal-packed.ensures.answer

pub returns : goal.returns
returns c =
    let i = c.self.inside in
    sent_one i.settings i.moment i.sealed i.limit i.groups i.startup i.sessions.rows c.seal-packed.new.self.rows c.args.self.now c.send_packed.new.self c.args.near c.limit-limit.result c.args.to.now (chunk_bytes (chunk_of c.args.chunk.now))
    c.seal-packed.result c.args.out.now c.send_packed.new.out c.self.view_is c.limit-limit.ensures.value c.seal-packed.ensures.answer c.seal-packed.ensures.rows c.send_packed.ensures
