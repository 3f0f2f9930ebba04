use Rattle.std.proofs.Common.{rules, subst, ap, ◌∙◌}
use Rattle.rtmfp_chunks.specs.Chunk.{chunk_of}
use Rattle.rtmfp_chunks.specs.declared.view.ChunkView.{ChunkView}
use Rattle.startup.specs.Attempts.{lowest, has_tag}
use Rattle.startup.specs.Judging.{IsGreeted}
use Rattle.endpoint_model.specs.State.{State}
use Rattle.end_chunks.specs.Judging.{view_done}
use Rattle.end_chunks.proofs.Found.{hello_does}
use Rattle.end_chunks.proofs.judging.judge_view.Goals as goal

-- so that a wrong body is refused fast
pub returns-in-CloseAck-clause-ok : goal.returns-in-CloseAck-clause-ok
returns-in-CloseAck-clause-ok c = search rules

pub returns-in-Ok-clause-ok : goal.returns-in-Ok-clause-ok
returns-in-Ok-clause-ok c =
    let s : State = c.args.end.now in
    let tag = c.in-RHello.tag.now in
    let cert = c.in-RHello.cert.now in
    let greeting = c.in-Ok.greeting in
    let at : IsGreeted s.startup greeting (lowest (has_tag tag) s.startup.attempts) cert =
    subst (λ (t : State). IsGreeted t.startup greeting (lowest (has_tag tag) t.startup.attempts) cert) c.end.view_is c.in-Ok.ensures.greeted in
    record {
      so = ((lowest (has_tag tag) s.startup.attempts, (cert, at)), c.in-Ok.ensures.cookie);
      does_so = λ draws. ap (λ (v : ChunkView). view_done s c.args.place c.args.from.now (chunk_of v)) c.in-RHello.is ∙ hello_does s c.args.place c.args.from.now tag c.in-RHello.cookie.now cert greeting at;
    }
