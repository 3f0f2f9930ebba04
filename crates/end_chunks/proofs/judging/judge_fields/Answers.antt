use Rattle.std.specs.Prelude.{◌==◌}
use Rattle.std.proofs.Common.{ℕ, IfOk, ap, subst, ◌∙◌}
use Rattle.rtmfp_chunks.specs.Chunk.{chunk_of}
use Rattle.rtmfp_packet.specs.Chunks.{shown}
use Rattle.endpoint_model.specs.State.{Did}
use Rattle.end_chunks.specs.Judging.{Stands}
use Rattle.end_chunks.proofs.Told.{done_as_read, quiet_as_read}
use Rattle.end_chunks.proofs.judging.judge_fields.Goals as goal

pub judge_view-requires : goal.judge_view-requires
judge_view-requires c = ap (λ (k : ℕ). k == 0x7f) c.in-Ok.ensures.kind ∙ c.requires.apart

pub returns-clause-ok : goal.returns-clause-ok
returns-clause-ok c =
    subst (λ (d : Did). IfOk c.judge_view.result (Stands c.args.end.now c.args.place c.args.from.now (λ _. d)))
    (done_as_read c.args.end.now c.args.place c.args.from.now (shown c.args.chunk.now) (chunk_of c.in-Ok.view) c.in-Ok.ensures.reads c.in-Ok.ensures.kind) c.judge_view.ensures.ok

pub returns-clause-quiet : goal.returns-clause-quiet
returns-clause-quiet c quiet =
    c.judge_view.ensures.quiet (quiet_as_read c.args.end.now c.args.place c.args.from.now (shown c.args.chunk.now) (chunk_of c.in-Ok.view) c.in-Ok.ensures.reads c.in-Ok.ensures.kind c.requires.apart quiet)
