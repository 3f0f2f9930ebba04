use Rattle.std.proofs.Common.{OnOk, ap, ◌∙◌, subst, arith}
use Rattle.rtmfp_packet.specs.Chunks.{shown}
use Rattle.endpoint_model.specs.Effects.{discards_for}
use Rattle.endpoint_model.specs.State.{Did, Done}
use Rattle.end_chunks.proofs.Fragments.{fragment_cause, fragment_did, another_kind, fragment_quiet, fragment_whole, no_whole}
use Rattle.end_chunks.proofs.Pieced.{if_ok}
use Rattle.end_chunks.proofs.Ways.{gone_fragment}
use Rattle.end_chunks.proofs.chunks.take_chunk.Goals as goal

pub returns-then-chunk-eq-FRAGMENT-clause-ok : goal.returns-then-chunk-eq-FRAGMENT-clause-ok
returns-then-chunk-eq-FRAGMENT-clause-ok c =
    subst (λ (d : Did). OnOk c.take_piece-taken.result (Done d c.take_piece-taken.new.end c.args.out.now c.take_piece-taken.new.out))
    (fragment_did c.args.end.now c.args.place c.args.walk.now c.args.from.now c.args.draws.now (shown c.args.chunk.now) c.if-chunk-eq-FRAGMENT.true) c.take_piece-taken.ensures.ok

pub returns-then-chunk-eq-FRAGMENT-clause-whole : goal.returns-then-chunk-eq-FRAGMENT-clause-whole
returns-then-chunk-eq-FRAGMENT-clause-whole c =
    if_ok c.take_piece-taken.result
    (λ plain is. is ∙ fragment_whole c.args.end.now c.args.place c.args.walk.now c.args.from.now c.args.draws.now (shown c.args.chunk.now) c.if-chunk-eq-FRAGMENT.true)
    c.take_piece-taken.ensures.whole

pub returns-then-chunk-eq-FRAGMENT-clause-walk : goal.returns-then-chunk-eq-FRAGMENT-clause-walk
returns-then-chunk-eq-FRAGMENT-clause-walk c =
    gone_fragment c.args.walk.now c.go_on.new.walk (shown c.args.chunk.now) c.if-chunk-eq-FRAGMENT.true c.go_on.ensures.keyed c.go_on.ensures.gathered c.go_on.ensures.cursor

pub returns-then-chunk-eq-FRAGMENT-clause-enough : goal.returns-then-chunk-eq-FRAGMENT-clause-enough
returns-then-chunk-eq-FRAGMENT-clause-enough c quiet room =
    c.take_piece-taken.ensures.enough
    (fragment_quiet c.args.end.now c.args.place c.args.walk.now c.args.from.now c.args.draws.now (shown c.args.chunk.now) c.if-chunk-eq-FRAGMENT.true quiet)
    (omega (arith, room, ap discards_for (fragment_cause c.args.end.now c.args.place c.args.walk.now c.args.from.now c.args.draws.now (shown c.args.chunk.now) c.if-chunk-eq-FRAGMENT.true)))

pub returns-in-Ok-clause-whole : goal.returns-in-Ok-clause-whole
returns-in-Ok-clause-whole c = no_whole c.args.end.now c.args.place _ (shown c.args.chunk.now) (another_kind c.args.chunk.now.kind c.if-chunk-eq-FRAGMENT.false)
