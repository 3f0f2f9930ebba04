use Rattle.std.proofs.Common.{List, sym, subst}
use Rattle.rtmfp_packet.specs.Walk.{Placed}
use Rattle.rtmfp_packet.specs.Chunks.{left, shown}
use Rattle.endpoint_model.specs.Keying.{chunks_of}
use Rattle.log_outs.specs.Keyings.{ChunkMay}
use Rattle.log_outs.proofs.Chunks.{SoFar, at_first, one_more, not_one, all_are}
use Rattle.log_outs.proofs.keyings.keyings_may.Goals as goal

pub loop-chunk-init : goal.loop-chunk-init
loop-chunk-init c =
    subst (λ (cs : List Placed). SoFar c.args.sid (λ id. ChunkMay c.args.sender.now c.args.why.now c.args.context.now id) (chunks_of c.args.packet.now) cs) (sym c.chunks-chunks.ensures)
    (at_first c.args.sid (λ id. ChunkMay c.args.sender.now c.args.why.now c.args.context.now id) (chunks_of c.args.packet.now))

pub returns-then-not-chunk_may : goal.returns-then-not-chunk_may
returns-then-not-chunk_may c =
    not_one c.args.sid (λ id. ChunkMay c.args.sender.now c.args.why.now c.args.context.now id) (chunks_of c.args.packet.now) (left c.loop-chunk.chunks) (left c.next.new.self) (shown c.in-Some.chunk) c.chunk_may.result
    c.loop-chunk.invariant c.in-Some.ensures.steps c.chunk_may.ensures c.if-not-chunk_may.true

pub loop-chunk-preserved : goal.loop-chunk-preserved
loop-chunk-preserved c =
    one_more c.args.sid (λ id. ChunkMay c.args.sender.now c.args.why.now c.args.context.now id) (chunks_of c.args.packet.now) (left c.loop-chunk.chunks) (left c.next.new.self) (shown c.in-Some.chunk) c.chunk_may.result
    c.loop-chunk.invariant c.in-Some.ensures.steps c.chunk_may.ensures c.if-not-chunk_may.false

pub returns : goal.returns
returns c =
    all_are c.args.sid (λ id. ChunkMay c.args.sender.now c.args.why.now c.args.context.now id) (chunks_of c.args.packet.now) (left c.loop-chunk.chunks) c.loop-chunk.invariant c.in_default.ensures.steps.0
