use Rattle.std.proofs.Common.{IsOk, OnOk, Err, false, Option, refl, sym, ap, ◌∙◌, subst, arith}
use Rattle.rtmfp_base.specs.declared.cause.Cause.{Cause}
use Rattle.endpoint_model.specs.Effects.{discarded_or, discards_for, effect}
use Rattle.endpoint_model.specs.State.{Done}
use Rattle.rtmfp_packet.specs.Chunks.{shown as shown_chunk}
use Rattle.rtmfp_data_chunks.specs.Spelling.{shown}
use Rattle.end_chunks.proofs.FlowTaken.{not_for_memory, read_discarded, read_taken, room_to_discard}
use Rattle.end_chunks.proofs.Ways.{gone_behind, gone_unknown, unknown_cause}
use Rattle.end_chunks.proofs.chunks.take_other.Goals as goal

pub returns-in-Ok-clause-ok : goal.returns-in-Ok-clause-ok
returns-in-Ok-clause-ok c =
    read_taken c.args.end.now c.args.place c.args.walk.now c.args.from.now c.args.draws.now (shown_chunk c.args.chunk.now) (shown c.read-read.result) c.read-read.ensures.exact
    c.in-OfFlows.ensures c.take_read.result c.take_read.ensures.cause c.take_read.new.end c.args.out.now c.take_read.new.out (subst IsOk (sym c.in-Ok.is) refl) c.in-Ok.ensures.ok

pub returns-in-Err-Cause-clause-ok : goal.returns-in-Err-Cause-clause-ok
returns-in-Err-Cause-clause-ok c =
    read_discarded c.args.end.now c.args.place c.args.walk.now c.args.from.now c.args.draws.now (shown_chunk c.args.chunk.now) (shown c.read-read.result) c.read-read.ensures.exact
    c.in-OfFlows.ensures c.take_read.result c.take_read.ensures.cause c.discard.result c.in-Err-Cause.cause c.take_read.new.end c.discard.new.self
    c.args.out.now c.take_read.new.out c.discard.new.out (c.in-Err-Cause.is ∙ ap Err c.in-Err-Cause.field-0-is) c.in-Err-Cause.ensures.err c.discard.ensures.ok

pub returns-in-Err-Cause-clause-enough : goal.returns-in-Err-Cause-clause-enough
returns-in-Err-Cause-clause-enough c quiet room =
    room_to_discard c.args.end.now c.args.place c.args.walk.now c.args.from.now c.args.draws.now (shown_chunk c.args.chunk.now) (shown c.read-read.result) c.read-read.ensures.exact
    c.in-OfFlows.ensures c.take_read.result c.take_read.ensures.cause (IsOk c.discard.result) c.in-Err-Cause.cause c.take_read.new.end c.args.out.now c.take_read.new.out
    (c.in-Err-Cause.is ∙ ap Err c.in-Err-Cause.field-0-is) c.in-Err-Cause.ensures.err quiet room c.discard.ensures.enough

pub returns-in-Err-Memory-clause-enough : goal.returns-in-Err-Memory-clause-enough
returns-in-Err-Memory-clause-enough c quiet room =
    not_for_memory c.args.end.now c.args.place c.args.walk.now c.args.from.now c.args.draws.now (shown_chunk c.args.chunk.now) (shown c.read-read.result) c.read-read.ensures.exact
    c.in-OfFlows.ensures c.take_read.result c.take_read.ensures.cause _ (c.in-Err-Memory.is ∙ ap Err c.in-Err-Memory.field-0-is) quiet c.take_read.ensures.quiet

pub returns-in-Unknown-clause-ok : goal.returns-in-Unknown-clause-ok
returns-in-Unknown-clause-ok c =
    let P : Option Cause → Type 0 = λ o. OnOk c.discard-in-Unknown.result
    (Done (discarded_or c.args.end.now c.args.chunk.now.at o (effect c.args.end.now c.args.place c.args.walk.now c.args.from.now c.args.draws.now (shown_chunk c.args.chunk.now)))
    c.discard-in-Unknown.new.self c.args.out.now c.discard-in-Unknown.new.out) in
    subst P (sym (unknown_cause c.args.end.now c.args.place c.args.walk.now c.args.from.now (shown_chunk c.args.chunk.now) c.in-Unknown.ensures.known)) c.discard-in-Unknown.ensures.ok

pub returns-in-Unknown-clause-enough : goal.returns-in-Unknown-clause-enough
returns-in-Unknown-clause-enough c quiet room =
    c.discard-in-Unknown.ensures.enough
    (omega (arith, ap discards_for (unknown_cause c.args.end.now c.args.place c.args.walk.now c.args.from.now (shown_chunk c.args.chunk.now) c.in-Unknown.ensures.known), room))

pub returns-in-Unknown-clause-walk : goal.returns-in-Unknown-clause-walk
returns-in-Unknown-clause-walk c =
    gone_unknown c.args.walk.now c.go_on.new.walk (shown_chunk c.args.chunk.now) false c.go_on.ensures.keyed c.go_on.ensures.gathered c.go_on.ensures.cursor c.in-Unknown.ensures refl

pub returns-in-Ok-verdict-clause-walk : goal.returns-in-Ok-verdict-clause-walk
returns-in-Ok-verdict-clause-walk c =
    gone_behind c.args.walk.now c.go_on-in-Judged.new.walk (shown_chunk c.args.chunk.now) c.is_initiator_keying.result c.go_on-in-Judged.ensures.keyed c.go_on-in-Judged.ensures.gathered c.go_on-in-Judged.ensures.cursor
    c.in-Judged.kind c.in-Judged.ensures.0 c.in-Judged.ensures.1 c.is_initiator_keying.ensures

pub returns-in-Err-clause-walk : goal.returns-in-Err-clause-walk
returns-in-Err-clause-walk c =
    gone_behind c.args.walk.now c.go_on-in-Judged.new.walk (shown_chunk c.args.chunk.now) c.is_initiator_keying.result c.go_on-in-Judged.ensures.keyed c.go_on-in-Judged.ensures.gathered c.go_on-in-Judged.ensures.cursor
    c.in-Judged.kind c.in-Judged.ensures.0 c.in-Judged.ensures.1 c.is_initiator_keying.ensures
