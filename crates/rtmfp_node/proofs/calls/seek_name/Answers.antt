use Rattle.std.proofs.Common.{refl, ap, length}
use Rattle.endpoint_model.specs.Event.{Seek}
use Rattle.endpoint_model.specs.Log.{answer_of_seek}
use Rattle.rtmfp_node.specs.Events.{event_of}
use Rattle.rtmfp_node.specs.Acting.{added}
use Rattle.rtmfp_node.proofs.Acts.{added_by, did_call, grown_from, noted_from, settled}
use Rattle.rtmfp_node.proofs.calls.seek_name.Goals as goal

pub note-requires : goal.note-requires
note-requires c =
    let grown = added_by c.seek-answer.result _ _ c.seek-answer.new.self c.args.out.now c.seek-answer.new.out c.seek-answer.ensures.ok c.seek-answer.ensures.err in
    grown_from _ c.args.out.now.entries c.seek-answer.new.out.entries grown.0 (ap length c.entries-before.ensures.entries) grown.1

pub returns : goal.returns
returns c =
    let grown = added_by c.seek-answer.result _ _ c.seek-answer.new.self c.args.out.now c.seek-answer.new.out c.seek-answer.ensures.ok c.seek-answer.ensures.err in
    let before = c.args.out.now.entries in
    let after = c.seek-answer.new.out.entries in
    let answer = answer_of_seek c.seek-answer.result in
    let call = Seek c.args.name.now _ c.args.draws.now in
    let e = event_of c.args.moment call answer (added before after) in
    let noted = noted_from 0 c.args.moment _ _ _ before after e c.args.notes.now c.note.new.notes (ap length c.entries-before.ensures.entries) c.in_ok-note.ensures (record { moment = refl; nonce = refl; call = refl; entries = refl }) in record {
      event = e;
      opened = (answer, added before after, c.in_ok-settle_seek.ensures.settled, refl);
      acts =
          did_call 0 c.args.moment call answer c.args.end.now c.seek-answer.new.self before after grown.0 c.args.notes.now c.settle_seek.new.self grown.1 c.seek-answer.ensures.stands (c.bytes-bytes.ensures.form, c.are_sized.ensures.nonce, c.are_sized.ensures.word, c.are_sized.ensures.tag)
          (settled 0 e c.args.notes.now c.note.new.notes c.settle_seek.new.self noted c.in_ok-settle_seek.ensures.text);
    }
