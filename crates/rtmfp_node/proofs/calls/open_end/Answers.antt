use Rattle.std.proofs.Common.{refl, ap, length}
use Rattle.endpoint_model.specs.Event.{Open}
use Rattle.endpoint_model.specs.Log.{answer_of_open}
use Rattle.rtmfp_node.specs.Events.{event_of}
use Rattle.rtmfp_node.specs.Acting.{added}
use Rattle.rtmfp_node.proofs.Acts.{added_by, did_call, grown_from, noted_from, settled}
use Rattle.rtmfp_node.proofs.calls.open_end.Goals as goal

pub note-requires : goal.note-requires
note-requires c =
    let grown = added_by c.open-answer.result _ _ c.open-answer.new.self c.args.out.now c.open-answer.new.out c.open-answer.ensures.ok c.open-answer.ensures.err in
    grown_from _ c.args.out.now.entries c.open-answer.new.out.entries grown.0 (ap length c.entries-before.ensures.entries) grown.1

pub returns : goal.returns
returns c =
    let grown = added_by c.open-answer.result _ _ c.open-answer.new.self c.args.out.now c.open-answer.new.out c.open-answer.ensures.ok c.open-answer.ensures.err in
    let before = c.args.out.now.entries in
    let after = c.open-answer.new.out.entries in
    let answer = answer_of_open c.open-answer.result in
    let call = Open c.args.print.now _ c.args.draws.now in
    let e = event_of c.args.moment call answer (added before after) in
    let noted = noted_from 0 c.args.moment _ _ _ before after e c.args.notes.now c.note.new.notes (ap length c.entries-before.ensures.entries) c.in_ok-note.ensures (record { moment = refl; nonce = refl; call = refl; entries = refl }) in record {
      event = e;
      opened = (answer, added before after, c.in_ok-settle_open.ensures.settled, refl);
      acts =
          did_call 0 c.args.moment call answer c.args.end.now c.open-answer.new.self before after grown.0 c.args.notes.now c.settle_open.new.self grown.1 c.open-answer.ensures.stands (c.are_thirty_two.ensures, c.are_sized.ensures.nonce, c.are_sized.ensures.word, c.are_sized.ensures.tag)
          (settled 0 e c.args.notes.now c.note.new.notes c.settle_open.new.self noted c.in_ok-settle_open.ensures.text);
    }
