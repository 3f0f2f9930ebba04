use Rattle.std.proofs.Common.{refl, ap, length}
use Rattle.endpoint_model.specs.Event.{OnFlows}
use Rattle.endpoint_model.specs.Log.{answer_of_call}
use Rattle.rtmfp_node.specs.Events.{event_of, opens_flow}
use Rattle.rtmfp_node.specs.Acting.{added}
use Rattle.rtmfp_node.proofs.Acts.{added_by, did_call, grown_from, noted_from, settled}
use Rattle.rtmfp_node.proofs.calls.open_flow.Goals as goal

pub note_bare-requires : goal.note_bare-requires
note_bare-requires c =
    let grown = added_by c.open_flow-answer.result _ _ c.open_flow-answer.new.self c.args.out.now c.open_flow-answer.new.out c.open_flow-answer.ensures.ok c.open_flow-answer.ensures.err in
    grown_from _ c.args.out.now.entries c.open_flow-answer.new.out.entries grown.0 (ap length c.entries-before.ensures.entries) grown.1

pub returns : goal.returns
returns c =
    let grown = added_by c.open_flow-answer.result _ _ c.open_flow-answer.new.self c.args.out.now c.open_flow-answer.new.out c.open_flow-answer.ensures.ok c.open_flow-answer.ensures.err in
    let before = c.args.out.now.entries in
    let after = c.open_flow-answer.new.out.entries in
    let answer = answer_of_call c.open_flow-answer.result in
    let call = OnFlows c.args.near (opens_flow) in
    let e = event_of 0 call answer (added before after) in
    let noted = noted_from c.args.turn 0 _ _ _ before after e c.args.notes.now c.note_bare.new.notes (ap length c.entries-before.ensures.entries) c.in_ok-note_bare.ensures (record { moment = refl; nonce = refl; call = refl; entries = refl }) in record {
      event = e;
      called = (answer, added before after, c.in_ok-settle_call.ensures.settled, refl);
      acts =
          did_call c.args.turn 0 call answer c.args.end.now c.open_flow-answer.new.self before after grown.0 c.args.notes.now c.settle_call.new.self grown.1 c.open_flow-answer.ensures.stands tt
          (settled c.args.turn e c.args.notes.now c.note_bare.new.notes c.settle_call.new.self noted c.in_ok-settle_call.ensures.text);
    }
