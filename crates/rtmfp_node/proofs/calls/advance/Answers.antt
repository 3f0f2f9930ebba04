use Rattle.std.proofs.Common.{rules, ap, length, refl}
use Rattle.endpoint_model.specs.Event.{Advance}
use Rattle.endpoint_model.specs.Log.{answer_of_succession}
use Rattle.rtmfp_node.specs.Events.{advance_call, event_of}
use Rattle.rtmfp_node.specs.Acting.{added}
use Rattle.rtmfp_node.proofs.Acts.{did_call, grown_from, noted_from, settled}
use Rattle.rtmfp_node.proofs.Succeeding.{advance_silent, in_its_turn, never_asked, not_asked, succeeded}
use Rattle.rtmfp_node.proofs.calls.advance.Goals as goal

pub note_bare-requires : goal.note_bare-requires
note_bare-requires c =
    let a = c.advance-answer in
    let grown = advance_silent c.args.end.now a.result a.new.self c.args.out.now a.new.out a.ensures.ok a.ensures.err in
    grown_from _ c.args.out.now.entries a.new.out.entries grown.es (ap length c.entries-before.ensures.entries) grown.entries

pub returns-clause-done : goal.returns-clause-done
returns-clause-done c =
    let a = c.advance-answer in
    let before = c.args.out.now.entries in
    let after = a.new.out.entries in
    let grown = advance_silent c.args.end.now a.result a.new.self c.args.out.now a.new.out a.ensures.ok a.ensures.err in
    let answer = answer_of_succession a.result in
    let e = event_of 0 Advance answer (added before after) in
    let noted = noted_from c.args.turn 0 _ _ _ before after e c.args.notes.now c.note_bare.new.notes (ap length c.entries-before.ensures.entries) c.in_ok-note_bare.ensures (record { moment = refl; nonce = refl; call = refl; entries = refl }) in
    succeeded (advance_call c.args.at c.args.turn) Advance c.args.turn answer c.args.end.now a.new.self before after c.args.notes.now c.settle_succession.new.self (in_its_turn c.args.at c.in-Some.at c.args.turn (search rules) (search rules)) c.in_ok-settle_succession.ensures.settled grown
    (did_call c.args.turn 0 Advance answer c.args.end.now a.new.self before after grown.es c.args.notes.now c.settle_succession.new.self grown.entries a.ensures.stands tt
    (settled c.args.turn e c.args.notes.now c.note_bare.new.notes c.settle_succession.new.self noted c.in_ok-settle_succession.ensures.text))

pub returns-in_default-clause-done : goal.returns-in_default-clause-done
returns-in_default-clause-done c =
    not_asked (advance_call c.args.at c.args.turn) c.args.turn c.args.end.now c.args.out.now.entries c.args.notes.now (never_asked c.args.at c.args.turn (search rules))
