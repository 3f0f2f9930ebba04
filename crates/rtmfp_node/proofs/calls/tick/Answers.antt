use Rattle.std.proofs.Common.{refl, ap, length}
use Rattle.endpoint_model.specs.Event.{Done, Tick}
use Rattle.rtmfp_node.specs.Events.{event_of}
use Rattle.rtmfp_node.specs.Acting.{added}
use Rattle.rtmfp_node.proofs.Acts.{did_call, grown_from, noted_from}
use Rattle.rtmfp_node.proofs.calls.tick.Goals as goal

pub note-requires : goal.note-requires
note-requires c =
    grown_from _ c.args.out.now.entries c.tick.new.out.entries _ (ap length c.entries-before.ensures.entries) c.in-Ok.ensures.some.1.entries

pub returns : goal.returns
returns c =
    did_call c.args.turn c.args.moment (Tick c.args.draws.now) Done c.args.end.now c.tick.new.self c.args.out.now.entries c.tick.new.out.entries _ c.args.notes.now c.note.new.notes
    c.in-Ok.ensures.some.1.entries c.in-Ok.ensures.stands tt
    (noted_from c.args.turn c.args.moment _ _ _ c.args.out.now.entries c.tick.new.out.entries (event_of c.args.moment (Tick c.args.draws.now) Done (added c.args.out.now.entries c.tick.new.out.entries)) c.args.notes.now c.note.new.notes (ap length c.entries-before.ensures.entries) c.in_ok-note.ensures
    (record { moment = refl; nonce = refl; call = refl; entries = refl }))
