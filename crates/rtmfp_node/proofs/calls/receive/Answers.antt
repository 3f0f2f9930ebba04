use Rattle.std.proofs.Common.{refl, ap, length, rules}
use Rattle.endpoint_model.specs.Event.{Done, Receive}
use Rattle.rtmfp_node.specs.Events.{event_of}
use Rattle.rtmfp_node.specs.Acting.{added}
use Rattle.rtmfp_node.proofs.Acts.{as_it_came, did_call, grown_from, noted_from}
use Rattle.rtmfp_node.proofs.calls.receive.Goals as goal

pub note-requires : goal.note-requires
note-requires c =
    grown_from _ c.args.out.now.entries c.receive.new.out.entries _ (ap length c.entries-before.ensures.entries) c.in-Ok.ensures.taken.ok.entries

pub returns : goal.returns
returns c =
    did_call c.args.turn c.args.moment (Receive c.args.from c.args.datagram.now c.args.draws.now) Done c.args.end.now c.receive.new.self c.args.out.now.entries c.receive.new.out.entries _
    c.args.notes.now c.note.new.notes c.in-Ok.ensures.taken.ok.entries c.in-Ok.ensures.stands (c.are_bytes.ensures, c.are_sized.ensures.nonce, c.are_sized.ensures.word, c.are_sized.ensures.token)
    (noted_from c.args.turn c.args.moment _ _ _ c.args.out.now.entries c.receive.new.out.entries (event_of c.args.moment (Receive c.args.from c.args.datagram.now c.args.draws.now) Done (added c.args.out.now.entries c.receive.new.out.entries)) c.args.notes.now c.note.new.notes (ap length c.entries-before.ensures.entries) c.in_ok-note.ensures
    (record { moment = refl; nonce = refl; call = as_it_came c.args.from c.args.datagram.now _ c.args.draws.now (search rules); entries = refl }))
