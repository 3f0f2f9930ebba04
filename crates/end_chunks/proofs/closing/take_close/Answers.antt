use Rattle.std.specs.FinMap.{get}
use Rattle.endpoint_model.specs.InSessions.{close_taken_by}
use Rattle.end_chunks.specs.Steps.{lingering_by}
use Rattle.end_chunks.proofs.Lingering.{taken_close}
use Rattle.end_state.proofs.Endings.{made_room}
use Rattle.end_state.proofs.Giving.{given_done}
use Rattle.end_chunks.proofs.closing.take_close.Goals as goal

pub returns-clause-ok : goal.returns-clause-ok
returns-clause-ok c =
    let s = c.args.end.now in
    let first = given_done (lingering_by s c.args.near (get s.sessions c.args.near)) c.end_by_peer.new.end c.end_by_peer.result c.make_room.new.self c.add_some.new.self
    c.end_by_peer.ensures c.add_some.ensures.entries c.add_some.ensures.free c.add_some.ensures.room in
    made_room (close_taken_by s c.args.near (get s.sessions c.args.near)) c.send_home.new.self c.args.out.now c.make_room.new.self c.send_home.new.out
    c.make_room.ensures.entries c.make_room.ensures.free c.make_room.ensures.room
    (taken_close s c.end_by_peer.new.end c.send_home.new.self c.args.near c.make_room.new.self c.add_some.new.self c.send_home.new.out first c.send_home.ensures)
