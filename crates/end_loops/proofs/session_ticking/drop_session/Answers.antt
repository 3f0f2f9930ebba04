use Rattle.std.specs.FinMap.{get}
use Rattle.end_loops.specs.DueItems.{dropped_by}
use Rattle.end_loops.proofs.Endings.{dropped_done}
use Rattle.end_state.specs.Steps.{end_told}
use Rattle.end_state.proofs.Endings.{made_room}
use Rattle.end_state.proofs.Giving.{given_done}
use Rattle.end_loops.proofs.session_ticking.drop_session.Goals as goal

pub returns-clause-ok : goal.returns-clause-ok
returns-clause-ok c =
    let told =
    given_done (end_told c.args.end.now c.args.why (get c.args.end.now.sessions c.args.near)) c.end_session.new.self c.end_session.result c.make_room.new.self c.add_some.new.self c.end_session.ensures
    c.add_some.ensures.entries c.add_some.ensures.free c.add_some.ensures.room in
    made_room (dropped_by c.args.end.now c.args.near c.args.why (get c.args.end.now.sessions c.args.near)) c.forget_session.new.self c.args.out.now c.make_room.new.self c.add_some.new.self
    c.make_room.ensures.entries c.make_room.ensures.free c.make_room.ensures.room
    (dropped_done c.args.end.now c.end_session.new.self c.forget_session.new.self c.args.near c.args.why c.make_room.new.self c.add_some.new.self told c.forget_session.ensures)
