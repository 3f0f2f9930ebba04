use Rattle.std.specs.FinMap.{get}
use Rattle.end_loops.specs.DueItems.{abandoned_by}
use Rattle.end_loops.proofs.Endings.{abandoned_done}
use Rattle.end_state.proofs.Endings.{made_room}
use Rattle.end_loops.proofs.session_ticking.abandon.Goals as goal

pub returns-clause-ok : goal.returns-clause-ok
returns-clause-ok c =
    made_room (abandoned_by c.args.end.now c.args.near c.args.flow c.args.seq (get c.args.end.now.sessions c.args.near)) c.abandon_overdue.new.self c.args.out.now c.make_room.new.self c.add.new.self
    c.make_room.ensures.entries c.make_room.ensures.free c.make_room.ensures.room
    (abandoned_done c.args.end.now c.abandon_overdue.new.self c.args.near c.args.flow c.args.seq c.make_room.new.self c.add.new.self c.requires.there c.requires.due c.abandon_overdue.ensures.waits c.abandon_overdue.ensures.state
    c.add.ensures.entries c.add.ensures.free c.add.ensures.room)
