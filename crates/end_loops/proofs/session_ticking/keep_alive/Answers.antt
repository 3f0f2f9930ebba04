use Rattle.std.specs.FinMap.{get}
use Rattle.end_loops.specs.DueItems.{kept_alive_in}
use Rattle.end_loops.proofs.Endings.{kept_alive_done}
use Rattle.end_state.proofs.Endings.{made_room}
use Rattle.end_loops.proofs.session_ticking.keep_alive.Goals as goal

pub returns-clause-ok : goal.returns-clause-ok
returns-clause-ok c =
    made_room (kept_alive_in c.args.end.now c.args.near (get c.args.end.now.sessions c.args.near)) c.send_home.new.self c.args.out.now c.make_room.new.self c.send_home.new.out
    c.make_room.ensures.entries c.make_room.ensures.free c.make_room.ensures.room
    (kept_alive_done c.args.end.now c.note_keepalive.new.self c.send_home.new.self c.args.near c.make_room.new.self c.send_home.new.out c.note_keepalive.ensures c.send_home.ensures)
