use Rattle.std.specs.FinMap.{get}
use Rattle.end_state.specs.Steps.{data_sent_by}
use Rattle.end_state.proofs.Endings.{made_room}
use Rattle.end_loops.proofs.session_ticking.send_data.Goals as goal

pub returns-clause-ok : goal.returns-clause-ok
returns-clause-ok c =
    let sent = data_sent_by c.args.end.now c.args.near (get c.args.end.now.sessions c.args.near) in
    made_room sent c.send_data.new.self c.args.out.now c.make_room.new.self c.send_data.new.out c.make_room.ensures.entries c.make_room.ensures.free c.make_room.ensures.room
    c.send_data.ensures.done
