use Rattle.std.specs.FinMap.{get}
use Rattle.session_core.specs.declared.stage.SessionDue.TheVariants.{RepeatClose}
use Rattle.end_loops.specs.DueItems.{end_due_by}
use Rattle.end_loops.proofs.Endings.{repeated_done}
use Rattle.end_state.proofs.Endings.{made_room}
use Rattle.end_loops.proofs.session_ticking.repeat_close.Goals as goal

pub returns-clause-ok : goal.returns-clause-ok
returns-clause-ok c =
    made_room (end_due_by c.args.end.now c.args.near RepeatClose (get c.args.end.now.sessions c.args.near)) c.send_home.new.self c.args.out.now c.make_room.new.self c.send_home.new.out
    c.make_room.ensures.entries c.make_room.ensures.free c.make_room.ensures.room
    (repeated_done c.args.end.now c.note_due.new.self c.send_home.new.self c.args.near c.make_room.new.self c.send_home.new.out c.requires c.note_due.ensures c.send_home.ensures)
