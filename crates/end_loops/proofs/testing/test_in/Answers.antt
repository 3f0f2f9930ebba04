use Rattle.std.proofs.Common.{sym, ◌∙◌}
use Rattle.endpoint_model.specs.InSessions.{held_row, tested_by}
use Rattle.end_state.proofs.Endings.{made_room}
use Rattle.end_loops.proofs.Tested.{tested_done, untested_done}
use Rattle.end_loops.proofs.testing.test_in.Goals as goal

pub returns-then-not-asks-clause-ok : goal.returns-then-not-asks-clause-ok
returns-then-not-asks-clause-ok c =
    untested_done c.args.end.now c.args.near c.args.from.now c.args.token (held_row c.args.end.now c.args.near) c.args.out.now (sym c.asks.ensures ∙ c.if-not-asks.true)

pub returns-clause-ok : goal.returns-clause-ok
returns-clause-ok c =
    made_room (tested_by c.args.end.now c.args.near c.args.from.now c.args.token (held_row c.args.end.now c.args.near)) c.send_in_session.new.self c.args.out.now c.make_room.new.self c.send_in_session.new.out
    c.make_room.ensures.entries c.make_room.ensures.free c.make_room.ensures.room
    (tested_done c.args.end.now c.begin_test.new.end c.send_in_session.new.self c.args.near c.args.from.now c.args.token c.make_room.new.self c.send_in_session.new.out
    (sym c.asks.ensures ∙ c.if-not-asks.false) c.begin_test.ensures
    c.send_in_session.ensures)
