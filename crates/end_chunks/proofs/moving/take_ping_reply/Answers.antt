use Rattle.std.proofs.Common.{◌≡◌, true, Option, sym, ap, ◌∙◌}
use Rattle.std.specs.FinMap.{get, insert}
use Rattle.mobility.specs.declared.pending.Test.{Test}
use Rattle.mobility.specs.Tests.{is_answered}
use Rattle.session_core.specs.Session.{moved_to}
use Rattle.session_table.specs.Table.{moved, with_changed}
use Rattle.endpoint_model.specs.declared.row.Row.{Row}
use Rattle.endpoint_model.specs.State.{State, Sessions, with_sessions}
use Rattle.endpoint_model.specs.InSessions.{answers_by, moved_by}
use Rattle.end_state.specs.Stored.{state_of}
use Rattle.end_state.proofs.Endings.{made_room}
use Rattle.end_chunks.proofs.Relocating.{moved_done, test_over, answering, moved_row}
use Rattle.end_chunks.proofs.moving.take_ping_reply.Goals as goal

pub returns-clause-ok : goal.returns-clause-ok
returns-clause-ok c =
    let i = c.end.inside in
    let from = c.args.from.now in
    let bytes = c.args.bytes.now in
    let s : State = state_of i.settings i.moment i.sealed i.limit i.groups i.startup i.sessions.rows in
    let answers : answers_by from bytes (get i.sessions.rows c.args.near) ≡ true = ap (λ (t : State). answers_by from bytes (get t.sessions c.args.near)) c.end.view_is ∙ c.requires in
    let there = answering from bytes (get i.sessions.rows c.args.near) answers in
    let row : Row = there.0 in
    let answered : is_answered row.moves from bytes ≡ true = sym (ap (answers_by from bytes) there.1) ∙ answers in
    let table : c.move_to.new.self.rows ≡ insert s.sessions c.args.near (moved_row row from) =
    c.move_to.ensures ∙ ap (with_changed (moved from bytes) s.sessions c.args.near) there.1
    ∙ ap (λ (m : Option Test). insert s.sessions c.args.near (record row { session = moved_to from row.session; moves = m })) (test_over row.moves from bytes answered) in
    made_room (moved_by c.args.end.now c.args.near from bytes (get c.args.end.now.sessions c.args.near)) _ c.args.out.now c.make_room.new.self c.add.new.self
    c.make_room.ensures.entries c.make_room.ensures.free c.make_room.ensures.room
    (moved_done s c.args.end.now c.args.near from bytes row _ c.make_room.new.self c.add.new.self c.end.view_is there.1 c.requires
    (ap (λ (m : Sessions). with_sessions s m) table) c.add.ensures.entries c.add.ensures.free c.add.ensures.room)
