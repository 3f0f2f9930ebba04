use Rattle.std.specs.FinMap.{get}
use Rattle.glare_core.specs.declared.facts.Why.TheVariants.{Near}
use Rattle.endpoint_model.specs.InSessions.{closing}
use Rattle.end_state.specs.Steps.{end_told}
use Rattle.end_state.proofs.Endings.{made_room}
use Rattle.end_state.proofs.Giving.{given_done}
use Rattle.endpoint.proofs.Endings.{closing_done}
use Rattle.endpoint.proofs.closing.close_held.Goals as goal

pub returns-clause-ok : goal.returns-clause-ok
returns-clause-ok c =
    let told =
    given_done (end_told c.args.end.now Near (get c.args.end.now.sessions c.args.near)) c.end_session.new.self c.end_session.result c.make_room.new.self c.add_some.new.self c.end_session.ensures
    c.add_some.ensures.entries c.add_some.ensures.free c.add_some.ensures.room in
    made_room (closing c.args.end.now c.args.near) c.send_home.new.self c.args.out.now c.make_room.new.self c.send_home.new.out c.make_room.ensures.entries c.make_room.ensures.free c.make_room.ensures.room
    (closing_done c.args.end.now c.end_session.new.self c.begin_closing.new.self c.send_home.new.self c.args.near c.make_room.new.self c.add_some.new.self c.send_home.new.out c.requires told
    c.begin_closing.ensures c.send_home.ensures)
