use Rattle.std.proofs.Common.{sym}
use Rattle.std.specs.FinMap.{get}
use Rattle.session_table.specs.FlowTimes.{data_at}
use Rattle.end_state.specs.Stored.{state_of}
use Rattle.end_state.proofs.InPieces.{any_may_go}
use Rattle.end_state.proofs.DataSent.{data_one}
use Rattle.end_state.proofs.end_state.EndState.send_data.Goals as goal

pub send_packed-requires-clause-may_go : goal.send_packed-requires-clause-may_go
send_packed-requires-clause-may_go c =
    let i = c.self.inside in
    any_may_go (state_of i.settings i.moment i.sealed i.limit i.groups i.startup i.sessions.rows) c.args.self.now c.limit-limit.result i.moment _ c.args.blanks (data_at i.moment) (get i.sessions.rows c.args.near)
    c.seal_data-packed.result c.self.view_is c.limit-limit.ensures.value c.limit-limit.ensures.least c.blanks.view_is c.requires.enough c.seal_data-packed.ensures.answer

pub returns-clause-done : goal.returns-clause-done
returns-clause-done c =
    let i = c.self.inside in
    data_one i.settings i.moment i.sealed i.limit i.groups i.startup i.sessions.rows c.seal_data-packed.new.self.rows c.args.self.now c.send_packed.new.self c.args.near c.limit-limit.result c.in-Some.row.now c.address.result.now
    c.seal_data-packed.result c.args.out.now c.send_packed.new.out c.self.view_is c.limit-limit.ensures.value (sym c.in-Some.ensures) c.address.ensures
    c.seal_data-packed.ensures.answer c.seal_data-packed.ensures.rows c.send_packed.ensures
