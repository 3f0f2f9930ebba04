use Rattle.std.proofs.Common.{Option, refl}
use Rattle.session_core.specs.Closing.{closed_near}
use Rattle.end_state.specs.Steps.{session_changed}
use Rattle.session_table.specs.Table.{of_session}
use Rattle.endpoint_model.specs.declared.row.Row.{Row}
use Rattle.endpoint_model.specs.State.{State}
use Rattle.end_state.proofs.Changing.{changed_state}
use Rattle.end_state.proofs.end_state.EndState.begin_closing.Goals as goal

pub returns : goal.returns
returns c =
    let i = c.self.inside in
    changed_state i.settings i.moment i.sealed i.limit i.groups i.startup i.sessions.rows c.close.new.self.rows c.args.self.now c.args.near (of_session (closed_near i.moment))
    (λ (s : State) (o : Option Row). session_changed closed_near s c.args.near o) c.self.view_is c.close.ensures refl (λ row. refl)
