use Rattle.std.proofs.Common.{Option, refl}
use Rattle.end_state.specs.Steps.{row_changed}
use Rattle.session_table.specs.FlowTimes.{overdue_gone}
use Rattle.endpoint_model.specs.declared.row.Row.{Row}
use Rattle.endpoint_model.specs.State.{State}
use Rattle.end_state.proofs.Changing.{changed_state}
use Rattle.end_state.proofs.end_state.EndState.abandon_overdue.Goals as goal

pub returns-clause-state : goal.returns-clause-state
returns-clause-state c =
    let i = c.self.inside in
    changed_state i.settings i.moment i.sealed i.limit i.groups i.startup i.sessions.rows c.abandon_overdue.new.self.rows c.args.self.now c.args.near (overdue_gone i.moment)
    (λ (s : State) (o : Option Row). row_changed overdue_gone s c.args.near o) c.self.view_is c.abandon_overdue.ensures.rows refl (λ row. refl)
