use Rattle.std.proofs.Common.{Option, refl}
use Rattle.session_core.specs.Session.{SessionState}
use Rattle.session_core.specs.Closing.{after_due, first_due}
use Rattle.end_state.specs.Steps.{session_changed}
use Rattle.session_table.specs.Table.{of_session}
use Rattle.endpoint_model.specs.declared.row.Row.{Row}
use Rattle.endpoint_model.specs.State.{State}
use Rattle.end_state.proofs.Changing.{changed_state}
use Rattle.end_state.proofs.end_state.EndState.note_due.Goals as goal

pub returns : goal.returns
returns c =
    let i = c.self.inside in
    changed_state i.settings i.moment i.sealed i.limit i.groups i.startup i.sessions.rows c.note_due.new.self.rows c.args.self.now c.args.near (of_session (λ (x : SessionState). after_due (first_due x i.moment) i.moment x))
    (λ (s : State) (o : Option Row). session_changed (λ m x. after_due (first_due x m) m x) s c.args.near o) c.self.view_is c.note_due.ensures refl (λ row. refl)
