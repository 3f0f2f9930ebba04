use Rattle.std.proofs.Common.{Option, refl}
use Rattle.session_core.specs.Session.{with_stamps}
use Rattle.endpoint_model.specs.Admission.{timed_by}
use Rattle.session_table.specs.Table.{of_session}
use Rattle.endpoint_model.specs.declared.row.Row.{Row}
use Rattle.endpoint_model.specs.State.{State}
use Rattle.end_state.proofs.Changing.{changed_state}
use Rattle.end_state.proofs.end_state.EndState.time_in.Goals as goal

pub returns : goal.returns
returns c =
    let i = c.self.inside in
    changed_state i.settings i.moment i.sealed i.limit i.groups i.startup i.sessions.rows c.take_stamps.new.self.rows c.args.self.now c.args.near (of_session (with_stamps c.args.head.now i.moment))
    (λ (s : State) (o : Option Row). timed_by s c.args.near c.args.head.now o) c.self.view_is c.take_stamps.ensures refl (λ row. refl)
