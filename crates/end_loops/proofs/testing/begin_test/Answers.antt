use Rattle.std.proofs.Common.{Option, refl}
use Rattle.session_table.specs.Table.{tested}
use Rattle.end_loops.specs.Pending.{test_pending}
use Rattle.endpoint_model.specs.declared.row.Row.{Row}
use Rattle.endpoint_model.specs.State.{State}
use Rattle.end_state.proofs.Changing.{changed_state}
use Rattle.end_loops.proofs.testing.begin_test.Goals as goal

pub returns : goal.returns
returns c =
    let i = c.end.inside in
    changed_state i.settings i.moment i.sealed i.limit i.groups i.startup i.sessions.rows c.test.new.self.rows c.args.end.now c.args.near (tested c.args.from.now c.args.token i.moment)
    (λ (s : State) (o : Option Row). test_pending s c.args.near c.args.from.now c.args.token o) c.end.view_is c.test.ensures refl (λ row. refl)
