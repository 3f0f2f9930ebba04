use Rattle.std.proofs.Common.{Option, refl}
use Rattle.session_flows.specs.Owing.{owing_none}
use Rattle.session_table.specs.Chunks.{of_flows}
use Rattle.endpoint_model.specs.declared.row.Row.{Row}
use Rattle.endpoint_model.specs.State.{State}
use Rattle.endpoint_model.specs.FlowChunks.{unowed_by}
use Rattle.end_state.proofs.Changing.{changed_state}
use Rattle.end_state.proofs.end_state.EndState.forget_acks.Goals as goal

pub returns : goal.returns
returns c =
    let i = c.self.inside in
    changed_state i.settings i.moment i.sealed i.limit i.groups i.startup i.sessions.rows c.forget_acks.new.self.rows c.args.self.now c.args.near (of_flows owing_none)
    (λ (s : State) (o : Option Row). unowed_by s c.args.near o) c.self.view_is c.forget_acks.ensures refl (λ row. refl)
