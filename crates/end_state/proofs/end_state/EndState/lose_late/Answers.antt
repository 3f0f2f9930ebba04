use Rattle.std.proofs.Common.{sym, ap, ◌∙◌}
use Rattle.endpoint_model.specs.State.{State}
use Rattle.endpoint_model.specs.FlowTimes.{all_late}
use Rattle.session_table.proofs.Late.{all_late_is}
use Rattle.end_state.specs.Stored.{state_of}
use Rattle.end_state.proofs.end_state.EndState.lose_late.Goals as goal

pub returns : goal.returns
returns c =
    let i = c.self.inside in
    sym (all_late_is (state_of i.settings i.moment i.sealed i.limit i.groups i.startup i.sessions.rows) c.lose_late.new.self.rows c.lose_late.ensures) ∙ ap (λ (s : State). all_late s) c.self.view_is
