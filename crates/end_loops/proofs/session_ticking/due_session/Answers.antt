use Rattle.std.proofs.Common.{ℕ, ap, ◌∙◌}
use Rattle.std.specs.List.{find}
use Rattle.std.specs.Option.{option_map}
use Rattle.std.specs.FinMap.{entries}
use Rattle.endpoint_model.specs.declared.row.Row.{Row}
use Rattle.endpoint_model.specs.State.{State}
use Rattle.endpoint_model.specs.FlowTimes.{due_row, is_row_due}
use Rattle.endpoint_model.specs.Effects.{session_item}
use Rattle.session_table.specs.Table.{Table}
use Rattle.end_state.specs.Stored.{state_of}
use Rattle.end_loops.specs.DueItems.{handed_on, told_item}
use Rattle.end_loops.proofs.DueItems.{handed_is}
use Rattle.end_loops.proofs.session_ticking.due_session.Goals as goal

pub returns-clause-item : goal.returns-clause-item
returns-clause-item c =
    let i = c.end.inside in
    c.handed_on.ensures ∙ ap handed_on c.first_due-found.ensures.due
    ∙ handed_is i.moment (find (λ (e : ℕ × Row). is_row_due i.moment e.1) (entries i.sessions.rows))
    ∙ ap (λ (s : State). option_map told_item (session_item s.moment (due_row s))) c.end.view_is

pub returns-clause-same : goal.returns-clause-same
returns-clause-same c =
    let i = c.end.inside in
    ap (λ (t : Table). state_of i.settings i.moment i.sealed i.limit i.groups i.startup t.rows) c.first_due-found.ensures.same ∙ c.end.view_is
