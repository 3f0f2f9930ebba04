use Rattle.std.proofs.Common.{◌≡◌, ℕ, None, Option, IfSome, ap, subst, ◌∙◌}
use Rattle.session_flows.specs.Calling.{abandon_refused}
use Rattle.session_flows.specs.Timing.{overdue_done}
use Rattle.session_flows.specs.Keeping.{FlowsState}
use Rattle.session_table.proofs.flow_times.abandon_in.Goals as goal

pub returns-clause-row : goal.returns-clause-row
returns-clause-row c =
    ap (λ (f : FlowsState). record c.args.row.now { flows = f }) (c.abandon_overdue.ensures.flows ∙ ap (λ (o : Option (ℕ × ℕ)). (overdue_done c.args.row.now.flows o).flows) c.abandon_overdue.ensures.found)

pub returns-clause-waits : goal.returns-clause-waits
returns-clause-waits c =
    subst (λ (o : Option (ℕ × ℕ)). IfSome o (λ found. abandon_refused c.args.row.now.flows found.0 found.1 ≡ None)) c.abandon_overdue.ensures.found c.abandon_overdue.ensures.waits
