use Rattle.std.proofs.Common.{◌≡◌, Some, IfSome, subst, rules}
use Rattle.std.specs.FinMap.{get}
use Rattle.endpoint_model.specs.declared.row.Row.{Row}
use Rattle.endpoint_model.specs.declared.row_due.RowDue.{RowDue}
use Rattle.endpoint_model.specs.declared.row_due.RowDue.TheVariants.{Abandon}
use Rattle.endpoint_model.specs.declared.row_due.RowDue.TheVariants as row
use Rattle.endpoint_model.specs.FlowTimes.{row_due}
use Rattle.end_loops.proofs.DueItems.{if_due}
use Rattle.end_loops.proofs.session_ticking.session_due.Goals as goal

pub end_due-requires-clause-due : goal.end_due-requires-clause-due
end_due-requires-clause-due c =
    if_due c.args.end.now.moment (get c.args.end.now.sessions c.args.near) (row.Session c.in-Session.due)
    (subst (λ (d : RowDue). IfSome (get c.args.end.now.sessions c.args.near) (λ (r : Row). row_due c.args.end.now.moment r ≡ Some d)) c.in-Session.is c.requires.due)

pub abandon-requires-clause-due : goal.abandon-requires-clause-due
abandon-requires-clause-due c =
    if_due c.args.end.now.moment (get c.args.end.now.sessions c.args.near) (Abandon c.in-Abandon.flow c.in-Abandon.seq)
    (subst (λ (d : RowDue). IfSome (get c.args.end.now.sessions c.args.near) (λ (r : Row). row_due c.args.end.now.moment r ≡ Some d)) c.in-Abandon.is c.requires.due)

-- so that a wrong body is refused fast
pub returns-in-Keepalive-clause-ok : goal.returns-in-Keepalive-clause-ok
returns-in-Keepalive-clause-ok c = search rules
