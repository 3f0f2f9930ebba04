use Rattle.std.proofs.Common.{IfSome, IfNone, sym, ap, subst, ◌∙◌}
use Rattle.endpoint_model.specs.FlowTimes.{is_row_due}
use Rattle.session_table.specs.declared.kept.Kept.{Kept}
use Rattle.session_table.specs.Table.{Table, due_in}
use Rattle.session_table.specs.Inside.{IsFirst, NonePasses, rows_in}
use Rattle.session_table.proofs.table.SessionTable.first_due.Goals as goal

pub due_at-requires-clause-none : goal.due_at-requires-clause-none
due_at-requires-clause-none c =
    subst (λ (k : Kept). IfNone c.first_due-slot.result (NonePasses (is_row_due c.args.moment) k.rows)) (sym c.first_due-slot.ensures.rest) c.first_due-slot.ensures.none

pub due_at-requires-clause-some : goal.due_at-requires-clause-some
due_at-requires-clause-some c =
    subst (λ (k : Kept). IfSome c.first_due-slot.result (IsFirst (is_row_due c.args.moment) k.rows)) (sym c.first_due-slot.ensures.rest) c.first_due-slot.ensures.some

pub returns-clause-due : goal.returns-clause-due
returns-clause-due c =
    c.due_at.ensures ∙ ap (λ (k : Kept). due_in c.args.moment (rows_in k.rows)) c.first_due-slot.ensures.rest ∙ ap (λ (t : Table). due_in c.args.moment t.rows) c.self.view_is
