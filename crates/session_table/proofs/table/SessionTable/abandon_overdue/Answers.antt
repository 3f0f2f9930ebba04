use Rattle.std.proofs.Common.{◌≡◌, Some, None, Option, IfSome, refl, sym, ap, subst, ◌∙◌}
use Rattle.std.specs.FinMap.{get}
use Rattle.endpoint_model.specs.declared.row.Row.{Row}
use Rattle.session_table.specs.Table.{Table, in_row}
use Rattle.session_table.specs.Inside.{rows_in}
use Rattle.session_table.specs.FlowTimes.{OverdueWaits, overdue_gone}
use Rattle.session_table.proofs.Rows.{found_at, found_nowhere}
use Rattle.session_table.proofs.Changing.{changed_at, unchanged}
use Rattle.session_table.proofs.table.SessionTable.abandon_overdue.Goals as goal

pub settle-requires : goal.settle-requires
settle-requires c = (changed_at (overdue_gone c.args.moment) c.self.inside.kept.rows c.args.near c.in-Some.slot c.index_mut.result.now c.abandon_in.new.row c.self.invariant
    c.in-Some.ensures.found c.index_mut.ensures.value c.abandon_in.ensures.row refl).loose

pub returns-in-Some-clause-rows : goal.returns-in-Some-clause-rows
returns-in-Some-clause-rows c = c.settle.ensures.table ∙ (changed_at (overdue_gone c.args.moment) c.self.inside.kept.rows c.args.near c.in-Some.slot c.index_mut.result.now c.abandon_in.new.row c.self.invariant
    c.in-Some.ensures.found c.index_mut.ensures.value c.abandon_in.ensures.row refl).table
    ∙ ap (λ (t : Table). in_row (overdue_gone c.args.moment) t.rows c.args.near) c.self.view_is

pub returns-in_default-clause-rows : goal.returns-in_default-clause-rows
returns-in_default-clause-rows c = ap (λ (t : Table). t.rows) (sym c.self.view_is) ∙ unchanged (overdue_gone c.args.moment) c.self.inside.kept.rows c.args.near c.self.invariant c.in_default.ensures.found
    ∙ ap (λ (t : Table). in_row (overdue_gone c.args.moment) t.rows c.args.near) c.self.view_is

pub returns-in-Some-clause-waits : goal.returns-in-Some-clause-waits
returns-in-Some-clause-waits c =
    let found : get (rows_in c.self.inside.kept.rows) c.args.near ≡ Some c.index_mut.result.now =
    found_at c.self.inside.kept.rows c.args.near c.self.invariant c.in-Some.slot c.index_mut.result.now c.in-Some.ensures.found c.index_mut.ensures.value in
    subst (λ (o : Option Row). IfSome o (λ (row : Row). OverdueWaits c.args.moment row)) (sym (ap (λ (t : Table). get t.rows c.args.near) (sym c.self.view_is) ∙ found)) c.abandon_in.ensures.waits

pub returns-in_default-clause-waits : goal.returns-in_default-clause-waits
returns-in_default-clause-waits c =
    let found : get (rows_in c.self.inside.kept.rows) c.args.near ≡ None =
    found_nowhere c.self.inside.kept.rows c.args.near c.self.invariant c.in_default.ensures.found in
    subst (λ (o : Option Row). IfSome o (λ (row : Row). OverdueWaits c.args.moment row)) (sym (ap (λ (t : Table). get t.rows c.args.near) (sym c.self.view_is) ∙ found)) tt
