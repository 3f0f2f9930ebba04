use Rattle.std.proofs.Common.{◌≡◌, Some, None, sym, ap, ◌∙◌}
use Rattle.std.specs.FinMap.{get}
use Rattle.session_table.specs.Table.{Table}
use Rattle.session_table.specs.Inside.{rows_in}
use Rattle.session_table.proofs.Rows.{found_at, found_nowhere}
use Rattle.session_table.proofs.table.SessionTable.row.Goals as goal

pub returns-in-Some : goal.returns-in-Some
returns-in-Some c =
    let found : get (rows_in c.self.inside.kept.rows) c.args.near ≡ Some c.index.result.now =
    found_at c.self.inside.kept.rows c.args.near c.self.invariant c.in-Some.slot c.index.result.now c.in-Some.ensures.found c.index.ensures in
    sym found ∙ ap (λ (t : Table). get t.rows c.args.near) c.self.view_is

pub returns-in-None : goal.returns-in-None
returns-in-None c =
    let found : get (rows_in c.self.inside.kept.rows) c.args.near ≡ None =
    found_nowhere c.self.inside.kept.rows c.args.near c.self.invariant c.in-None.ensures.found in
    sym found ∙ ap (λ (t : Table). get t.rows c.args.near) c.self.view_is
