use Rattle.std.proofs.Common.{sym, ap, ◌∙◌}
use Rattle.std.specs.FinMap.{remove}
use Rattle.rtmfp_base.proofs.Maps.{removed_none}
use Rattle.session_table.specs.Table.{Table}
use Rattle.session_table.specs.Inside.{rows_in}
use Rattle.session_table.proofs.Rows.{row_there, found_nowhere}
use Rattle.session_table.proofs.table.SessionTable.forget.Goals as goal

pub returns-in-Some-clause-rows : goal.returns-in-Some-clause-rows
returns-in-Some-clause-rows c =
    let there = row_there c.self.inside.kept.rows c.args.near c.self.invariant c.in-Some.slot c.in-Some.ensures.found in
    c.forget.ensures.table there.row there.stands ∙ ap (remove (rows_in c.self.inside.kept.rows)) there.near_is
    ∙ ap (λ (t : Table). remove t.rows c.args.near) c.self.view_is

pub returns-in_default-clause-rows : goal.returns-in_default-clause-rows
returns-in_default-clause-rows c =
    ap (λ (t : Table). t.rows) (sym c.self.view_is)
    ∙ removed_none (rows_in c.self.inside.kept.rows) c.args.near (found_nowhere c.self.inside.kept.rows c.args.near c.self.invariant c.in_default.ensures.found)
    ∙ ap (λ (t : Table). remove t.rows c.args.near) c.self.view_is
