use Rattle.std.proofs.Common.{ap, ◌∙◌}
use Rattle.std.specs.Option.{option_map}
use Rattle.std.specs.FinMap.{get}
use Rattle.endpoint_model.specs.FlowTimes.{late_marked}
use Rattle.session_table.specs.declared.kept.Kept.{Kept}
use Rattle.session_table.specs.Inside.{rows_in}
use Rattle.session_table.specs.Table.{Table}
use Rattle.session_table.proofs.table.SessionTable.lose_late.Goals as goal

pub returns : goal.returns
returns c near =
    c.lose_late.ensures.late near
    ∙ ap (λ (k : Kept). option_map (late_marked c.args.moment) (get (rows_in k.rows) near)) c.advance.ensures
    ∙ ap (λ (t : Table). option_map (late_marked c.args.moment) (get t.rows near)) c.self.view_is
