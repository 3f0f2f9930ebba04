use Rattle.std.proofs.Common.{is_some, ap, ◌∙◌}
use Rattle.std.specs.FinMap.{contains_key}
use Rattle.session_table.specs.Table.{Table}
use Rattle.session_table.proofs.Rows.{has_slot}
use Rattle.session_table.proofs.table.SessionTable.has.Goals as goal

pub returns : goal.returns
returns c =
    c.is_some.ensures ∙ ap is_some c.slot_near.ensures.found ∙ has_slot c.self.inside.kept.rows c.args.near c.self.invariant
    ∙ ap (λ (t : Table). contains_key t.rows c.args.near) c.self.view_is
