use Rattle.std.proofs.Common.{nat_lt, ap, ◌∙◌}
use Rattle.flow_send.specs.declared.totals.Totals.{Totals}
use Rattle.flow_send.specs.Rows.{Roomy, any_flying}
use Rattle.flow_send.proofs.Summing.{any_flying_is}
use Rattle.flow_send.proofs.rows.Rows.any_flying.Goals as goal

pub returns : goal.returns
returns c =
    ap (λ (t : Totals). nat_lt 0 t.flying) c.self.invariant.0 ∙ (any_flying_is c.self.inside.rows.items ∙ ap (λ (p : Roomy). any_flying p.rows) c.self.view_is)
