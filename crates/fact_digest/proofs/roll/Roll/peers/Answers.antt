use Rattle.std.proofs.Common.{◌∙◌, sym, ap}
use Rattle.std.specs.FinMap.{len}
use Rattle.glare_core.proofs.Tables.{len_rows}
use Rattle.fact_digest.specs.Roll.{Rolled}
use Rattle.fact_digest.proofs.roll.Roll.peers.Goals as goal

pub returns : goal.returns
returns c = c.len.ensures.len ∙ sym (len_rows c.self.inside.rows.entries c.len.ensures.unique) ∙ ap (λ (r : Rolled). len r.rows) c.self.view_is
