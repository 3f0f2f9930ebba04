use Rattle.std.proofs.Common.{◌∙◌, sym, ap}
use Rattle.std.specs.FinMap.{len}
use Rattle.glare_core.specs.Ledger.{PeerRows}
use Rattle.glare_core.proofs.Tables.{len_rows}
use Rattle.glare_core.proofs.rows.Rows.len.Goals as goal

pub returns : goal.returns
returns c = c.len.ensures.len ∙ sym (len_rows c.self.inside.map.entries c.len.ensures.unique) ∙ ap (λ (rows : PeerRows). len rows) c.self.view_is
