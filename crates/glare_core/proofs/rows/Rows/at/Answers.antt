use Rattle.std.proofs.Common.{◌∙◌, ap}
use Rattle.std.specs.Option.{option_copied}
use Rattle.std.specs.FinMap.{get}
use Rattle.glare_core.proofs.Tables.{found_row}
use Rattle.glare_core.proofs.rows.Rows.at.Goals as goal

pub returns : goal.returns
returns c = found_row c.self.inside.map.entries c.args.self.now c.of.result (option_copied c.get.result) c.self.view_is c.get.ensures.value ∙ ap (get c.args.self.now) c.of.ensures
