use Rattle.std.proofs.Common.{◌∙◌, ap}
use Rattle.startup.specs.Kept.{Kept}
use Rattle.startup.proofs.Prints.{entries_reordered}
use Rattle.startup.proofs.kept.KeptKeyings.reserve.Goals as goal

pub returns-clause-keyings : goal.returns-clause-keyings
returns-clause-keyings c = entries_reordered c.self.inside.map c.try_reserve.new.self c.try_reserve.ensures.entries ∙ ap (λ (k : Kept). k.keyings) c.self.view_is
