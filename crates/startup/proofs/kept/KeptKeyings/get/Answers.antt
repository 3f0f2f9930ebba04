use Rattle.std.proofs.Common.{◌∙◌, sym, ap}
use Rattle.std.specs.FinMap.{get}
use Rattle.startup.specs.Kept.{Kept}
use Rattle.startup.proofs.Prints.{get_entries}
use Rattle.startup.proofs.kept.KeptKeyings.get.Goals as goal

pub returns : goal.returns
returns c = c.get.ensures.value ∙ sym (get_entries c.self.inside.map.entries c.of.result) ∙ ap (λ (k : Kept). get k.keyings c.of.result) c.self.view_is ∙ ap (get c.args.self.now.keyings) c.of.ensures
