use Rattle.std.proofs.Common.{◌∙◌, ap}
use Rattle.startup.specs.Indexed.{Words}
use Rattle.keyed_slab.proofs.KeyMaps.{keys_reordered}
use Rattle.startup.proofs.index.Index.reserve.Goals as goal

pub returns-clause-nears : goal.returns-clause-nears
returns-clause-nears c = keys_reordered c.self.inside.nears c.try_reserve.new.self 0 c.try_reserve.ensures.entries ∙ ap (λ (w : Words). w.nears) c.self.view_is
