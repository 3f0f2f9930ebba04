use Rattle.std.proofs.Common.{◌∙◌, sym, ap}
use Rattle.std.specs.FinMap.{get}
use Rattle.startup.specs.Indexed.{Words}
use Rattle.keyed_slab.proofs.KeyMaps.{get_keys}
use Rattle.startup.proofs.index.Index.get.Goals as goal

pub returns : goal.returns
returns c = c.copied.ensures ∙ c.get.ensures.value ∙ sym (get_keys c.self.inside.nears.entries c.args.word) ∙ ap (λ (w : Words). get w.nears c.args.word) c.self.view_is
