use Rattle.std.proofs.Common.{◌∙◌, sym, ap}
use Rattle.keyed_slab.specs.Keys.{KeyMap}
use Rattle.std.specs.FinMap.{len}
use Rattle.keyed_slab.proofs.KeyMaps.{len_keys}
use Rattle.keyed_slab.proofs.keys.Keys.len.Goals as goal

pub returns-clause-value : goal.returns-clause-value
returns-clause-value c = c.len.ensures.len ∙ sym (len_keys c.self.inside.map.entries c.len.ensures.unique) ∙ ap (λ (k : KeyMap). len k.keys) c.self.view_is
