use Rattle.std.proofs.Common.{◌∙◌, sym, ap}
use Rattle.std.specs.FinMap.{get}
use Rattle.keyed_slab.specs.Keys.{KeyMap}
use Rattle.keyed_slab.proofs.KeyMaps.{get_keys}
use Rattle.keyed_slab.proofs.keys.Keys.get.Goals as goal

pub returns : goal.returns
returns c = c.copied.ensures ∙ c.get.ensures.value ∙ sym (get_keys c.self.inside.map.entries c.args.near) ∙ ap (λ (k : KeyMap). get k.keys c.args.near) c.self.view_is
