use Rattle.std.proofs.Common.{◌∙◌, ap}
use Rattle.keyed_slab.specs.Keys.{KeyMap}
use Rattle.keyed_slab.proofs.KeyMaps.{keys_reordered}
use Rattle.keyed_slab.proofs.keys.Keys.reserve.Goals as goal

pub returns-clause-keys : goal.returns-clause-keys
returns-clause-keys c = keys_reordered c.self.inside.map c.try_reserve.new.self 0 c.try_reserve.ensures.entries ∙ ap (λ (k : KeyMap). k.keys) c.self.view_is
