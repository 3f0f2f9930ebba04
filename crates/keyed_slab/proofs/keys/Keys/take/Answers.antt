use Rattle.std.proofs.Common.{◌∙◌, sym, ap}
use Rattle.std.specs.FinMap.{get, remove}
use Rattle.keyed_slab.specs.Keys.{KeyMap}
use Rattle.keyed_slab.proofs.KeyMaps.{get_keys, keys_taken}
use Rattle.keyed_slab.proofs.keys.Keys.take.Goals as goal

pub returns-clause-value : goal.returns-clause-value
returns-clause-value c = c.remove.ensures.value ∙ sym (get_keys c.self.inside.map.entries c.args.near) ∙ ap (λ (k : KeyMap). get k.keys c.args.near) c.self.view_is

pub returns-clause-rest : goal.returns-clause-rest
returns-clause-rest c = keys_taken c.self.inside.map c.remove.new.self c.args.near c.remove.ensures.updates ∙ ap (λ (k : KeyMap). remove k.keys c.args.near) c.self.view_is
