use Rattle.std.proofs.Common.{◌∙◌, sym, ap}
use Rattle.std.specs.FinMap.{get}
use Rattle.keyed_slab.proofs.KeyMaps.{get_keys}
use Rattle.log_contexts.specs.Kept.{ThreadMap}
use Rattle.log_contexts.proofs.threads.Threads.get.Goals as goal

pub returns : goal.returns
returns c = c.copied.ensures ∙ c.get.ensures.value ∙ sym (get_keys c.self.inside.map.entries c.args.near) ∙ ap (λ (m : ThreadMap). get m.table c.args.near) c.self.view_is
