use Rattle.std.proofs.Common.{◌∙◌, ap}
use Rattle.keyed_slab.proofs.KeyMaps.{keys_reordered}
use Rattle.log_contexts.specs.Kept.{ThreadMap}
use Rattle.log_contexts.proofs.threads.Threads.reserve.Goals as goal

pub returns-clause-table : goal.returns-clause-table
returns-clause-table c = keys_reordered c.self.inside.map c.try_reserve.new.self 0 c.try_reserve.ensures.entries ∙ ap (λ (m : ThreadMap). m.table) c.self.view_is
