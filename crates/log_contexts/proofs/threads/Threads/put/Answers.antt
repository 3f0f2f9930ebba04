use Rattle.std.proofs.Common.{◌∙◌, ap}
use Rattle.std.specs.FinMap.{insert}
use Rattle.keyed_slab.proofs.KeyMaps.{keys_put}
use Rattle.log_contexts.specs.Kept.{ThreadMap}
use Rattle.log_contexts.proofs.threads.Threads.put.Goals as goal

pub returns-clause-ok : goal.returns-clause-ok
returns-clause-ok c =
    keys_put c.self.inside.map c.insert.new.self c.args.near c.args.thread c.in-Ok.ensures.updates
    ∙ ap (λ (m : ThreadMap). insert m.table c.args.near c.args.thread) c.self.view_is
