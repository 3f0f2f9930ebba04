use Rattle.std.proofs.Common.{◌∙◌, sym, ap}
use Rattle.std.specs.FinMap.{insert}
use Rattle.startup.specs.Indexed.{Words}
use Rattle.keyed_slab.proofs.KeyMaps.{keys_put}
use Rattle.startup.proofs.index.Index.put.Goals as goal

pub returns-in-Ok-clause-free : goal.returns-in-Ok-clause-free
returns-in-Ok-clause-free c whole = sym c.get.ensures ∙ c.in-None.is

pub returns-in-Ok-clause-nears : goal.returns-in-Ok-clause-nears
returns-in-Ok-clause-nears c whole = keys_put c.self.inside.nears c.insert.new.self c.args.word c.args.near c.in-Ok.ensures.updates ∙ ap (λ (w : Words). insert w.nears c.args.word c.args.near) c.self.view_is
