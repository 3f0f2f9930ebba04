use Rattle.std.proofs.Common.{◌∙◌, ap}
use Rattle.std.specs.FinMap.{remove}
use Rattle.startup.specs.Indexed.{Words}
use Rattle.keyed_slab.proofs.KeyMaps.{keys_taken}
use Rattle.startup.proofs.index.Index.take.Goals as goal

pub returns-clause-nears : goal.returns-clause-nears
returns-clause-nears c = keys_taken c.self.inside.nears c.remove-gone.new.self c.args.word c.remove-gone.ensures.updates ∙ ap (λ (w : Words). remove w.nears c.args.word) c.self.view_is
