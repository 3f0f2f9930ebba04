use Rattle.std.proofs.Common.{◌∙◌, ap}
use Rattle.std.specs.FinMap.{insert}
use Rattle.startup.specs.Kept.{Kept}
use Rattle.startup.proofs.Prints.{entries_put}
use Rattle.startup.proofs.kept.KeptKeyings.put.Goals as goal

pub returns : goal.returns
returns c =
    entries_put c.self.inside.map c.insert.new.self c.of.result c.args.keying c.in-Ok.ensures.updates ∙ ap (λ (k : Kept). insert k.keyings c.of.result c.args.keying) c.self.view_is
    ∙ ap (λ p. insert c.args.self.now.keyings p c.args.keying) c.of.ensures
