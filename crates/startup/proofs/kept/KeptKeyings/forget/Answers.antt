use Rattle.std.proofs.Common.{◌∙◌, ap}
use Rattle.std.specs.FinMap.{remove}
use Rattle.startup.specs.Kept.{Kept}
use Rattle.startup.proofs.Prints.{entries_taken}
use Rattle.startup.proofs.kept.KeptKeyings.forget.Goals as goal

pub returns : goal.returns
returns c =
    entries_taken c.self.inside.map c.remove-gone.new.self c.of.result c.remove-gone.ensures.updates ∙ ap (λ (k : Kept). remove k.keyings c.of.result) c.self.view_is
    ∙ ap (λ p. remove c.args.self.now.keyings p) c.of.ensures
