use Rattle.std.proofs.Common.{◌∙◌, sym, ap}
use Rattle.std.specs.FinMap.{get}
use Rattle.startup.proofs.indexed.IndexedAttempts.reserve_number.Goals as goal

pub invariant_of-self : goal.invariant_of-self
invariant_of-self c =
    (λ whole near a w there has. ap (λ m. get m w) c.reserve.ensures.nears ∙ c.self.invariant.0 (sym c.reserve.ensures.whole ∙ whole) near a w there has, c.self.invariant.1, c.self.invariant.2, c.self.invariant.3, c.self.invariant.4)
