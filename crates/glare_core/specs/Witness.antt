-- That the premises of the laws can be met, by a history in which all that the laws speak of
-- happens.
use Rattle.std.specs.Prelude.{ℕ, List}
use Rattle.glare_core.specs.declared.facts.Why.TheVariants.{Override}
use Rattle.glare_core.specs.declared.facts.Fact.TheVariants.{Opened, Ended}
use Rattle.glare_core.specs.declared.facts.Joined.{Joined}
use Rattle.glare_core.specs.Steps.{Did, Step, IsTail, Happened}
use Rattle.glare_core.specs.Told.{Event, steps, IsLawful, IsHonest, IsFresh}
use Rattle.glare_core.specs.Agreed.{Keeps, Attempt, AreCrossed}

-- Two attempts cross, one of them opens, both ends keep the session, and later the opener ends it
-- with Override while it keeps it.
pub record LivelyHistory : Type 0 where
  pub history : List Event
  pub lawful : IsLawful history
  pub honest : IsHonest history
  pub fresh : IsFresh history
  pub x : List ℕ
  pub y : List ℕ
  pub a : Attempt
  pub b : Attempt
  pub then : List Step
  pub then_was : IsTail then (steps history)
  pub crossed : AreCrossed x y a b then
  pub s : Joined
  pub t : Joined
  pub opening : List Step
  pub opened : Happened x (Did (Opened s) 0) opening (steps history)
  pub both : List Step
  pub both_was : IsTail both (steps history)
  pub x_keeps : Keeps x y s both
  pub y_keeps : Keeps y x t both
  pub before : List Step
  pub overridden : Happened x (Did (Ended y s.near Override) 0) before (steps history)
  pub kept : Keeps x y s before
