-- Why an Ended for Glare or Override asks for its Born in the same event: with the Born in a later
-- event of the end, a session can be overridden that its peer still has.
use Rattle.std.specs.Prelude.{ℕ, List, [], ◌∷◌, reverse}
use Rattle.glare_core.specs.declared.facts.Fact.{Fact}
use Rattle.glare_core.specs.Standing.{peer_of}
use Rattle.glare_core.specs.Stands.{MakesWay, IsBornOf}
use Rattle.glare_core.specs.Steps.{Item, view, facts}
use Rattle.glare_core.specs.Table.{Meets}
use Rattle.glare_core.specs.Told.{Event, told_to, steps, IsHonest, IsFresh}
use Rattle.glare_core.specs.Agreed.{OverrideIsLate}

-- The items of an event meet their lines, but for what follows an Ended.
abbrev pub DoneMeets : List ℕ → List Item → List Item → Type 0
DoneMeets own log [] = Unit {0}
DoneMeets own log (item ∷ rest) = Meets own log item × DoneMeets own (item ∷ log) rest

abbrev pub EachMeets : List Event → Type 0
EachMeets [] = Unit {0}
EachMeets (e ∷ earlier) = DoneMeets e.who (told_to e.told (view e.who (steps earlier))) e.done ×
    EachMeets earlier

-- In the facts of an end, the oldest first, there is a next fact, and it is a Born of this peer.
abbrev pub NextIsBorn : List ℕ → List Fact → Type 0
NextIsBorn peer [] = ⊥
NextIsBorn peer (fact ∷ rest) = IsBornOf peer fact

-- After each Ended for Glare or Override the next fact of the end, in whatever event, is a Born of
-- that peer.
abbrev pub BornFollows : List Fact → Type 0
BornFollows [] = Unit {0}
BornFollows (fact ∷ rest) = (MakesWay fact → NextIsBorn (peer_of fact) rest) × BornFollows rest

pub record EarlyOverride : Type 0 where
  pub history : List Event
  pub meets : EachMeets history
  pub honest : IsHonest history
  pub fresh : IsFresh history
  pub follows : (who : List ℕ) → BornFollows (reverse (facts (view who (steps history))))
  pub early : ¬ (OverrideIsLate (steps history))
