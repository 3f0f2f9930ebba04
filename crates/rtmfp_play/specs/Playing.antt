-- What playing a line tells, by what is said of it.
use Rattle.std.specs.Prelude.{ℕ, ◌≡◌, ◌++◌, List, Option, Some}
use Rattle.rtmfp_play.specs.declared.said.Said.{Said}
use Rattle.rtmfp_play.specs.declared.said.Said.TheVariants.{Text, Bad, Forged}
use Rattle.placed_world.specs.declared.step.PlacedStep.{PlacedStep}
use Rattle.placed_world.specs.declared.step.LostLine.{LostLine}
use Rattle.placed_world.specs.Seen.{PlacedSeen}
use Rattle.placed_world.specs.Stepping.{Placed, placed_fault}
use Rattle.rendezvous_world.specs.declared.step.StepFault.TheVariants.{Forged as ForgedStep}
use Rattle.rtmfp_play.specs.Play.{Plays, HistoryHolds, IsBadPlay, IsForgedPlay, IsBadStep, told_since}

-- of line n
abbrev pub PlayedAs : Said → PlacedSeen → ℕ → List ℕ → PlacedSeen → List ℕ → Type 0
PlayedAs Text w n line t text = Plays w n line t text
PlayedAs Bad w n line t text = IsBadPlay w line
PlayedAs Forged w n line t text = IsForgedPlay w line

-- of the step of line n
abbrev pub SteppedAs : Said → PlacedSeen → ℕ → PlacedStep → PlacedSeen → List ℕ → List ℕ → Type 0
SteppedAs Text w n step t before after = (lost : Option LostLine) × Placed w n step lost t ×
    HistoryHolds t.world × (after ≡ before ++ told_since w n t lost)
SteppedAs Bad w n step t before after = IsBadStep (placed_fault w step)
SteppedAs Forged w n step t before after = placed_fault w step ≡ Some ForgedStep

-- A line that isn't done leaves the world, and the text that there was, as they were.
abbrev pub StaysAs : Said → PlacedSeen → PlacedSeen → List ℕ → List ℕ → Type 0
StaysAs Text w t before after = Unit {0}
StaysAs Bad w t before after = (t ≡ w) × (after ≡ before)
StaysAs Forged w t before after = (t ≡ w) × (after ≡ before)
