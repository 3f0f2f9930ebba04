-- The largest moments that the ends of a world were given so far.
use Rattle.std.specs.Prelude.{ℕ, ◌≡◌, ◌≤◌, List, length, max, slice_index, slice_set, Option, Some, None}
use Rattle.endpoint_laws.specs.History.{log_of}
use Rattle.endpoint_laws.specs.Past.{last_moment}
use Rattle.placed_world.specs.declared.step.PlacedStep.{PlacedStep}
use Rattle.placed_world.specs.declared.step.PlacedStep.TheVariants.{World}
use Rattle.rendezvous_world.specs.declared.journal.JournalLine.{JournalLine}
use Rattle.rendezvous_world.specs.Deed.{deed_of}
use Rattle.rendezvous_world.specs.History.{history_of, moment_given}
use Rattle.rendezvous_world.specs.Seen.{Seen}

-- At the number of each end stands the largest moment that it was given so far. Where more stands
-- behind them, that is 0.
pub record AreMomentsOf (moments : List ℕ) (w : Seen) : Type 0 where
  pub enough : length w.ends ≤ length moments
  pub each : (who : ℕ) → slice_index moments who ≡ last_moment 0 (log_of who (history_of w))

-- the moment that the call of a step is given in a world at this one; 0 where it is given none
abbrev pub moment_of : ℕ → PlacedStep → ℕ
moment_of moment (World step) = moment_given moment (deed_of step)
moment_of moment step = moment

-- the moments when the end of this line, if there is one, is given this one
abbrev pub raised : List ℕ → ℕ → Option JournalLine → List ℕ
raised moments given None = moments
raised moments given (Some line) =
    slice_set moments line.end (max (slice_index moments line.end) given)
