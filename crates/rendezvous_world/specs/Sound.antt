-- What holds of a world at any moment: its history is lawful, honest and fresh, and each end stands
-- for its own log, but that it may keep a later moment.
use Rattle.std.specs.Prelude.{ℕ, ◌≡◌, ◌<◌, ◌≤◌, List, slice_get, Some}
use Rattle.std.specs.List.{AllByRecursion}
use Rattle.endpoint_model.specs.Event.{Setup, Event}
use Rattle.endpoint_model.specs.State.{State, at_moment}
use Rattle.endpoint_model.specs.Log.{StandsFor}
use Rattle.endpoint_laws.specs.History.{log_of, AreLawful, IsHonest, IsFresh}
use Rattle.rendezvous_world.specs.declared.journal.JournalLine.{JournalLine}
use Rattle.rendezvous_world.specs.Seen.{group_secrets, EndSeen, Seen, setup_at}
use Rattle.rendezvous_world.specs.History.{history_of}
use Rattle.rendezvous_world.specs.Stepping.{IsAnswered}

-- An end stands for a log but for the moment that it keeps, which may be raised to one up to this
-- moment.
--
-- An end keeps the largest moment that it was given, of a refused call too. An open, a seek or a close
-- that finds no memory has no line in the journal, so the end may keep a later moment than its log
-- tells. It keeps nothing else of that call, and the next call that is given a moment, which is no
-- earlier, makes the end keep what its log tells.
pub record StandsUpTo (last : ℕ) (setup : Setup) (log : List Event) (s : State) : Type 0 where
  -- the state that stands for the log
  pub told : State
  pub stands : StandsFor setup log told
  -- the moment that the end may have noted besides
  pub noted : ℕ
  pub passed : noted ≤ last
  pub state : s ≡ at_moment told noted

pub record IsSound (w : Seen) : Type 0 where
  -- each end stands for its own log, but that it may have noted a moment which has passed
  pub stand : (who : ℕ) (end : EndSeen) → slice_get w.ends who ≡ Some end →
      StandsUpTo w.moment end.setup (log_of who (history_of w)) end.state
  pub lawful : AreLawful group_secrets (setup_at w.ends) (history_of w)
  pub honest : IsHonest group_secrets (setup_at w.ends) (history_of w)
  pub fresh : IsFresh (setup_at w.ends) (history_of w)
  -- each line tells what its step can answer; none was refused for want of memory
  pub answers : AllByRecursion IsAnswered w.lines

-- Each line of the journal is above the ones before it.
abbrev pub AreBelow : List JournalLine → ℕ → Type 0
AreBelow lines number = AllByRecursion (λ line. line.line < number) lines
