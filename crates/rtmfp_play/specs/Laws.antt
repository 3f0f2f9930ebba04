-- What a line of a script adds to a world, and what is told of it.
use Rattle.std.specs.Prelude.{ℕ, ◌≡◌, ◌<◌, ◌⊎◌, List, [], ◌∷◌, ◌++◌, length, Option}
use Rattle.rtmfp_text.specs.declared.names.Named.{Named}
use Rattle.rtmfp_script.specs.declared.line.ScriptLine.TheVariants.{Carry as CarryLine}
use Rattle.rtmfp_script.specs.Grammar.{IsLineOf}
use Rattle.end_places.specs.Seen.{PlacesSeen}
use Rattle.rendezvous_world.specs.declared.journal.JournalLine.{JournalLine}
use Rattle.rendezvous_world.specs.Same.{AreSameWorlds}
use Rattle.rendezvous_world.specs.Seen.{Seen}
use Rattle.placed_world.specs.declared.step.LostLine.{LostLine}
use Rattle.placed_world.specs.declared.step.PlacedStep.TheVariants.{Carry}
use Rattle.placed_world.specs.Seen.{PlacedSeen}
use Rattle.placed_world.specs.Stepping.{Loses, SteppedFlat, comes_to}
use Rattle.rendezvous_world.specs.declared.step.Step.{Step}
use Rattle.rtmfp_report.specs.LostText.{lost_line}
use Rattle.rendezvous_world.specs.Sent.{sent_in}
use Rattle.rtmfp_play.specs.Generated.{Generates, summary_of}
use Rattle.rtmfp_play.specs.Journaling.{Journals, end_text, logs_text, written_so_far}
use Rattle.rtmfp_play.specs.Play.{Plays, name_at, names_of, told_of}

-- This line of a script carries a datagram, which doesn't arrive where the ends stand now.
pub record IsLostOn (w : PlacedSeen) (line : List ℕ) (lost : LostLine) : Type 0 where
  pub is_line : IsLineOf line (CarryLine lost.number)
  pub places : PlacesSeen
  pub comes : comes_to w (Carry lost.number) ≡ Loses places lost

-- It carries no datagram, or one that arrives.
abbrev pub LosesNone : PlacedSeen → List ℕ → Type 0
LosesNone w line = (lost : LostLine) → IsLostOn w line lost → ⊥

-- no line of the journal; nothing is lost, and nothing is told
pub record AddsNone (w : PlacedSeen) (line : List ℕ) (t : PlacedSeen) (text : List ℕ)
    : Type 0 where
  pub none_lost : LosesNone w line
  pub lines : t.world.lines ≡ w.world.lines
  pub no_text : text ≡ []

-- one line of the journal, with the number of this line, which is told; nothing is lost
pub record AddsOne (w : PlacedSeen) (n : ℕ) (line : List ℕ) (t : PlacedSeen) (text : List ℕ)
    : Type 0 where
  pub none_lost : LosesNone w line
  pub added : JournalLine
  pub number : added.line ≡ n
  pub lines : t.world.lines ≡ w.world.lines ++ added ∷ []
  pub there : added.end < length (names_of t.world)
  pub told : text ≡ told_of (names_of t.world) (length (sent_in w.world.lines)) added added.refused

-- no line of the journal; the datagram that is lost is told
pub record AddsLoss (w : PlacedSeen) (n : ℕ) (line : List ℕ) (t : PlacedSeen) (text : List ℕ)
    : Type 0 where
  pub lost : LostLine
  pub is_lost : IsLostOn w line lost
  pub lines : t.world.lines ≡ w.world.lines
  pub told : text ≡ lost_line n (name_at (names_of t.world) lost.end) lost.number lost.lost

-- What line n adds: ends may come, and none goes.
pub record Adds (w : PlacedSeen) (n : ℕ) (line : List ℕ) (t : PlacedSeen) (text : List ℕ)
    : Type 0 where
  pub ends : List Named
  pub names : names_of t.world ≡ names_of w.world ++ ends
  pub lines : AddsNone w line t text ⊎ (AddsOne w n line t text ⊎ AddsLoss w n line t text)

-- A line of a script is told by what it adds to the journal, or by the datagram that it loses.
abbrev pub EachLineIsTold : Type 0
EachLineIsTold = (w : PlacedSeen) (n : ℕ) (line : List ℕ) (t : PlacedSeen) (text : List ℕ) →
    Plays w n line t text → Adds w n line t text

-- A line of a script takes the world one step of its own further, or leaves it as it is: a datagram
-- that is carried and arrives is delivered, and what else is done with places is no step of it.
abbrev pub EachLineIsFlat : Type 0
EachLineIsFlat = (w : PlacedSeen) (n : ℕ) (line : List ℕ) (t : PlacedSeen) (text : List ℕ) →
    Plays w n line t text → (step : Option Step) × SteppedFlat w.world n step t.world

-- A seed and a count of steps decide the world of a generated run, but for the room that the
-- outboxes of its journal have left, and the line that is written of it.
abbrev pub EachGeneratedRunIsOne : Type 0
EachGeneratedRunIsOne = (seed steps : ℕ) (w t : Seen) → Generates seed steps w →
    Generates seed steps t → AreSameWorlds w t × (summary_of steps w ≡ summary_of steps t)

-- ---- the text of the logs

-- A line of a script adds its text to what is written of the logs.
abbrev pub EachLineAddsItsText : Type 0
EachLineAddsItsText = (w : PlacedSeen) (n : ℕ) (line : List ℕ) (t : PlacedSeen) (text : List ℕ) →
    Journals w n line t text → written_so_far t.world ≡ written_so_far w.world ++ text

-- And it does to the world what it does where its report is written.
abbrev pub EachJournaledLineIsPlayed : Type 0
EachJournaledLineIsPlayed =
    (w : PlacedSeen) (n : ℕ) (line : List ℕ) (t : PlacedSeen) (text : List ℕ) →
    Journals w n line t text → (report : List ℕ) × Plays w n line t report

-- What is written so far and what is written at the end are the text of the logs of all ends.
abbrev pub WhatIsWrittenIsTheLogs : Type 0
WhatIsWrittenIsTheLogs = (w : Seen) → written_so_far w ++ end_text w ≡ logs_text w
