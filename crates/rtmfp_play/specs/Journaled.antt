-- What the step of a line adds to the text of the logs, and what is said of it.
use Rattle.std.specs.Prelude.{ℕ, ◌≡◌, ◌⊎◌, Bool, true, false, List, [], ◌∷◌, ◌++◌, slice_index, Option, Some, None}
use Rattle.endpoint_laws.specs.History.{History}
use Rattle.log_writing.specs.Written.{event_lines, text_of}
use Rattle.placed_world.specs.declared.step.LostLine.{LostLine}
use Rattle.placed_world.specs.declared.step.PlacedStep.{PlacedStep}
use Rattle.placed_world.specs.declared.step.PlacedStep.TheVariants.{World}
use Rattle.placed_world.specs.Seen.{PlacedSeen}
use Rattle.placed_world.specs.Stepping.{Placed, placed_fault}
use Rattle.rendezvous_world.specs.declared.journal.JournalLine.{JournalLine}
use Rattle.rendezvous_world.specs.declared.step.StepFault.{StepFault}
use Rattle.rendezvous_world.specs.declared.step.StepFault.TheVariants.{NoEnd, NoDatagram, BadStep, Forged as ForgedStep, Memory}
use Rattle.rendezvous_world.specs.Deed.{Deed, NewEnd, deed_of}
use Rattle.rendezvous_world.specs.History.{event_of, history_of}
use Rattle.rendezvous_world.specs.Seen.{EndSeen}
use Rattle.rtmfp_play.specs.declared.said.Said.{Said}
use Rattle.rtmfp_play.specs.declared.said.Said.TheVariants.{Text, Bad, Forged}
use Rattle.rtmfp_play.specs.Journaling.{written_so_far}
use Rattle.rtmfp_play.specs.Play.{HistoryHolds, IsBadStep, placed_said}
use Rattle.rtmfp_script.specs.declared.line.ScriptLine.{ScriptLine}
use Rattle.rtmfp_script.specs.declared.line.ScriptLine.TheVariants as line
use Rattle.world_logs.specs.Heads.{heads_of, name_at}

-- an event began
abbrev pub has_begun : History → Bool
has_begun [] = false
has_begun (event ∷ earlier) = true

-- an end is said after an event began
abbrev pub is_late : History → ScriptLine → Bool
is_late history (line.End name peers sessions cert) = has_begun history
is_late history said = false

-- An end is added before any event.
abbrev pub IsTimely : History → Deed → Type 0
IsTimely history (NewEnd name peers sessions cert) = history ≡ []
IsTimely history deed = Unit {0}

abbrev pub IsInTime : PlacedSeen → PlacedStep → Type 0
IsInTime w (World step) = IsTimely (history_of w.world) (deed_of step)
IsInTime w step = Unit {0}

-- ---- texts

-- the lines of what ends were given first, where no event began
abbrev pub heads_unless : Bool → List EndSeen → List ℕ
heads_unless true ends = []
heads_unless false ends = text_of (heads_of ends)

-- the lines of the event that a line of the journal tells, by the largest moments that ends were
-- given so far; those of what ends were given first stand before the first event
abbrev pub event_text : Bool → List EndSeen → List ℕ → JournalLine → List ℕ
event_text begun ends moments line = heads_unless begun ends ++
    text_of (event_lines (name_at ends line.end) (slice_index moments line.end)
    (event_of ends line))

abbrev pub next_text : Bool → List EndSeen → List ℕ → Option JournalLine → List ℕ
next_text begun ends moments None = []
next_text begun ends moments (Some line) = event_text begun ends moments line

-- ---- a step

-- The step was refused for this fault, and all is as it was; of want of memory nothing is said.
abbrev pub IsRefusedStep : PlacedSeen → PlacedStep → StepFault → PlacedSeen → Type 0
IsRefusedStep w step Memory t = Unit {0}
IsRefusedStep w step fault t = (placed_fault w step ≡ Some fault) × (t ≡ w)

-- what a line is whose step was refused for this fault; none for want of memory
abbrev pub refused_as : StepFault → Option Said
refused_as NoEnd = Some Bad
refused_as NoDatagram = Some Bad
refused_as BadStep = Some Bad
refused_as ForgedStep = Some Forged
refused_as Memory = None

-- what is told of the step of line n
abbrev pub JournaledStep : Said → PlacedSeen → ℕ → PlacedStep → PlacedSeen → List ℕ → List ℕ → Type 0
JournaledStep Text w n step t before after = (lost : Option LostLine) × Placed w n step lost t ×
    HistoryHolds t.world × (text : List ℕ) × (after ≡ before ++ text) ×
    (written_so_far t.world ≡ written_so_far w.world ++ text)
JournaledStep Bad w n step t before after = IsBadStep (placed_fault w step)
JournaledStep Forged w n step t before after = placed_fault w step ≡ Some ForgedStep

-- what is told of line n, which says this
abbrev pub JournaledSaid : Said → PlacedSeen → ℕ → ScriptLine → PlacedSeen → List ℕ → List ℕ → Type 0
JournaledSaid Text w n said t before after = (step : PlacedStep) ×
    (placed_said w said ≡ Some step) × (is_late (history_of w.world) said ≡ false) ×
    JournaledStep Text w n step t before after
JournaledSaid Bad w n said t before after = (is_late (history_of w.world) said ≡ true) ⊎
    ((step : PlacedStep) → placed_said w said ≡ Some step → IsBadStep (placed_fault w step))
JournaledSaid Forged w n said t before after = (step : PlacedStep) ×
    (placed_said w said ≡ Some step) × (placed_fault w step ≡ Some ForgedStep)
