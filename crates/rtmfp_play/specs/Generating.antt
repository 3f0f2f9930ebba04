-- What the parts of a generated run do.
use Rattle.std.specs.Prelude.{ℕ, ◌+◌, ◌≡◌, List, take, Option, IfErr, OnOk, Result}
use Rattle.rendezvous_world.specs.declared.step.Step.{Step}
use Rattle.rendezvous_world.specs.declared.step.StepFault.{StepFault}
use Rattle.rendezvous_world.specs.Seen.{Seen}
use Rattle.rendezvous_world.specs.Faults.{step_fault}
use Rattle.rendezvous_world.specs.Sound.{AreBelow}
use Rattle.rendezvous_world.specs.Stepping.{Stepped}
use Rattle.rtmfp_host.specs.Seen.{SinkSeen}
use Rattle.rtmfp_lines.specs.Outside.{Settled}
use Rattle.rtmfp_lines.specs.declared.status.Status.{Status}
use Rattle.rtmfp_lines.specs.declared.status.Status.TheVariants as status
use Rattle.rtmfp_play.specs.Play.{IsBadStep}
use Rattle.rtmfp_play.specs.Generated.{IsForgedStep, summary_of}
use Rattle.rtmfp_host.specs.Faults.{Rose}
use Rattle.rtmfp_host.specs.Writing.{Appends}

-- why a step ended the run: its line, and how it was refused
abbrev pub StepEnds : ℕ → Option StepFault → Status → Type 0
StepEnds line fault status.Memory = Unit {0}
StepEnds line fault (status.BadScript n) = (n ≡ line) × IsBadStep fault
StepEnds line fault (status.Forged n) = (n ≡ line) × IsForgedStep fault
StepEnds line fault other = ⊥

-- A step of line n was done, or ended the run.
pub record TakesStep (w : Seen) (line : ℕ) (step : Step) (result : Result (Unit {0}) Status)
    (t : Seen) : Type 0 where
  pub ok : OnOk result (Stepped w line step t)
  pub below : OnOk result (AreBelow t.lines (line + 1))
  pub err : IfErr result (StepEnds line (step_fault w step))

-- why lines of a run ended it, where `Stops Kind line` says that this line is refused so
abbrev pub RunEnds : ((Option StepFault → Type 0) → ℕ → Type 0) → Status → Type 0
RunEnds Stops status.Memory = Unit {0}
RunEnds Stops (status.BadScript line) = Stops IsBadStep line
RunEnds Stops (status.Forged line) = Stops IsForgedStep line
RunEnds Stops other = ⊥

-- The text was written and passed on, or a first part of it was written.
abbrev pub HandsOver : List ℕ → Status → SinkSeen → SinkSeen → Type 0
HandsOver text status.Done before after = Appends before.written after.written text ×
    Settled before after
HandsOver text status.SinkFault before after =
    ((k : ℕ) × Appends before.written after.written (take k text)) × Rose before.faults after.faults
HandsOver text other before after = ⊥

-- The summary was written, or no memory was found for it.
abbrev pub Summarizes : ℕ → Seen → Status → SinkSeen → SinkSeen → Type 0
Summarizes steps w status.Memory before after = after ≡ before
Summarizes steps w result before after = HandsOver (summary_of steps w) result before after
