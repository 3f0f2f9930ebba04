-- What playing a line tells.
use Rattle.std.proofs.Common.{◌≡◌, ℕ, ◌+◌, ◌<◌, List, [], ◌∷◌, ◌++◌, Option, Some, None, Result, Ok, Err, IfOk, inr, sym, ap, ◌∙◌, subst, arith}
use Rattle.rtmfp_script.specs.declared.line.ScriptLine.{ScriptLine}
use Rattle.rtmfp_script.specs.declared.line.Said.{Said as LineSaid}
use Rattle.rtmfp_script.specs.declared.line.Said.TheVariants.{Nothing, Step as SaidStep}
use Rattle.rtmfp_script.specs.Grammar.{IsLineOf, IsSkipped}
use Rattle.rtmfp_script.specs.Lines.{Says}
use Rattle.rendezvous_world.specs.declared.journal.JournalLine.{JournalLine}
use Rattle.placed_world.specs.declared.step.PlacedStep.{PlacedStep}
use Rattle.placed_world.specs.Seen.{PlacedSeen}
use Rattle.rendezvous_world.specs.Sound.{AreBelow}
use Rattle.rtmfp_play.specs.declared.said.Said.{Said}
use Rattle.rtmfp_play.specs.declared.said.Said.TheVariants.{Text, Bad, Forged}
use Rattle.std.specs.declared.alloc.AllocError.{AllocError}
use Rattle.placed_world.specs.Stepping.{placed_fault}
use Rattle.rtmfp_play.specs.Play.{IsBadPlay, IsBadStep, placed_said, told_since}
use Rattle.rtmfp_play.specs.Playing.{PlayedAs, SteppedAs}

pub below_next : (lines : List JournalLine) (number : ℕ) → AreBelow lines number → AreBelow lines (number + 1)
below_next [] number below = tt
below_next (line ∷ lines) number below = (let lt : line.line < number = below.0 in omega arith, below_next lines number below.1)

-- another thing can't be said of the line
pub said_is : (line : List ℕ) (said other : ScriptLine) → ((o : LineSaid) → Says line o → SaidStep said ≡ o) → IsLineOf line other → said ≡ other
said_is line said other only is = let same : SaidStep said ≡ SaidStep other = only (SaidStep other) is in cc

step_is : (w : PlacedSeen) (line : List ℕ) (said other : ScriptLine) (step : PlacedStep) → ((o : LineSaid) → Says line o → SaidStep said ≡ o) → IsLineOf line other → placed_said w other ≡ Some step → placed_said w said ≡ Some step
step_is w line said other step only is e = ap (placed_said w) (said_is line said other only is) ∙ e

pub not_nothing : (line : List ℕ) (said : ScriptLine) → ((o : LineSaid) → Says line o → SaidStep said ≡ o) → IsSkipped line → ⊥
not_nothing line said only skipped = let same : SaidStep said ≡ Nothing = only Nothing skipped in cc

same_some : (a b : PlacedStep) (o : Option PlacedStep) → o ≡ Some a → o ≡ Some b → a ≡ b
same_some a b o p q = let same : ◌≡◌ {A = Option PlacedStep} (Some a) (Some b) = sym p ∙ q in cc

-- what the step of the line tells, the line tells
pub line_played : (w : PlacedSeen) (n : ℕ) (line : List ℕ) (t : PlacedSeen) (old text : List ℕ) (said : ScriptLine) (step : PlacedStep) (r : Result Said AllocError) →
    ((o : LineSaid) → Says line o → SaidStep said ≡ o) → IsLineOf line said → placed_said w said ≡ Some step → old ≡ [] →
    IfOk r (λ (done : Said). SteppedAs done w n step t old text) → IfOk r (λ (done : Said). PlayedAs done w n line t text)
line_played w n line t old text said step (Ok Text) only is e none done =
    inr (record { said = said; step = step; lost = done.0; is_line = is; is_step = e; stepped = done.1; is_text = done.3 ∙ ap (λ (x : List ℕ). x ++ told_since w n t done.0) none; holds = done.2 })
line_played w n line t old text said step (Ok Bad) only is e none done = record {
  not_skipped = λ skipped fits. not_nothing line said only skipped;
  bad = λ other taken is_line is_step. subst (λ (x : PlacedStep). IsBadStep (placed_fault w x)) (same_some step taken (placed_said w said) e (step_is w line said other taken only is_line is_step)) done;
}
line_played w n line t old text said step (Ok Forged) only is e none done = record { said = said; step = step; is_line = is; is_step = e; forged = done }
line_played w n line t old text said step (Err error) only is e none done = tt

none_is_some : (a : PlacedStep) (o : Option PlacedStep) → o ≡ None → o ≡ Some a → ⊥
none_is_some a o p q = let same : ◌≡◌ {A = Option PlacedStep} None (Some a) = sym p ∙ q in cc

-- an end or a translator that the line names isn't there
pub line_bad : (w : PlacedSeen) (line : List ℕ) (said : ScriptLine) → ((o : LineSaid) → Says line o → SaidStep said ≡ o) → placed_said w said ≡ None → IsBadPlay w line
line_bad w line said only e = record {
  not_skipped = λ skipped fits. not_nothing line said only skipped;
  bad = λ other taken is_line is_step. absurd (none_is_some taken (placed_said w said) e (step_is w line said other taken only is_line is_step));
}
