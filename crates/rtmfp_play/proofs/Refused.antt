-- Why a step of a world was refused, and the numbers of lines after one that was done.
use Rattle.std.proofs.Common.{◌≡◌, ℕ, ◌+◌, Option, Some, None, Result, Err, IfSome, IfNone, IfErr, inl, sym, ◌∙◌, subst, arith}
use Rattle.rendezvous_world.specs.declared.step.Step.{Step}
use Rattle.rendezvous_world.specs.declared.step.StepFault.{StepFault}
use Rattle.rendezvous_world.specs.declared.step.StepFault.TheVariants.{NoEnd, Forged, Memory}
use Rattle.rendezvous_world.specs.Seen.{Seen}
use Rattle.rendezvous_world.specs.Sound.{AreBelow}
use Rattle.rendezvous_world.specs.Stepping.{Stepped}
use Rattle.rendezvous_world.proofs.Growing.{step_below}
use Rattle.rtmfp_play.specs.Play.{IsBadStep}

-- the answer is the fault that stands, but for want of memory
pub fault_is : (o : Option StepFault) (r : Result (Unit {0}) StepFault) (fault : StepFault) (P : Type 0) → r ≡ Err fault → (fault ≡ Memory → ⊥) → IfSome o (λ f. (r ≡ Err f) × P) →
    IfNone o (IfErr r (λ f. f ≡ Memory)) → o ≡ Some fault
fault_is None r fault P e other some none = absurd (other (subst (λ (q : Result (Unit {0}) StepFault). IfErr q (λ f. f ≡ Memory)) e none))
fault_is (Some f) r fault P e other some none = let same : ◌≡◌ {A = Result (Unit {0}) StepFault} (Err f) (Err fault) = sym some.0 ∙ e in cc

bad_is : (o : Option StepFault) (fault : StepFault) → o ≡ Some fault → IsBadStep (Some fault) → IsBadStep o
bad_is o fault e bad = subst (λ (q : Option StepFault). IsBadStep q) (sym e) bad

pub no_end : (o : Option StepFault) (r : Result (Unit {0}) StepFault) (P : Type 0) → r ≡ Err NoEnd → IfSome o (λ f. (r ≡ Err f) × P) → IfNone o (IfErr r (λ f. f ≡ Memory)) → IsBadStep o
no_end o r P e some none = bad_is o NoEnd (fault_is o r NoEnd P e (λ x. cc) some none) tt

pub forged : (o : Option StepFault) (r : Result (Unit {0}) StepFault) (P : Type 0) → r ≡ Err Forged → IfSome o (λ f. (r ≡ Err f) × P) → IfNone o (IfErr r (λ f. f ≡ Memory)) → o ≡ Some Forged
forged o r P e some none = fault_is o r Forged P e (λ x. cc) some none

-- the lines after a step that was done
pub below_after : (w : Seen) (number : ℕ) (step : Step) (t : Seen) → AreBelow w.lines number → Stepped w number step t → AreBelow t.lines (number + 1)
below_after w number step t below done = step_below w number step t (number + 1) below (omega arith) (inl done)
