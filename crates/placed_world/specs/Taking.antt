-- How a step is taken, by what it comes to.
use Rattle.std.specs.Prelude.{ℕ, ◌≡◌, Option, Some, None, IfOk, IfErr, OnErr, IfSome, IfNone, Result, Ok, Err}
use Rattle.rendezvous_world.specs.declared.step.StepFault.{StepFault}
use Rattle.rtmfp_forms.specs.Address.{AddressParts}
use Rattle.translators.specs.declared.news.News.{News}
use Rattle.end_places.specs.Seen.{PlacesSeen}
use Rattle.end_places.specs.Carrying.{carried_of, after_carry, carry_news}
use Rattle.end_places.specs.declared.carried.Carried.{Carried}
use Rattle.end_places.specs.declared.carried.PlacesRefusal.{PlacesRefusal}
use Rattle.end_places.specs.declared.carried.PlacesRefusal.TheVariants.{Bad, Memory as NoMemory}
use Rattle.rendezvous_world.specs.declared.step.StepFault.TheVariants.{BadStep, Memory}
use Rattle.placed_world.specs.declared.step.LostLine.{LostLine}
use Rattle.placed_world.specs.Seen.{PlacedSeen}
use Rattle.placed_world.specs.Stepping.{Outcome, fault_in, RefusedFor, step_in, DoneAs, UndoneFlat}

-- What is answered and left, where a step comes to this.
pub record IsTaken (p : PlacedSeen) (number : ℕ) (outcome : Outcome)
    (result : Result (Option LostLine) StepFault) (t : PlacedSeen) : Type 0 where
  pub ok : IfOk result (λ lost. DoneAs p.world number outcome lost t)
  pub refused : IfSome (fault_in p.world outcome) (λ fault. RefusedFor outcome fault result ×
      (t ≡ p))
  pub memory : IfNone (fault_in p.world outcome) (IfErr result (λ fault. fault ≡ Memory))
  pub places : OnErr result (t.places ≡ p.places)
  pub world : OnErr result (UndoneFlat p.world number (step_in outcome) t.world)

-- what a change of the places answers as a step
abbrev pub told_of : Result (Unit {0}) PlacesRefusal → Result (Option LostLine) StepFault
told_of (Ok x) = Ok None
told_of (Err Bad) = Err BadStep
told_of (Err NoMemory) = Err Memory

-- the same of a step of the world
abbrev pub step_told : Result (Unit {0}) StepFault → Result (Option LostLine) StepFault
step_told (Ok x) = Ok None
step_told (Err fault) = Err fault

-- What an end sent was carried, which made this, and this became of it.
pub record CameTo (before : PlacesSeen) (sender : ℕ) (to : AddressParts) (news : News)
    (carried : Carried) (after : PlacesSeen) : Type 0 where
  pub answer : carried_of before sender to ≡ Some carried
  pub made : news ≡ carry_news before sender to
  pub left : after ≡ after_carry before sender to
