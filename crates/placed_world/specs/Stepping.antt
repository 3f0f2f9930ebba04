-- What a step comes to in a placed world, and what it leaves.
use Rattle.std.specs.Prelude.{ℕ, ◌≡◌, ◌⊎◌, if◌then◌else◌, Option, Some, None, Result, Err}
use Rattle.translators.specs.Translator.{new_translator}
use Rattle.end_places.specs.declared.carried.Carried.{Carried}
use Rattle.end_places.specs.declared.carried.Carried.TheVariants.{Arrives, Lost as IsLost}
use Rattle.end_places.specs.Seen.{PlacesSeen, is_bad_translator, with_translator, is_bad_place, with_place}
use Rattle.end_places.specs.Carrying.{carried_of, after_carry}
use Rattle.rendezvous_world.specs.declared.step.Step.{Step}
use Rattle.rendezvous_world.specs.declared.step.Step.TheVariants.{Deliver}
use Rattle.rendezvous_world.specs.declared.step.StepFault.{StepFault}
use Rattle.rendezvous_world.specs.declared.step.StepFault.TheVariants.{NoEnd, NoDatagram, BadStep, Memory}
use Rattle.rendezvous_world.specs.Datagrams.{nth}
use Rattle.rendezvous_world.specs.Faults.{is_missing, step_fault}
use Rattle.rendezvous_world.specs.Seen.{Seen}
use Rattle.rendezvous_world.specs.Sent.{Sent, sent_in}
use Rattle.rendezvous_world.specs.Stepping.{Stepped, StoppedIn, Noted}
use Rattle.placed_world.specs.declared.step.PlacedStep.{PlacedStep}
use Rattle.placed_world.specs.declared.step.PlacedStep.TheVariants.{Translator, Place, Carry, World}
use Rattle.placed_world.specs.declared.step.LostLine.{LostLine}
use Rattle.placed_world.specs.Seen.{PlacedSeen}

-- What a step comes to: it is refused, for this fault; it changes the places alone, to these; a
-- datagram goes out, which leaves these places, and is lost; it goes out and arrives, and the world
-- takes the step that brings it; or the step is one of the world.
pub data Outcome : Type 0 where
  Refuses : (fault : StepFault) → Outcome
  Changes : (places : PlacesSeen) → Outcome
  Loses : (places : PlacesSeen) → (told : LostLine) → Outcome
  Brings : (places : PlacesSeen) → (step : Step) → Outcome
  Does : (places : PlacesSeen) → (step : Step) → Outcome

-- ---- a datagram that is carried

-- what the datagram with a number comes to, that went out from this end, which left these places
abbrev pub carried_to : ℕ → ℕ → PlacesSeen → Option Carried → Outcome
carried_to number by places None = Refuses BadStep
carried_to number by places (Some (IsLost lost)) =
    Loses places (record { end = by; number = number; lost = lost })
carried_to number by places (Some (Arrives end from)) =
    Brings places (Deliver number end from)

abbrev pub carry_by : PlacesSeen → ℕ → Option Sent → Outcome
carry_by places number None = Refuses NoDatagram
carry_by places number (Some sent) = carried_to number sent.by
    (after_carry places sent.by sent.to) (carried_of places sent.by sent.to)

-- ---- any step

abbrev pub comes_to : PlacedSeen → PlacedStep → Outcome
comes_to p (Translator name mapping filter host first) =
    if is_bad_translator p.places name host first then Refuses BadStep
    else Changes (with_translator p.places name (new_translator mapping filter host first))
comes_to p (Place end at behind) =
    if is_missing p.world end then Refuses NoEnd
    else if is_bad_place p.places end at behind then Refuses BadStep
    else Changes (with_place p.places end at behind)
comes_to p (Carry number) = carry_by p.places number (nth (sent_in p.world.lines) number)
comes_to p (World step) = Does p.places step

-- why it is refused, but for want of memory
abbrev pub fault_in : Seen → Outcome → Option StepFault
fault_in w (Refuses fault) = Some fault
fault_in w (Brings places step) = step_fault w step
fault_in w (Does places step) = step_fault w step
fault_in w outcome = None

abbrev pub placed_fault : PlacedSeen → PlacedStep → Option StepFault
placed_fault p step = fault_in p.world (comes_to p step)

-- It is refused for this fault. But where no memory is found for the way out of a datagram, the
-- world isn't asked.
abbrev pub RefusedFor : Outcome → StepFault → Result (Option LostLine) StepFault → Type 0
RefusedFor (Brings places step) fault result = (result ≡ Err fault) ⊎ (result ≡ Err Memory)
RefusedFor outcome fault result = result ≡ Err fault

-- the step of the world that it is, if it is one
abbrev pub step_in : Outcome → Option Step
step_in (Brings places step) = Some step
step_in (Does places step) = Some step
step_in outcome = None

abbrev pub flat : PlacedSeen → PlacedStep → Option Step
flat p step = step_in (comes_to p step)

-- The world has taken a step, or none and is as it was.
abbrev pub SteppedFlat : Seen → ℕ → Option Step → Seen → Type 0
SteppedFlat w number None t = t ≡ w
SteppedFlat w number (Some step) t = Stepped w number step t

-- ---- what it leaves

abbrev pub placed : Seen → PlacesSeen → PlacedSeen
placed w places = record { world = w; places = places }

abbrev pub DoneAs : Seen → ℕ → Outcome → Option LostLine → PlacedSeen → Type 0
DoneAs w number (Refuses fault) lost t = ⊥
DoneAs w number (Changes places) lost t =
    (lost ≡ None) × (t ≡ placed w places)
DoneAs w number (Loses places told) lost t =
    (lost ≡ Some told) × (t ≡ placed w places)
DoneAs w number (Brings places step) lost t =
    (lost ≡ None) × ((t.places ≡ places) × Stepped w number step t.world)
DoneAs w number (Does places step) lost t =
    (lost ≡ None) × ((t.places ≡ places) × Stepped w number step t.world)

-- The step was done, with this datagram lost, if any, and memory was found for all of it.
abbrev pub Placed : PlacedSeen → ℕ → PlacedStep → Option LostLine → PlacedSeen → Type 0
Placed p number step lost t = DoneAs p.world number (comes_to p step) lost t

-- The world found no memory for a step of its own, or took none.
abbrev pub UndoneFlat : Seen → ℕ → Option Step → Seen → Type 0
UndoneFlat w number None t = t ≡ w
UndoneFlat w number (Some step) t =
    (t ≡ w) ⊎ (StoppedIn w number step t ⊎ Noted w step t)

-- The step found a fault or no memory: the places are as they were.
pub record Undone (p : PlacedSeen) (number : ℕ) (step : PlacedStep) (t : PlacedSeen) : Type 0 where
  pub places : t.places ≡ p.places
  pub world : UndoneFlat p.world number (flat p step) t.world
