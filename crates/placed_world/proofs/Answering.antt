-- What is answered, by what a step comes to.
use Rattle.std.proofs.Common.{◌≡◌, ℕ, Bool, true, false, if◌then◌else◌, Option, Some, None, Result, Ok, Err, OnOk, OnErr, IfOk, IfErr, IfSome, IfNone, refl, sym, subst, ap, ◌⊎◌, inl, inr}
use Rattle.end_places.specs.Seen.{PlacesSeen}
use Rattle.rendezvous_world.specs.declared.step.Step.{Step}
use Rattle.rendezvous_world.specs.declared.step.StepFault.{StepFault}
use Rattle.end_places.specs.declared.carried.PlacesRefusal.{PlacesRefusal}
use Rattle.end_places.specs.declared.carried.PlacesRefusal.TheVariants.{Bad, Memory as NoMemory}
use Rattle.rendezvous_world.specs.declared.step.StepFault.TheVariants.{BadStep, Memory}
use Rattle.rendezvous_world.specs.Faults.{step_fault}
use Rattle.rendezvous_world.specs.Seen.{Seen}
use Rattle.rendezvous_world.specs.Stepping.{Stepped, StoppedIn, Noted}
use Rattle.placed_world.specs.declared.step.LostLine.{LostLine}
use Rattle.placed_world.specs.declared.step.PlacedStep.{PlacedStep}
use Rattle.placed_world.specs.Seen.{PlacedSeen}
use Rattle.placed_world.specs.Stepping.{Outcome, Refuses, Changes, Loses, Brings, Does, RefusedFor, placed, DoneAs, comes_to, step_in, SteppedFlat, Undone}
use Rattle.placed_world.specs.Taking.{IsTaken, told_of, step_told}

-- it is refused
pub refuses : (p t : PlacedSeen) (number : ℕ) (fault : StepFault) → t ≡ p → IsTaken p number (Refuses fault) (Err fault) t
refuses p t number fault same = record {
  ok = tt;
  refused = (refl, same);
  memory = tt;
  places = ap (λ (s : PlacedSeen). s.places) same;
  world = ap (λ (s : PlacedSeen). s.world) same;
}

-- the places alone change, or no memory is found
pub changes : (p t : PlacedSeen) (number : ℕ) (places : PlacesSeen) → t ≡ placed p.world places → IsTaken p number (Changes places) (Ok None) t
changes p t number places left = record { ok = (refl, left); refused = tt; memory = tt; places = tt; world = tt }

pub changes_not : (p t : PlacedSeen) (number : ℕ) (places : PlacesSeen) → t ≡ p → IsTaken p number (Changes places) (Err Memory) t
changes_not p t number places same = record {
  ok = tt;
  refused = tt;
  memory = refl;
  places = ap (λ (s : PlacedSeen). s.places) same;
  world = ap (λ (s : PlacedSeen). s.world) same;
}

pub loses : (p t : PlacedSeen) (number : ℕ) (places : PlacesSeen) (told : LostLine) → t ≡ placed p.world places → IsTaken p number (Loses places told) (Ok (Some told)) t
loses p t number places told left = record { ok = (refl, left); refused = tt; memory = tt; places = tt; world = tt }

pub loses_not : (p t : PlacedSeen) (number : ℕ) (places : PlacesSeen) (told : LostLine) → t ≡ p → IsTaken p number (Loses places told) (Err Memory) t
loses_not p t number places told same = record {
  ok = tt;
  refused = tt;
  memory = refl;
  places = ap (λ (s : PlacedSeen). s.places) same;
  world = ap (λ (s : PlacedSeen). s.world) same;
}

-- no memory is found for the way out of a datagram that would arrive
pub brings_not : (p t : PlacedSeen) (number : ℕ) (places : PlacesSeen) (step : Step) → t ≡ p → IsTaken p number (Brings places step) (Err Memory) t
brings_not p t number places step same = record {
  ok = tt;
  refused = by (step_fault p.world step);
  memory = of (step_fault p.world step);
  places = ap (λ (s : PlacedSeen). s.places) same;
  world = inl (ap (λ (s : PlacedSeen). s.world) same);
}
  where
    by : (o : Option StepFault) → IfSome o (λ fault. RefusedFor (Brings places step) fault (Err Memory) × (t ≡ p))
    by None = tt
    by (Some fault) = (inr refl, same)

    of : (o : Option StepFault) → IfNone o (Memory ≡ Memory)
    of None = refl
    of (Some fault) = tt

-- the world takes a step
module _ (w u : Seen) (number : ℕ) (step : Step) (result : Result (Unit {0}) StepFault)
    (refused : IfSome (step_fault w step) (λ fault. (result ≡ Err fault) × (u ≡ w)))
    (memory : IfNone (step_fault w step) (IfErr result (λ fault. fault ≡ Memory)))
    (err : OnErr result ((u ≡ w) ⊎ (StoppedIn w number step u ⊎ Noted w step u)))
  where
    same_fault : (o : Option StepFault) (places : PlacesSeen) (r : Result (Unit {0}) StepFault)
        → IfSome o (λ fault. (r ≡ Err fault) × (u ≡ w))
        → IfSome o (λ fault. (step_told r ≡ Err fault) × (placed u places ≡ placed w places))
    same_fault None places r is = tt
    same_fault (Some fault) places r is = (ap step_told is.0, ap (λ (v : Seen). placed v places) is.1)

    brought_fault : (o : Option StepFault) (before after : PlacesSeen) (r : Result (Unit {0}) StepFault)
        → IfSome o (λ fault. (r ≡ Err fault) × (u ≡ w))
        → IfSome o (λ fault. RefusedFor (Brings after step) fault (step_told r) × (placed u before ≡ placed w before))
    brought_fault None before after r is = tt
    brought_fault (Some fault) before after r is = (inl (ap step_told is.0), ap (λ (v : Seen). placed v before) is.1)

    same_memory : (o : Option StepFault) (r : Result (Unit {0}) StepFault)
        → IfNone o (IfErr r (λ fault. fault ≡ Memory)) → IfNone o (IfErr (step_told r) (λ fault. fault ≡ Memory))
    same_memory (Some fault) r is = tt
    same_memory None (Ok x) is = tt
    same_memory None (Err fault) is = is

    pub done : (places : PlacesSeen) (fault : StepFault) → result ≡ Err fault → IsTaken (placed w places) number (Does places step) (Err fault) (placed u places)
    done places fault is = subst (λ (r : Result (Option LostLine) StepFault). IsTaken (placed w places) number (Does places step) r (placed u places)) (ap step_told is) (record {
      ok = by result is;
      refused = same_fault (step_fault w step) places result refused;
      memory = same_memory (step_fault w step) result memory;
      places = at (step_told result);
      world = of result err;
    })
      where
        by : (r : Result (Unit {0}) StepFault) → r ≡ Err fault → IfOk (step_told r) (λ lost. DoneAs w number (Does places step) lost (placed u places))
        by (Ok x) e = absurd cc
        by (Err f) e = tt

        at : (r : Result (Option LostLine) StepFault) → OnErr r (places ≡ places)
        at (Ok lost) = tt
        at (Err f) = refl

        of : (r : Result (Unit {0}) StepFault) → OnErr r ((u ≡ w) ⊎ (StoppedIn w number step u ⊎ Noted w step u)) → OnErr (step_told r) ((u ≡ w) ⊎ (StoppedIn w number step u ⊎ Noted w step u))
        of (Ok x) e = tt
        of (Err f) e = e

    pub brought : (before after : PlacesSeen) (fault : StepFault) → result ≡ Err fault → IsTaken (placed w before) number (Brings after step) (Err fault) (placed u before)
    brought before after fault is = subst (λ (r : Result (Option LostLine) StepFault). IsTaken (placed w before) number (Brings after step) r (placed u before)) (ap step_told is) (record {
      ok = by result is;
      refused = brought_fault (step_fault w step) before after result refused;
      memory = same_memory (step_fault w step) result memory;
      places = at (step_told result);
      world = of result err;
    })
      where
        by : (r : Result (Unit {0}) StepFault) → r ≡ Err fault → IfOk (step_told r) (λ lost. DoneAs w number (Brings after step) lost (placed u before))
        by (Ok x) e = absurd cc
        by (Err f) e = tt

        at : (r : Result (Option LostLine) StepFault) → OnErr r (before ≡ before)
        at (Ok lost) = tt
        at (Err f) = refl

        of : (r : Result (Unit {0}) StepFault) → OnErr r ((u ≡ w) ⊎ (StoppedIn w number step u ⊎ Noted w step u)) → OnErr (step_told r) ((u ≡ w) ⊎ (StoppedIn w number step u ⊎ Noted w step u))
        of (Ok x) e = tt
        of (Err f) e = e

-- the world has taken a step
apart : (r : Result (Unit {0}) StepFault) (x : Unit {0}) (fault : StepFault) → r ≡ Ok x → r ≡ Err fault → ⊥
apart (Ok y) x fault e f = absurd cc
apart (Err y) x fault e f = absurd cc

none_of : (P : StepFault → Type 0) (Q : Type 0) (o : Option StepFault) (r : Result (Unit {0}) StepFault) (x : Unit {0}) → r ≡ Ok x → IfSome o (λ fault. (r ≡ Err fault) × Q) → IfSome o P
none_of P Q None r x e is = tt
none_of P Q (Some fault) r x e is = absurd (apart r x fault e is.0)

no_err : (o : Option StepFault) → IfNone o (Unit {0})
no_err None = tt
no_err (Some fault) = tt

pub did : (w u : Seen) (number : ℕ) (step : Step) (places : PlacesSeen) (result : Result (Unit {0}) StepFault) (x : Unit {0}) → result ≡ Ok x
    → Stepped w number step u
    → IfSome (step_fault w step) (λ fault. (result ≡ Err fault) × (u ≡ w))
    → IsTaken (placed w places) number (Does places step) (Ok None) (placed u places)
did w u number step places result x e stepped refused = record {
  ok = (refl, (refl, stepped));
  refused = none_of _ _ (step_fault w step) result x e refused;
  memory = no_err (step_fault w step);
  places = tt;
  world = tt;
}

pub did_bring : (w u : Seen) (number : ℕ) (step : Step) (before after : PlacesSeen) (result : Result (Unit {0}) StepFault) (x : Unit {0}) → result ≡ Ok x
    → Stepped w number step u
    → IfSome (step_fault w step) (λ fault. (result ≡ Err fault) × (u ≡ w))
    → IsTaken (placed w before) number (Brings after step) (Ok None) (placed u after)
did_bring w u number step before after result x e stepped refused = record {
  ok = (refl, (refl, stepped));
  refused = none_of _ _ (step_fault w step) result x e refused;
  memory = no_err (step_fault w step);
  places = tt;
  world = tt;
}

pub stepped_as : (w u : Seen) (number : ℕ) (step : Step) (places : PlacesSeen) (r : Result (Unit {0}) StepFault)
    → OnOk r (Stepped w number step u)
    → IfSome (step_fault w step) (λ fault. (r ≡ Err fault) × (u ≡ w))
    → IfNone (step_fault w step) (IfErr r (λ fault. fault ≡ Memory))
    → OnErr r ((u ≡ w) ⊎ (StoppedIn w number step u ⊎ Noted w step u))
    → IsTaken (placed w places) number (Does places step) (step_told r) (placed u places)
stepped_as w u number step places (Ok x) stepped refused memory err = did w u number step places (Ok x) x refl stepped refused
stepped_as w u number step places (Err fault) stepped refused memory err = done w u number step (Err fault) refused memory err places fault refl

-- what a step leaves, as its clauses say
pub flat_of : (w : Seen) (number : ℕ) (o : Outcome) (lost : Option LostLine) (t : PlacedSeen) → DoneAs w number o lost t → SteppedFlat w number (step_in o) t.world
flat_of w number (Refuses fault) lost t is = absurd is
flat_of w number (Changes places) lost t is = ap (λ (s : PlacedSeen). s.world) is.1
flat_of w number (Loses places told) lost t is = ap (λ (s : PlacedSeen). s.world) is.1
flat_of w number (Brings places step) lost t is = is.1.1
flat_of w number (Does places step) lost t is = is.1.1

pub flat_if : (w : Seen) (number : ℕ) (o : Outcome) (t : PlacedSeen) (r : Result (Option LostLine) StepFault) → IfOk r (λ lost. DoneAs w number o lost t) → IfOk r (λ lost. SteppedFlat w number (step_in o) t.world)
flat_if w number o t (Ok lost) is = flat_of w number o lost t is
flat_if w number o t (Err fault) is = tt

pub undone_if : (p t : PlacedSeen) (number : ℕ) (step : PlacedStep) (r : Result (Option LostLine) StepFault) → IsTaken p number (comes_to p step) r t → OnErr r (Undone p number step t)
undone_if p t number step (Ok lost) is = tt
undone_if p t number step (Err fault) is = record { places = is.places; world = is.world }

-- ---- the places are changed

ok_not : (r : Result (Unit {0}) PlacesRefusal) (x : Unit {0}) (e : PlacesRefusal) → r ≡ Ok x → r ≡ Err e → ⊥
ok_not (Ok y) x e a b = absurd cc
ok_not (Err y) x e a b = absurd cc

abbrev err_of : Result (Unit {0}) PlacesRefusal → PlacesRefusal
err_of (Ok x) = Bad
err_of (Err e) = e

pub memory_not : NoMemory ≡ Bad → ⊥
memory_not e = absurd cc

pub places_taken : (w : Seen) (old new places : PlacesSeen) (number : ℕ) (bad : Bool) (r : Result (Unit {0}) PlacesRefusal)
    → OnOk r (new ≡ places) → OnErr r (new ≡ old) → (bad ≡ true → r ≡ Err Bad) → (bad ≡ false → IfErr r (λ refusal. refusal ≡ NoMemory))
    → IsTaken (placed w old) number (if bad then Refuses BadStep else Changes places) (told_of r) (placed w new)
places_taken w old new places number true (Ok x) ok err is not = absurd (ok_not (Ok x) x Bad refl (is refl))
places_taken w old new places number true (Err Bad) ok err is not = refuses (placed w old) (placed w new) number BadStep (ap (placed w) err)
places_taken w old new places number true (Err NoMemory) ok err is not = absurd (memory_not (ap err_of (is refl)))
places_taken w old new places number false (Ok x) ok err is not = changes (placed w old) (placed w new) number places (ap (placed w) ok)
places_taken w old new places number false (Err Bad) ok err is not = absurd (memory_not (sym (not refl)))
places_taken w old new places number false (Err NoMemory) ok err is not = changes_not (placed w old) (placed w new) number places (ap (placed w) err)
