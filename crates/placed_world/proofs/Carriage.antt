-- What a carry answers, by what becomes of the datagram.
use Rattle.std.proofs.Common.{◌≡◌, ℕ, Option, Some, None, Result, Ok, Err, IfErr, IfSome, IfNone, refl, sym, subst, ap, ◌∙◌}
use Rattle.rtmfp_forms.specs.Address.{AddressParts}
use Rattle.end_places.specs.declared.carried.Carried.{Carried}
use Rattle.end_places.specs.declared.carried.Carried.TheVariants.{Arrives, Lost as IsLost}
use Rattle.end_places.specs.declared.carried.Lost.{Lost}
use Rattle.end_places.specs.declared.carried.PlacesRefusal.{PlacesRefusal}
use Rattle.end_places.specs.declared.carried.PlacesRefusal.TheVariants.{Bad, Memory as NoMemory}
use Rattle.end_places.specs.Seen.{PlacesSeen}
use Rattle.end_places.specs.Carrying.{carried_of, after_carry}
use Rattle.rendezvous_world.specs.declared.step.Step.TheVariants.{Deliver}
use Rattle.rendezvous_world.specs.declared.step.StepFault.{StepFault}
use Rattle.rendezvous_world.specs.declared.step.StepFault.TheVariants.{NoDatagram, BadStep, Memory}
use Rattle.rendezvous_world.specs.Inside.{passing}
use Rattle.rendezvous_world.specs.Sent.{Sent}
use Rattle.placed_world.specs.declared.step.LostLine.{LostLine}
use Rattle.placed_world.specs.Seen.{PlacedSeen}
use Rattle.placed_world.specs.Stepping.{Brings, placed, carried_to, carry_by}
use Rattle.placed_world.specs.Taking.{IsTaken, told_of}
use Rattle.placed_world.proofs.Answering.{memory_not, refuses, loses, loses_not, brings_not}

pub missing : (p : PlacedSeen) (line number : ℕ) (o : Option Sent) → passing o ≡ None → IsTaken p line (carry_by p.places number o) (Err NoDatagram) p
missing p line number None e = refuses p p line NoDatagram refl
missing p line number (Some sent) e = absurd cc

-- the datagram is there, and this is what it comes to
pub carry_is : (places : PlacesSeen) (number by : ℕ) (to : AddressParts) (o : Option Sent) → passing o ≡ Some (by, to) → carried_to number by (after_carry places by to) (carried_of places by to) ≡ carry_by places number o
carry_is places number by to None e = absurd cc
carry_is places number by to (Some sent) e =
    let pair : (by, to) ≡ (sent.by, sent.to) = ap (λ (o : Option (ℕ × AddressParts)). either o) (sym e) in
    ap (λ (q : ℕ × AddressParts). carried_to number q.0 (after_carry places q.0 q.1) (carried_of places q.0 q.1)) pair
  where
    either : Option (ℕ × AddressParts) → ℕ × AddressParts
    either None = (by, to)
    either (Some q) = q

module _ (p t : PlacedSeen) (line number by : ℕ) (after : PlacesSeen) where
  pub bad : (o : Option Carried) → IfSome o (λ carried. Bad ≡ NoMemory) → t ≡ p → IsTaken p line (carried_to number by after o) (Err BadStep) t
  bad None is same = refuses p t line BadStep same
  bad (Some carried) is same = absurd (memory_not (sym is))

  pub memory : (o : Option Carried) → IfNone o (NoMemory ≡ Bad) → t ≡ p → IsTaken p line (carried_to number by after o) (Err Memory) t
  memory None is same = absurd (memory_not is)
  memory (Some (IsLost lost)) is same = loses_not p t line after (record { end = by; number = number; lost = lost }) same
  memory (Some (Arrives end from)) is same = brings_not p t line after (Deliver number end from) same

  pub is_lost : (o : Option Carried) (lost : Lost) → Some (IsLost lost) ≡ o → t ≡ placed p.world after → IsTaken p line (carried_to number by after o) (Ok (Some (record { end = by; number = number; lost = lost }))) t
  is_lost o lost e left =
      subst (λ (o : Option Carried). IsTaken p line (carried_to number by after o) (Ok (Some (record { end = by; number = number; lost = lost }))) t) e
      (loses p t line after (record { end = by; number = number; lost = lost }) left)

  pub arrived : (o : Option Carried) (end : ℕ) (from : AddressParts) (r : Result (Option LostLine) StepFault) → Some (Arrives end from) ≡ o → IsTaken p line (Brings after (Deliver number end from)) r t → IsTaken p line (carried_to number by after o) r t
  arrived o end from r e is = subst (λ (o : Option Carried). IsTaken p line (carried_to number by after o) r t) e is

  abbrev refusal_in : Result Carried PlacesRefusal → PlacesRefusal
  refusal_in (Ok carried) = Bad
  refusal_in (Err refusal) = refusal

  pub refused_by : (o : Option Carried) (r : Result Carried PlacesRefusal) (refusal : PlacesRefusal) → r ≡ Err refusal
      → IfNone o (r ≡ Err Bad) → IfSome o (λ carried. IfErr r (λ found. found ≡ NoMemory)) → t ≡ p
      → IsTaken p line (carried_to number by after o) (told_of (Err refusal)) t
  refused_by None r refusal is none some same =
      subst (λ (x : PlacesRefusal). IsTaken p line (carried_to number by after None) (told_of (Err x)) t) (sym (ap refusal_in (sym is ∙ none))) (refuses p t line BadStep same)
  refused_by (Some carried) r refusal is none some same =
      subst (λ (x : PlacesRefusal). IsTaken p line (carried_to number by after (Some carried)) (told_of (Err x)) t)
      (sym (subst (λ (r : Result Carried PlacesRefusal). IfErr r (λ found. found ≡ NoMemory)) is some))
      (memory (Some carried) tt same)
