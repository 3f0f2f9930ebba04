-- What a step of a placed world leaves: the numbers of its lines, and that two such worlds that are the same stay so.
use Rattle.std.proofs.Common.{◌≡◌, ℕ, ◌+◌, Bool, List, [], ◌++◌, length, slice_get, Option, Some, None, Result, Err, IfSome, IfNone, IfErr, inl, inr, refl, sym, ap, ◌∙◌, append_assoc, subst}
use Rattle.std.specs.Prelude.{if◌then◌else◌, nat_le}
use Rattle.rendezvous_world.specs.Datagrams.{nth}
use Rattle.rendezvous_world.specs.Faults.{is_missing}
use Rattle.rendezvous_world.specs.Same.{AreSameWorlds}
use Rattle.rendezvous_world.specs.Seen.{EndSeen, Seen}
use Rattle.rendezvous_world.specs.Sent.{Sent, sent_in}
use Rattle.rendezvous_world.specs.Sound.{AreBelow}
use Rattle.rendezvous_world.specs.Laws.{empty_world}
use Rattle.rendezvous_world.proofs.Calling.{seen_is}
use Rattle.rendezvous_world.proofs.Decided.{same_sent, same_step}
use Rattle.translators.specs.Translator.{new_translator}
use Rattle.end_places.specs.Seen.{PlacesSeen, no_places, is_bad_place, is_bad_translator, with_place, with_translator}
use Rattle.rendezvous_world.specs.declared.step.StepFault.{StepFault}
use Rattle.rendezvous_world.specs.declared.step.StepFault.TheVariants.{BadStep, Memory, NoEnd}
use Rattle.placed_world.specs.declared.step.PlacedStep.{PlacedStep}
use Rattle.placed_world.specs.declared.step.PlacedStep.TheVariants.{Translator, Place, Carry, World}
use Rattle.placed_world.specs.declared.step.LostLine.{LostLine}
use Rattle.placed_world.specs.Seen.{PlacedSeen}
use Rattle.placed_world.specs.Stepping.{Outcome, Refuses, Changes, Loses, Brings, Does, DoneAs, Placed, RefusedFor, SteppedFlat, carry_by, comes_to, flat, step_in}
use Rattle.rtmfp_play.specs.Play.{IsBadStep, empty_placed, names_of, report_since, told_lost, told_next, told_since}
use Rattle.rtmfp_play.specs.Laws.{EachLineIsFlat}
use Rattle.rtmfp_play.proofs.Played.{below_next}
use Rattle.rtmfp_play.proofs.Refused.{below_after}

-- ---- what lines begin with

abbrev placed : Seen → PlacesSeen → PlacedSeen
placed w places = record { world = w; places = places }

pub placed_is : (p : PlacedSeen) → p.world.moment ≡ 0 → p.world.ends ≡ [] → p.world.lines ≡ [] → p.places ≡ no_places → p ≡ empty_placed
placed_is p moment ends lines places =
    let parts : p ≡ placed p.world p.places = refl in
    parts ∙ ap (λ (w : Seen). placed w p.places) (seen_is p.world 0 [] [] moment ends lines) ∙ ap (placed empty_world) places

-- ---- the lines after a step that was done

below_as : (w : Seen) (n : ℕ) (o : Outcome) (lost : Option LostLine) (t : PlacedSeen) → AreBelow w.lines n → DoneAs w n o lost t → AreBelow t.world.lines (n + 1)
below_as w n (Refuses fault) lost t below done = absurd done
below_as w n (Changes places) lost t below done = subst (λ (p : PlacedSeen). AreBelow p.world.lines (n + 1)) (sym done.1) (below_next w.lines n below)
below_as w n (Loses places told) lost t below done = subst (λ (p : PlacedSeen). AreBelow p.world.lines (n + 1)) (sym done.1) (below_next w.lines n below)
below_as w n (Brings places step) lost t below done = below_after w n step t.world below done.1.1
below_as w n (Does places step) lost t below done = below_after w n step t.world below done.1.1

pub below_placed : (w : PlacedSeen) (n : ℕ) (step : PlacedStep) (lost : Option LostLine) (t : PlacedSeen) → AreBelow w.world.lines n → Placed w n step lost t → AreBelow t.world.lines (n + 1)
below_placed w n step lost t below done = below_as w.world n (comes_to w step) lost t below done

-- ---- two worlds that are the same

-- two worlds are the same, and their ends have the same places
pub record AreSamePlaced (w v : PlacedSeen) : Type 0 where
  pub worlds : AreSameWorlds w.world v.world
  pub places : w.places ≡ v.places

pub comes_same : (w v : PlacedSeen) (step : PlacedStep) → AreSamePlaced w v → comes_to w step ≡ comes_to v step
comes_same w v (Translator name mapping filter host first) same =
    ap (λ (p : PlacesSeen). if is_bad_translator p name host first then Refuses BadStep else Changes (with_translator p name (new_translator mapping filter host first))) same.places
comes_same w v (Place end at behind) same =
    ap (λ (p : PlacesSeen). if is_missing w.world end then Refuses NoEnd else if is_bad_place p end at behind then Refuses BadStep else Changes (with_place p end at behind)) same.places
    ∙ ap (λ (b : Bool). if b then Refuses NoEnd else if is_bad_place v.places end at behind then Refuses BadStep else Changes (with_place v.places end at behind))
    (ap (λ (ends : List EndSeen). nat_le (length ends) end) same.worlds.ends)
comes_same w v (Carry number) same =
    ap (λ (p : PlacesSeen). carry_by p number (nth (sent_in w.world.lines) number)) same.places
    ∙ ap (λ (sent : List Sent). carry_by v.places number (nth sent number)) (same_sent w.world.lines v.world.lines same.worlds.lines)
comes_same w v (World step) same = ap (λ (p : PlacesSeen). Does p step) same.places

-- what two such worlds leave, and the datagrams that they lose
pub record LeaveTheSame (t s : PlacedSeen) (lost other : Option LostLine) : Type 0 where
  pub placed : AreSamePlaced t s
  pub lost_is : lost ≡ other

same_as : (w v : Seen) (n : ℕ) (o : Outcome) (lost other : Option LostLine) (t s : PlacedSeen) → AreSameWorlds w v → DoneAs w n o lost t → DoneAs v n o other s → LeaveTheSame t s lost other
same_as w v n (Refuses fault) lost other t s same h k = absurd h
same_as w v n (Changes places) lost other t s same h k = record {
  placed = subst (λ (p : PlacedSeen). AreSamePlaced p s) (sym h.1) (subst (λ (p : PlacedSeen). AreSamePlaced (record { world = w; places = places }) p) (sym k.1) (record { worlds = same; places = refl }));
  lost_is = h.0 ∙ sym k.0;
}
same_as w v n (Loses places told) lost other t s same h k = record {
  placed = subst (λ (p : PlacedSeen). AreSamePlaced p s) (sym h.1) (subst (λ (p : PlacedSeen). AreSamePlaced (record { world = w; places = places }) p) (sym k.1) (record { worlds = same; places = refl }));
  lost_is = h.0 ∙ sym k.0;
}
same_as w v n (Brings places step) lost other t s same h k = record {
  placed = record { worlds = same_step w v n step t.world s.world same h.1.1 k.1.1; places = h.1.0 ∙ sym k.1.0 };
  lost_is = h.0 ∙ sym k.0;
}
same_as w v n (Does places step) lost other t s same h k = record {
  placed = record { worlds = same_step w v n step t.world s.world same h.1.1 k.1.1; places = h.1.0 ∙ sym k.1.0 };
  lost_is = h.0 ∙ sym k.0;
}

pub same_placed : (w v : PlacedSeen) (n : ℕ) (step : PlacedStep) (lost other : Option LostLine) (t s : PlacedSeen) → AreSamePlaced w v → Placed w n step lost t → Placed v n step other s → LeaveTheSame t s lost other
same_placed w v n step lost other t s same h k =
    same_as w.world v.world n (comes_to w step) lost other t s same.worlds h (subst (λ (o : Outcome). DoneAs v.world n o other s) (sym (comes_same w v step same)) k)

-- ---- what is told of a step

-- the journal's line, and then the datagram that is lost
pub told_both : (w t : PlacedSeen) (n : ℕ) (lost : Option LostLine) (after : Seen) (sent at : ℕ) (old mid new : List ℕ) → after ≡ t.world → sent ≡ length (sent_in w.world.lines) → at ≡ length w.world.lines →
    mid ≡ old ++ told_next (names_of after) sent (slice_get after.lines at) → new ≡ mid ++ told_lost (names_of after) n lost → new ≡ old ++ told_since w n t lost
told_both w t n lost after sent at old mid new after_is sent_is at_is first last =
    let told : mid ≡ old ++ report_since w.world t.world =
    first ∙ ap (λ (x : Seen). old ++ told_next (names_of x) sent (slice_get x.lines at)) after_is
    ∙ ap (λ (k : ℕ). old ++ told_next (names_of t.world) k (slice_get t.world.lines at)) sent_is
    ∙ ap (λ (k : ℕ). old ++ told_next (names_of t.world) (length (sent_in w.world.lines)) (slice_get t.world.lines k)) at_is in
    last ∙ ap (λ (x : Seen). mid ++ told_lost (names_of x) n lost) after_is
    ∙ ap (λ (x : List ℕ). x ++ told_lost (names_of t.world) n lost) told
    ∙ append_assoc old (report_since w.world t.world) (told_lost (names_of t.world) n lost)

-- ---- the step of its own that the world takes

pub flat_as : (w : Seen) (n : ℕ) (o : Outcome) (lost : Option LostLine) (t : PlacedSeen) → DoneAs w n o lost t → SteppedFlat w n (step_in o) t.world
flat_as w n (Refuses fault) lost t done = absurd done
flat_as w n (Changes places) lost t done = ap (λ (p : PlacedSeen). p.world) done.1
flat_as w n (Loses places told) lost t done = ap (λ (p : PlacedSeen). p.world) done.1
flat_as w n (Brings places step) lost t done = done.1.1
flat_as w n (Does places step) lost t done = done.1.1

pub each_line_is_flat : EachLineIsFlat
each_line_is_flat w n line t text (inl skipped) = (None, ap (λ (p : PlacedSeen). p.world) skipped.same)
each_line_is_flat w n line t text (inr done) = (flat w done.step, flat_as w.world n (comes_to w done.step) done.lost t done.stepped)

-- ---- a step that is refused

same_fault : (r : Result (Option LostLine) StepFault) (a b : StepFault) → r ≡ Err a → r ≡ Err b → a ≡ b
same_fault r a b p q = let same : ◌≡◌ {A = Result (Option LostLine) StepFault} (Err a) (Err b) = sym p ∙ q in cc

fault_as : (o : Outcome) (r : Result (Option LostLine) StepFault) (stands fault : StepFault) → r ≡ Err fault → (fault ≡ Memory → ⊥) → RefusedFor o stands r → stands ≡ fault
fault_as (Refuses x) r stands fault e other is = same_fault r stands fault is e
fault_as (Changes places) r stands fault e other is = same_fault r stands fault is e
fault_as (Loses places told) r stands fault e other is = same_fault r stands fault is e
fault_as (Brings places step) r stands fault e other (inl is) = same_fault r stands fault is e
fault_as (Brings places step) r stands fault e other (inr memory) = absurd (other (same_fault r fault Memory e memory))
fault_as (Does places step) r stands fault e other is = same_fault r stands fault is e

-- the fault that stands is the one that was answered, and all is as it was
pub record IsRefused (o : Option StepFault) (fault : StepFault) (w t : PlacedSeen) : Type 0 where
  pub is : o ≡ Some fault
  pub same : t ≡ w

pub refused_placed : (o : Option StepFault) (out : Outcome) (r : Result (Option LostLine) StepFault) (fault : StepFault) (w t : PlacedSeen) → r ≡ Err fault → (fault ≡ Memory → ⊥) →
    IfSome o (λ f. RefusedFor out f r × (t ≡ w)) → IfNone o (IfErr r (λ f. f ≡ Memory)) → IsRefused o fault w t
refused_placed None out r fault w t e other some none = absurd (other (subst (λ (q : Result (Option LostLine) StepFault). IfErr q (λ f. f ≡ Memory)) e none))
refused_placed (Some f) out r fault w t e other some none = record { is = ap Some (fault_as out r f fault e other some.0); same = some.1 }

pub bad_placed : (o : Option StepFault) (fault : StepFault) (w t : PlacedSeen) → IsBadStep (Some fault) → IsRefused o fault w t → IsBadStep o
bad_placed o fault w t bad refused = subst IsBadStep (sym refused.is) bad
