-- Why keyings are discarded: what startup finds of one that was read gives the cause.
use Rattle.std.proofs.Common.{◌≡◌, ℕ, List, [], ◌∷◌, true, false, not, if◌then◌else◌, Option, Some, None, Ok, Err, refl, ◌∙◌}
use Rattle.rtmfp_forms.specs.Address.{AddressParts}
use Rattle.rtmfp_base.specs.Reasons.{where_true, first_that_stands}
use Rattle.rtmfp_base.specs.declared.cause.Cause.{Cause}
use Rattle.rtmfp_base.specs.declared.cause.Cause.TheVariants.{WrongPlace, SecondKeying}
use Rattle.startup.specs.declared.judging.Hearing.{Hearing}
use Rattle.startup_packets.specs.Readings.{InitiatorKeying, initiator_keying_in}
use Rattle.startup.specs.Keyings.{initiator_cause, keying_fault, fault_in, cause_by}
use Rattle.startup.specs.Judging.{unless_cause, hearing, judged_initiator}
use Rattle.cookies.specs.Cookie.{cookie_test}
use Rattle.endpoint_model.specs.declared.place.Place.{Place}
use Rattle.endpoint_model.specs.declared.walk.Walk.{Walk}
use Rattle.endpoint_model.specs.Admission.{group_at}
use Rattle.endpoint_model.specs.State.{State, full}
use Rattle.endpoint_model.specs.Causes.{initiator_keying_cause, takes_in}
use Rattle.end_chunks.specs.Judging.{judged_cause}

last_stands : (o : Option Cause) → first_that_stands (o ∷ []) ≡ o
last_stands None = refl
last_stands (Some cause) = refl

uncaused : {A : Type 0} (found x : A) (o : Option Cause) → unless_cause found o ≡ Ok x → o ≡ None
uncaused found x None e = refl
uncaused found x (Some cause) e = absurd (cc)

caused : {A : Type 0} (found : A) (cause : Cause) (o : Option Cause) → unless_cause found o ≡ Err cause → o ≡ Some cause
caused found cause None e = absurd (cc)
caused found cause (Some other) e = cc

module _ (s : State) (place : Place) (walk : Walk) (from : AddressParts) (payload : List ℕ) (read : InitiatorKeying) where
  -- the causes where its place takes it, it reads, and no keying came before it
  stands : takes_in place walk 0x38 ≡ true → walk.keyed ≡ false → initiator_keying_in payload ≡ Ok read →
      judged_cause place walk 0x38 (keying_fault 0x38 payload) (initiator_keying_cause s place walk from payload) ≡ initiator_cause s.startup payload from s.moment (full s) (group_at s place) read
  stands taken first reads =
      (λ i. first_that_stands (fault_in (reads i) ∷ where_true (not (taken i)) WrongPlace
      ∷ (if first i then Some SecondKeying else cause_by (initiator_cause s.startup payload from s.moment (full s) (group_at s place)) (reads i)) ∷ []))
      ∙ last_stands (initiator_cause s.startup payload from s.moment (full s) (group_at s place) read)

  pub judged_none : (found : Hearing) → takes_in place walk 0x38 ≡ true → walk.keyed ≡ false → initiator_keying_in payload ≡ Ok read →
      judged_initiator s.startup payload from s.moment (full s) (group_at s place) read ≡ Ok found →
      judged_cause place walk 0x38 (keying_fault 0x38 payload) (initiator_keying_cause s place walk from payload) ≡ None
  judged_none found taken first reads judged =
      stands taken first reads
      ∙ uncaused (hearing s.startup read (cookie_test s.startup.cookie_secret read.cookie from s.moment)) found (initiator_cause s.startup payload from s.moment (full s) (group_at s place) read) judged

  pub judged_some : (cause : Cause) → takes_in place walk 0x38 ≡ true → walk.keyed ≡ false → initiator_keying_in payload ≡ Ok read →
      judged_initiator s.startup payload from s.moment (full s) (group_at s place) read ≡ Err cause →
      judged_cause place walk 0x38 (keying_fault 0x38 payload) (initiator_keying_cause s place walk from payload) ≡ Some cause
  judged_some cause taken first reads judged =
      stands taken first reads
      ∙ caused (hearing s.startup read (cookie_test s.startup.cookie_secret read.cookie from s.moment)) cause (initiator_cause s.startup payload from s.moment (full s) (group_at s place) read) judged
