-- What learning the next secret of the group, and going over to it, leave.
use Rattle.std.proofs.Common.{◌≡◌, ℕ, ◌+◌, ◌==◌, List, [], ◌∷◌, Bool, true, if◌then◌else◌, Option, Some, None, refl, sym, ap, subst, ◌∙◌, arith}
use Rattle.std.proofs.lemmas.Bool.Decides.{nat_tests}
use Rattle.std.specs.Str.{bytes_eq}
use Rattle.std.specs.FinMap.{get}
use Rattle.crypto_profile.specs.declared.group.GroupSecret.{GroupSecret}
use Rattle.rtmfp_base.specs.Reasons.{where_true}
use Rattle.session_flows.specs.declared.refusal.CallRefusal.TheVariants.{GenerationsSpent, SameSecret}
use Rattle.startup.specs.declared.attempt.Stage.{Stage}
use Rattle.startup.specs.declared.attempt.Stage.TheVariants.{Hello, Keying}
use Rattle.endpoint_model.specs.declared.entry.Entry.TheVariants.{Learnt, Advanced}
use Rattle.endpoint_model.specs.Event.{Setup, Learn, Advance}
use Rattle.endpoint_model.specs.State.{State}
use Rattle.endpoint_model.specs.Admission.{stage_group}
use Rattle.endpoint_model.specs.Succession.{last_generation, next_known, learn_refusal, next_group, learning, advancing_to}
use Rattle.endpoint_laws.specs.Past.{Past, stamped, next_of, next_left}
use Rattle.endpoint_laws.specs.Contexts.{Secrets}
use Rattle.endpoint_laws.specs.Groups.{HasSecret, number_in}
use Rattle.endpoint_laws.proofs.Facts.{all_none}
use Rattle.endpoint_laws.proofs.Tied.{Tied}
use Rattle.endpoint_laws.proofs.Moving.{tied_generations}
use Rattle.endpoint_laws.proofs.Going.{Goes}

-- ---- the next secret is learnt

none_known : (o : Option GroupSecret) → next_known o ≡ None → o ≡ None
none_known None e = refl
none_known (Some next) e = absurd (cc)

-- no next one is known where one is learnt
pub unknown_before : (s : State) (secret : List ℕ) → learn_refusal s secret ≡ None → s.next ≡ None
unknown_before s secret none =
    none_known s.next (all_none (next_known s.next ∷ where_true (s.group.generation == last_generation) GenerationsSpent ∷ where_true (bytes_eq s.group.secret secret) SameSecret ∷ []) none).0

pub goes_learning : (secrets : Secrets) (setup : Setup) (past : Past) (s : State) (secret : List ℕ) → learn_refusal s secret ≡ None → get secrets (s.group.generation + 1) ≡ Some secret → Tied secrets setup past s →
    Goes secrets setup (Learn secret) past s (learning s secret)
goes_learning secrets setup past s secret none known tied = record {
  meets = ((tt, (tt, record { by = tt; none = sym tied.next ∙ ap number_in (unknown_before s secret none); number = ap (λ (n : ℕ). n + 1) tied.current })), tt);
  tied = tied_generations secrets setup past s (stamped s.moment (Learnt (s.group.generation + 1))) (omega arith) refl refl refl refl s.group (Some (next_group s secret))
      (record { current = tied.holds.current; next = λ g is. (let same : next_group s secret ≡ g = cc in subst (HasSecret secrets) same known); attempts = tied.holds.attempts; kept = tied.holds.kept }) tied.current refl tied;
  moment = refl;
}

-- ---- it is the current one

-- an attempt has what it had in the keying stage, and the current one before that
stage_known : (secrets : Secrets) (old new : GroupSecret) (stage : Stage) → HasSecret secrets new → HasSecret secrets (stage_group old stage) → HasSecret secrets (stage_group new stage)
stage_known secrets old new Hello has had = has
stage_known secrets old new (Keying at cookie under) has had = had

left_none : (generation : ℕ) → next_left (Some generation) (Some generation) ≡ None
left_none generation = ap (λ (b : Bool). if b then None else Some generation) (let same : (generation == generation) ≡ true = grind (arith, nat_tests) in same)

pub goes_advancing : (secrets : Secrets) (setup : Setup) (past : Past) (s : State) (next : GroupSecret) → s.next ≡ Some next → Tied secrets setup past s → Goes secrets setup Advance past s (advancing_to s (Some next))
goes_advancing secrets setup past s next is tied =
    let number : next_of past ≡ Some next.generation = sym tied.next ∙ ap number_in is in
    let known : HasSecret secrets next = tied.holds.next next is in
    record {
      meets = ((tt, (tt, record { by = refl; number = number })), tt);
      tied = tied_generations secrets setup past s (stamped s.moment (Advanced next.generation)) (omega arith) refl refl refl refl next None
          (record { current = known; next = λ g none. absurd (cc); attempts = λ near a there. stage_known secrets s.group next a.stage known (tied.holds.attempts near a there); kept = tied.holds.kept }) refl
          (sym (ap (next_left (Some next.generation)) number ∙ left_none next.generation)) tied;
      moment = refl;
    }
