-- What was due of an attempt isn't any more once it is done.
use Rattle.std.proofs.Common.{ℕ, ◌≡◌, ◌<◌, ◌+◌, ◌≤◌, ◌||◌, Bool, true, false, nat_le, Option, Some, None, IfSome, sym, ap, refl, ◌∙◌, subst, arith}
use Rattle.std.specs.FinMap.{get}
use Rattle.std.proofs.lemmas.Bool.Decides.{nat_tests}
use Rattle.rtmfp_base.proofs.Counts.{count_removed, count_changed}
use Rattle.glare_core.specs.declared.facts.Why.TheVariants.{Expired}
use Rattle.startup.specs.declared.aim.Aim.{Aim}
use Rattle.startup.specs.declared.aim.Aim.TheVariants.{AtPeer, ByName}
use Rattle.startup.specs.declared.answer.Due.{Due}
use Rattle.startup.specs.Aims.{end_of_aim}
use Rattle.startup.specs.State.{AttemptState, StartupState}
use Rattle.startup.specs.Attempts.{lowest}
use Rattle.startup.specs.Due.{gap_of, is_over, is_repeat_due, is_due, repeated, due, due_by, due_end, due_of, after_due, after_due_of, due_count}
use Rattle.startup.proofs.Keeping.{lowest_is_there, lowest_passes}

-- the end that is due is that of what is aimed at
pub due_end_is : (near : ℕ) (aim : Aim) → due_by near (end_of_aim near Expired aim) ≡ due_end near aim
due_end_is near (AtPeer peer n) = refl
due_end_is near (ByName name) = refl

a_gap : (gap : ℕ) → 1 ≤ gap_of gap
a_gap gap = grind (arith, nat_tests)

later : (moment gap : ℕ) → 1 ≤ gap → nat_le (moment + gap) moment ≡ false
later moment gap least = grind (arith, nat_tests)

-- an attempt that isn't over has nothing due once its repeat was sent
repeated_is_done : (a : AttemptState) (moment : ℕ) → is_over moment a ≡ false → is_due moment (repeated a moment) ≡ false
repeated_is_done a moment lasts =
    ap (λ b. b || is_repeat_due moment (repeated a moment)) lasts ∙ later moment (gap_of (repeated a moment).gap) (a_gap (repeated a moment).gap)

one_less : (a b : ℕ) → a + 1 ≡ b → a < b
one_less a b e = omega arith

falls_at : (s : StartupState) (moment : ℕ) (e : ℕ × AttemptState) (b : Bool) → is_over moment e.1 ≡ b → get s.attempts e.0 ≡ Some e.1 → is_due moment e.1 ≡ true →
    due_count moment (after_due_of s moment (Some e)) < due_count moment s
falls_at s moment e true over there now = rw over (one_less _ _ (count_removed (is_due moment) s.attempts e.0 e.1 there now))
falls_at s moment e false over there now = rw over (one_less _ _ (count_changed (is_due moment) s.attempts e.0 e.1 (repeated e.1 moment) there now (repeated_is_done e.1 moment over)))

falls_of : (s : StartupState) (moment : ℕ) (o : Option (ℕ × AttemptState)) → lowest (is_due moment) s.attempts ≡ o →
    IfSome (due_of s moment o) (λ _. due_count moment (after_due_of s moment o) < due_count moment s)
falls_of s moment None is = tt
falls_of s moment (Some e) is =
    falls_at s moment e (is_over moment e.1) refl (lowest_is_there (is_due moment) s.attempts e is) (lowest_passes (is_due moment) s.attempts e is)

-- Where something is due, there is less of it afterwards.
pub due_falls : (s : StartupState) (moment : ℕ) → IfSome (due s moment) (λ _. due_count moment (after_due s moment) < due_count moment s)
due_falls s moment = falls_of s moment (lowest (is_due moment) s.attempts) refl

-- the same where what is due is known
pub falls_when : (s : StartupState) (moment : ℕ) (thing : Due) → Some thing ≡ due s moment → due_count moment (after_due s moment) < due_count moment s
falls_when s moment thing told = subst (λ (o : Option Due). IfSome o (λ _. due_count moment (after_due s moment) < due_count moment s)) (sym told) (due_falls s moment)
