-- Which attempts are chosen.
use Rattle.std.proofs.Common.{ℕ, ◌≡◌, true, false, not, List, [], ◌∷◌, Option, Some, None, is_some, sym, ap, ◌∙◌, refl}
use Rattle.std.specs.FinMap.{get}
use Rattle.rtmfp_base.specs.Reasons.{first_that_stands, where_true}
use Rattle.rtmfp_base.specs.declared.cause.Cause.{Cause}
use Rattle.startup.specs.State.{AttemptState, Attempts}
use Rattle.startup.specs.Attempts.{has_cookie, if_cookie, changed, wide, is_under, none_to_change, change_cause_among}
use Rattle.rtmfp_base.specs.declared.cause.Cause.TheVariants.{NoAttempt}
use Rattle.startup.specs.declared.rows.FoundAttempt.{FoundAttempt}
use Rattle.startup.specs.Sought.{IsChosen, IsChosenAt}
use Rattle.startup.specs.declared.leaving.Found.{Found}
use Rattle.startup.specs.State.{StartupState}
use Rattle.startup.specs.Judging.{IsFound, found_in, with_near}

-- an attempt that is there, and what was got
pub got_is : (attempts : Attempts) (near : ℕ) (a b : AttemptState) → get attempts near ≡ Some a → get attempts near ≡ Some b → a ≡ b
got_is attempts near a b x y = let e : Some a ≡ Some b = sym x ∙ y in cc

pub never_none : {A : Type 0} (x : A) (o : Option A) → None ≡ o → o ≡ Some x → ⊥
never_none x o n s = let clash : None ≡ Some x = n ∙ s in cc

-- the attempt with the near id has the cookie
module _ (attempts : Attempts) (near : ℕ) (a : AttemptState) (cookie : List ℕ) (there : get attempts near ≡ Some a) where
  pub cookie_at : has_cookie cookie a ≡ true → IsChosenAt (if_cookie cookie near (get attempts near)) attempts near
  cookie_at has = record { attempt = a; chosen_is = ap (if_cookie cookie near) there ∙ ap (λ b. where_true b (near, a)) has; there = there }

none_stands : (a b c : Option Cause) → a ≡ None → b ≡ None → c ≡ None → first_that_stands (a ∷ b ∷ c ∷ []) ≡ None
none_stands None None None x y z = refl
none_stands None None (Some w) x y z = absurd (cc)
none_stands None (Some v) c x y z = absurd (cc)
none_stands (Some u) b c x y z = absurd (cc)

third_is : (a b c : Option Cause) → a ≡ None → b ≡ None → first_that_stands (a ∷ b ∷ c ∷ []) ≡ c
third_is None None None x y = refl
third_is None None (Some w) x y = refl
third_is None (Some v) c x y = absurd (cc)
third_is (Some u) b c x y = absurd (cc)

-- where an attempt is chosen, it is the generation that counts
module _ (attempts : Attempts) (sid : ℕ) (old new : List ℕ) (generation near : ℕ) (a : AttemptState) (narrow_old : wide old ≡ None) (narrow_new : wide new ≡ None)
    (chosen : IsChosenAt (changed attempts sid old) attempts near) (there : get attempts near ≡ Some a) where
  chosen_one : none_to_change generation (changed attempts sid old) ≡ where_true (not (is_under generation a.stage)) NoAttempt
  chosen_one = ap (none_to_change generation) chosen.chosen_is ∙ ap (λ (b : AttemptState). where_true (not (is_under generation b.stage)) NoAttempt) (got_is attempts near chosen.attempt a chosen.there there)

  pub change_stands : is_under generation a.stage ≡ true → change_cause_among attempts sid old new generation ≡ None
  change_stands under =
      none_stands (wide old) (wide new) (none_to_change generation (changed attempts sid old)) narrow_old narrow_new
      (chosen_one ∙ ap (λ b. where_true (not b) NoAttempt) under)

  pub change_refused : is_under generation a.stage ≡ false → change_cause_among attempts sid old new generation ≡ Some NoAttempt
  change_refused other =
      third_is (wide old) (wide new) (none_to_change generation (changed attempts sid old)) narrow_old narrow_new
      ∙ chosen_one ∙ ap (λ b. where_true (not b) NoAttempt) other

-- something is chosen exactly where an attempt is found
pub chosen_or_none : (chosen : Option (ℕ × AttemptState)) (attempts : Attempts) (found : Option FoundAttempt) → IsChosen chosen attempts found → is_some found ≡ is_some chosen
chosen_or_none chosen attempts None is = sym (ap is_some is)
chosen_or_none chosen attempts (Some found) is = sym (ap is_some is.chosen_is)

-- what was found is what is chosen
module _ (s : StartupState) (found : Found) (chosen : Option (ℕ × AttemptState)) (is : IsFound s found chosen) where
  pub found_is : chosen ≡ found_in s found
  found_is = is.chosen_is ∙ sym (ap (with_near found.near) is.there)

  pub found_there : IsFound s found (found_in s found)
  found_there = record { attempt = is.attempt; chosen_is = ap (with_near found.near) is.there; there = is.there }
