-- Which attempts are sought, and how one changes.
use Rattle.std.specs.Prelude.{ℕ, ◌≤◌, ◌+◌, ◌≡◌, Bool, List, length, Option, Some, None}
use Rattle.std.specs.FinMap.{get}
use Rattle.rtmfp_forms.specs.Address.{AddressParts}
use Rattle.startup.specs.declared.attempt.Change.{Change}
use Rattle.startup.specs.declared.attempt.Change.TheVariants.{Answered, Met, Recookied, Extended, Repeated}
use Rattle.startup.specs.declared.rows.Sought.{Sought}
use Rattle.startup.specs.declared.rows.Sought.TheVariants as sought
use Rattle.startup.specs.declared.rows.FoundAttempt.{FoundAttempt}
use Rattle.startup.specs.State.{AttemptState, Attempts}
use Rattle.startup.specs.Attempts.{lowest, has_number, has_tag, has_cookie, answered, met, recookied}
use Rattle.startup.specs.Due.{repeated}
use Rattle.startup.specs.Redirects.{extended, new_candidates}

-- what is sought of an attempt
abbrev pub fits : Sought → AttemptState → Bool
fits (sought.Number n) a = has_number n a
fits (sought.Tag tag) a = has_tag tag.now a
fits (sought.Cookie cookie) a = has_cookie cookie.now a

-- An attempt that was chosen, and its near id.
pub record IsChosenAt (chosen : Option (ℕ × AttemptState)) (attempts : Attempts) (near : ℕ) :
    Type 0 where
  pub attempt : AttemptState
  pub chosen_is : chosen ≡ Some (near, attempt)
  pub there : get attempts near ≡ Some attempt

-- This attempt was chosen, and has this near id.
pub record IsChosenWith (chosen : Option (ℕ × AttemptState)) (attempts : Attempts) (near : ℕ)
    (attempt : AttemptState) : Type 0 where
  pub chosen_is : chosen ≡ Some (near, attempt)
  pub there : get attempts near ≡ Some attempt

-- the attempt that is chosen with its near id, where one is
abbrev pub IsChosen : Option (ℕ × AttemptState) → Attempts → Option FoundAttempt → Type 0
IsChosen chosen attempts None = chosen ≡ None
IsChosen chosen attempts (Some found) =
    IsChosenWith chosen attempts found.near found.attempt.now

-- its near id alone
abbrev pub IsChosenNear : Option (ℕ × AttemptState) → Attempts → Option ℕ → Type 0
IsChosenNear chosen attempts None = chosen ≡ None
IsChosenNear chosen attempts (Some near) = IsChosenAt chosen attempts near

-- What a redirect with this tag and these addresses adds to its attempt, which is in the table.
pub record IsExtension (attempts : Attempts) (tag : List ℕ) (told : List AddressParts) (near : ℕ)
    (new : List AddressParts) : Type 0 where
  pub attempt : AttemptState
  pub chosen_is : lowest (has_tag tag) attempts ≡ Some (near, attempt)
  pub there : get attempts near ≡ Some attempt
  pub new_is : new ≡ new_candidates attempt.candidates told
  pub few : length attempt.candidates + length new ≤ 16

-- ---- the change of an attempt

-- what a change leaves of an attempt at a moment
abbrev pub change_of : Change → ℕ → AttemptState → AttemptState
change_of (Answered from cookie under) moment a = answered a from.now cookie.now moment under.now
change_of (Met peer n from cookie under) moment a =
    met a peer.now n from.now cookie.now moment under.now
change_of (Recookied new) moment a = recookied a new.now moment
change_of (Extended new) moment a = extended a new.now moment
change_of Repeated moment a = repeated a moment

-- there is room for what comes with a change
abbrev pub Allows : Change → AttemptState → Type 0
Allows (Answered from cookie under) a = length cookie.now ≤ 128
Allows (Met peer n from cookie under) a = length cookie.now ≤ 128
Allows (Recookied new) a = length new.now ≤ 128
Allows (Extended new) a = length a.candidates + length new.now ≤ 16
Allows Repeated a = 0 ≤ 0

-- the number that an attempt gets by it, where it does
abbrev pub number_got : Change → Option ℕ
number_got (Answered from cookie under) = None
number_got (Met peer n from cookie under) = Some n
number_got (Recookied new) = None
number_got (Extended new) = None
number_got Repeated = None
