-- Which secrets of its group an end keeps.
use Rattle.std.specs.Prelude.{◌≡◌, ◌⊎◌, ℕ, List, Option, Some, None}
use Rattle.std.specs.FinMap.{get}
use Rattle.crypto_profile.specs.declared.group.GroupSecret.{GroupSecret}
use Rattle.startup.specs.declared.attempt.Stage.{Stage}
use Rattle.startup.specs.declared.attempt.Stage.TheVariants.{Hello, Keying}
use Rattle.startup.specs.State.{AttemptState}
use Rattle.endpoint_model.specs.State.{State}

abbrev pub IsSecretOf : Option GroupSecret → List ℕ → Type 0
IsSecretOf None secret = ⊥
IsSecretOf (Some group) secret = group.secret ≡ secret

abbrev pub KeepsAt : Stage → List ℕ → Type 0
KeepsAt Hello secret = ⊥
KeepsAt (Keying at cookie under) secret = under.secret ≡ secret

-- An attempt in the keying stage keeps it.
pub record AttemptKeeps (s : State) (secret : List ℕ) : Type 0 where
  pub near : ℕ
  pub attempt : AttemptState
  pub there : get s.startup.attempts near ≡ Some attempt
  pub keeps : KeepsAt attempt.stage secret

-- The end keeps it as the secret of the current generation, as that of the next one, or for an
-- attempt in the keying stage. Sessions, and what answers repeated keyings, keep keys that were made
-- of a secret.
abbrev pub KeepsSecret : State → List ℕ → Type 0
KeepsSecret s secret =
    (s.group.secret ≡ secret) ⊎ (IsSecretOf s.next secret ⊎ AttemptKeeps s secret)

-- It is the next one, or an attempt in the keying stage keeps it.
abbrev pub IsLeft : State → List ℕ → Type 0
IsLeft s secret = IsSecretOf s.next secret ⊎ AttemptKeeps s secret
