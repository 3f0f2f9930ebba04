-- The secret of a generation, hashed, and keys under it.
use Rattle.std.specs.Prelude.{ℕ, ◌≡◌, List, Option, Some, None}
use Rattle.std.specs.FinMap.{get}
use Rattle.crypto_profile.specs.declared.group.GroupSecret.{GroupSecret}
use Rattle.crypto_profile.specs.declared.keys.Context.{Context}
use Rattle.crypto_profile.specs.Keys.{keys_of}
use Rattle.endpoint_laws.specs.Contexts.{Secrets, generation_of}
use Rattle.rtmfp_report.specs.declared.group_keys.Hashed.{Hashed}
use Rattle.rtmfp_report.specs.declared.group_keys.Hashed.TheVariants.{Kept, Made}

abbrev pub hashed_of : Hashed → GroupSecret
hashed_of (Kept group) = group.now
hashed_of (Made group) = group

-- It is the secret of this generation, and there is none exactly where the generation has none.
pub record IsSecretOf (secrets : Secrets) (generation : ℕ) (g : GroupSecret) : Type 0 where
  pub number : g.generation ≡ generation
  pub known : get secrets generation ≡ Some g.secret

abbrev pub IsFor : Secrets → ℕ → Option Hashed → Type 0
IsFor secrets generation None = get secrets generation ≡ None
IsFor secrets generation (Some hashed) = IsSecretOf secrets generation (hashed_of hashed)

abbrev pub IsKeyUnder : Option (List ℕ) → Context → Option (List ℕ) → Type 0
IsKeyUnder None context key = key ≡ None
IsKeyUnder (Some secret) context key = key ≡ Some (keys_of secret context).enc

-- The key of a context's keystream, under the secret of its generation; none where that has none.
abbrev pub IsKeyOf : Secrets → Context → Option (List ℕ) → Type 0
IsKeyOf secrets context key = IsKeyUnder (get secrets (generation_of context)) context key
