-- The secrets and the keys that are kept of a group.
use Rattle.std.specs.Prelude.{ℕ, ◌≡◌, List, Option, Some, None, IfSome, slice_get}
use Rattle.std.specs.FinMap.{get, insert, empty}
use Rattle.crypto_profile.specs.declared.group.GroupSecret.{GroupSecret}
use Rattle.crypto_profile.specs.Keys.{keys_of}
use Rattle.counted_secrets.specs.Secrets.{counted_secrets}
use Rattle.endpoint_laws.specs.Contexts.{Secrets, generation_of}
use Rattle.rtmfp_report.specs.declared.group_secrets.GroupSecrets.{GroupSecrets}
use Rattle.rtmfp_report.specs.declared.group_secrets.GroupSecrets.TheVariants.{Counted, Given}
use Rattle.rtmfp_report.specs.declared.group_keys.KeptKey.{KeptKey}

-- the secret of generation 0, and that of generation 1 where it is known
abbrev pub given_secrets : List ℕ → Option (List ℕ) → Secrets
given_secrets first None = insert empty 0 first
given_secrets first (Some next) = insert (insert empty 0 first) 1 next

-- by their generations
abbrev pub secrets_in : GroupSecrets → Secrets
secrets_in Counted = counted_secrets
secrets_in (Given first next) = given_secrets first next

-- A secret that was hashed is that of its generation.
abbrev pub IsOfGroup : Secrets → Option GroupSecret → Type 0
IsOfGroup secrets None = Unit {0}
IsOfGroup secrets (Some g) = get secrets g.generation ≡ Some g.secret

-- the key is that of its context's keystream under the secret of its generation
abbrev pub IsUnder : Secrets → Option KeptKey → Type 0
IsUnder secrets None = Unit {0}
IsUnder secrets (Some kept) = IfSome (get secrets (generation_of kept.context))
    (λ secret. kept.key ≡ (keys_of secret kept.context).enc)

abbrev pub AreUnder : Secrets → List (Option KeptKey) → Type 0
AreUnder secrets kept = (slot : ℕ) (row : Option KeptKey) → slice_get kept slot ≡ Some row →
    IsUnder secrets row

pub record HasKeys (secrets : Secrets) (even odd : Option GroupSecret)
    (kept : List (Option KeptKey)) : Type 0 where
  pub even_is : IsOfGroup secrets even
  pub odd_is : IsOfGroup secrets odd
  pub kept_keys : AreUnder secrets kept
