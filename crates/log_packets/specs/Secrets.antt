-- A map of a group's secrets, and what is kept for it.
use Rattle.std.specs.Prelude.{ℕ, List, [], ◌∷◌, ◌≡◌, ◌==◌, Bool, true, Option, Some, None}
use Rattle.std.specs.Map.{lookup}
use Rattle.std.specs.Str.{bytes_eq}
use Rattle.std.specs.FinMap.{from_entries, get, insert}
use Rattle.crypto_profile.specs.declared.group.GroupSecret.{GroupSecret}
use Rattle.endpoint_laws.specs.Contexts.{Secrets}

-- the secrets of entries
abbrev pub plain_entries : List (ℕ × GroupSecret) → List (ℕ × List ℕ)
plain_entries [] = []
plain_entries (e ∷ es) = (e.0, e.1.secret) ∷ plain_entries es

abbrev pub secrets_of : List (ℕ × GroupSecret) → Secrets
secrets_of entries = from_entries (plain_entries entries)

-- Each stands under its number.
pub record AreNumbered (entries : List (ℕ × GroupSecret)) : Type 0 where
  pub number : (generation : ℕ) (group : GroupSecret) →
      lookup (λ k. generation == k) entries ≡ Some group → group.generation ≡ generation

-- whether a generation of which this is known may have this secret
abbrev pub may_have : Option (List ℕ) → List ℕ → Bool
may_have None secret = true
may_have (Some known) secret = bytes_eq known secret

-- the secrets with this one, where none is known for its generation
abbrev pub added_to : Option (List ℕ) → ℕ → List ℕ → Secrets → Secrets
added_to None generation secret secrets = insert secrets generation secret
added_to (Some known) generation secret secrets = secrets

abbrev pub with_secret : ℕ → List ℕ → Secrets → Secrets
with_secret generation secret secrets =
    added_to (get secrets generation) generation secret secrets
