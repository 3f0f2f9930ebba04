-- Whether the secret that a call learns counts.
use Rattle.std.proofs.Common.{ℕ, ◌≡◌, List, [], ◌∷◌, refl, sym, subst, true, Option, Some, None}
use Rattle.endpoint_model.specs.declared.entry.Entry.{Entry}
use Rattle.endpoint_laws.specs.Contexts.{Secrets}
use Rattle.log_packets.specs.Asked.{Tells}
use Rattle.log_verdict.specs.Checks.{LearnsCount}

-- It counts for the rest exactly where it does for all.
pub record CountSoFar (secrets : Secrets) (secret : List ℕ) (entries rest : List Entry) : Type 0 where
  pub yes : LearnsCount secrets (Some secret) rest → LearnsCount secrets (Some secret) entries
  pub no : LearnsCount secrets (Some secret) entries → LearnsCount secrets (Some secret) rest

nothing_counts : (secrets : Secrets) (entries : List Entry) → LearnsCount secrets None entries
nothing_counts secrets [] = tt
nothing_counts secrets (entry ∷ rest) = (tt, nothing_counts secrets rest)

-- where a call learns none
pub none_counts : (secrets : Secrets) (learns : Option (List ℕ)) (entries : List Entry) → learns ≡ None → Tells (LearnsCount secrets learns entries) true
none_counts secrets learns entries none = record {
  yes = λ e. subst (λ (o : Option (List ℕ)). LearnsCount secrets o entries) (sym none) (nothing_counts secrets entries);
  no = λ counts. refl;
}
