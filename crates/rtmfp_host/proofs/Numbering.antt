-- Children whose numbers rise.
use Rattle.std.proofs.Common.{◌≡◌, ℕ, ◌+◌, ◌≤◌, ◌==◌, Bool, true, false, ◌||◌, List, [], ◌∷◌, ◌++◌, Option, Some, None, ap, ◌∙◌, arith, refl}
use Rattle.std.specs.Prelude.{if◌then◌else◌}
use Rattle.std.specs.List.{All}
use Rattle.std.proofs.lemmas.List.Folds.{list_any_none}
use Rattle.rtmfp_host.specs.Spawning.{gave, was_given, IsBelow, IsStarted, Appended, Starts}
use Rattle.rtmfp_host.specs.declared.spawner.SpawnCall.{SpawnCall}
use Rattle.rtmfp_host.specs.declared.spawner.SpawnCall.TheVariants.{Start, Wait}
use Rattle.rtmfp_host.specs.declared.spawner.Begun.TheVariants.{Child}

not_below : (n child : ℕ) → child + 1 ≤ n → (child == n) ≡ false
not_below n child below = grind arith

not_given : (n : ℕ) (call : SpawnCall) → IsBelow n call → gave n call ≡ false
not_given n (Start words None) below = refl
not_given n (Start words (Some child)) below = not_below n child below
not_given n (Wait child status text) below = refl

-- the number that all are below is new
pub fresh : (n : ℕ) (calls : List SpawnCall) → All (IsBelow n) calls → was_given n calls ≡ false
fresh n calls below = list_any_none (gave n) calls (λ k d within. not_given n _ (below k d within))

pub begins : (whole : Bool) (calls : List SpawnCall) (now : Option (List SpawnCall)) (words : List (List ℕ)) (n : ℕ) → All (IsBelow n) calls → Appended (if whole then Some calls else None) now (Start words (Some n)) →
    Starts (if whole then Some calls else None) now words (Child n)
begins whole calls None words n below is = tt
begins true calls (Some now) words n below is = (is, fresh n calls below)
begins false calls (Some now) words n below is = is

or_true : (b : Bool) → (b || true) ≡ true
or_true true = refl
or_true false = refl

gives_last : (n : ℕ) (calls : List SpawnCall) (words : List (List ℕ)) → was_given n (calls ++ Start words (Some n) ∷ []) ≡ true
gives_last n [] words = grind arith
gives_last n (call ∷ calls) words = rw (gives_last n calls words) (or_true (gave n call))

-- the child that a start gave may be waited for
pub started : (before now : Option (List SpawnCall)) (words : List (List ℕ)) (n : ℕ) → Starts before now words (Child n) → IsStarted now n
started before None words n s = tt
started None (Some now) words n s = absurd s
started (Some before) (Some now) words n s = ap (was_given n) s.0 ∙ gives_last n before words
