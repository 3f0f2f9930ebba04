-- The order of fingerprints.
use Rattle.std.specs.Prelude.{ℕ, List, [], ◌∷◌, ◌≢◌, ◌⊎◌, Bool, true, false, ◌||◌, ◌&&◌, nat_lt, ◌==◌, IsTrue}

-- Whether the list x is above the list y in byte order: at the first index where they differ x has
-- the greater byte, or y ends there.
abbrev pub is_above : List ℕ → List ℕ → Bool
is_above [] ys = false
is_above (x ∷ xs) [] = true
is_above (x ∷ xs) (y ∷ ys) = nat_lt y x || ((x == y) && is_above xs ys)

-- An end prevails over another where its fingerprint is above the other's.
abbrev pub Prevails : List ℕ → List ℕ → Type 0
Prevails x y = IsTrue (is_above x y)

-- none is above itself
abbrev pub IsIrreflexive : (List ℕ → List ℕ → Type 0) → Type 0
IsIrreflexive Above = (x : List ℕ) → ¬ (Above x x)

-- of two at most one is above the other
abbrev pub IsAsymmetric : (List ℕ → List ℕ → Type 0) → Type 0
IsAsymmetric Above = (x y : List ℕ) → Above x y → ¬ (Above y x)

-- what is above something is above all that this is above
abbrev pub IsTransitive : (List ℕ → List ℕ → Type 0) → Type 0
IsTransitive Above = (x y z : List ℕ) → Above x y → Above y z → Above x z

-- of two different ones at least one is above the other
abbrev pub OneIsAbove : (List ℕ → List ℕ → Type 0) → Type 0
OneIsAbove Above = (x y : List ℕ) → x ≢ y → Above x y ⊎ Above y x
