-- Fingerprints, as a set.
use Rattle.std.specs.Prelude.{ℕ, List, ◌≡◌, Bool, true, cond}
use Rattle.std.specs.List.{list_any}
use Rattle.std.specs.Str.{bytes_eq}
use Rattle.glare_core.specs.Steps.{Among}

abbrev pub has_print : List (List ℕ) → List ℕ → Bool
has_print each print = list_any (bytes_eq print) each

-- They are these fingerprints.
pub record ArePrints (prints each : List (List ℕ)) : Type 0 where
  pub there : (print : List ℕ) → Among print prints → has_print each print ≡ true
  pub is : (print : List ℕ) → has_print each print ≡ true → Among print prints

-- They are those before and this one.
pub record HasOneMorePrint (print : List ℕ) (old new : List (List ℕ)) : Type 0 where
  pub has : (q : List ℕ) → has_print new q ≡ cond (bytes_eq print q) true (has_print old q)
