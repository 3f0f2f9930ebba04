-- What a write adds to the bytes that were taken, and what a flush passes on, where they are told.
use Rattle.std.specs.Prelude.{◌≡◌, ℕ, List, ◌++◌, take, Option, Some, None}
use Rattle.rtmfp_host.specs.declared.sink.Wrote.{Wrote}
use Rattle.rtmfp_host.specs.declared.sink.Wrote.TheVariants.{Done, Failed}

-- these bytes were added at the end, as long as the sink tells
abbrev pub Appends : Option (List ℕ) → Option (List ℕ) → List ℕ → Type 0
Appends before None bytes = Unit {0}
Appends None (Some now) bytes = ⊥
Appends (Some before) (Some now) bytes = now ≡ before ++ bytes

-- what one write does: at Failed a prefix of the bytes was taken
abbrev pub Writes : Option (List ℕ) → Option (List ℕ) → Wrote → List ℕ → Type 0
Writes before now Done bytes = Appends before now bytes
Writes before now Failed bytes = (k : ℕ) × Appends before now (take k bytes)

-- what one flush does: at Done all that was taken is passed on
abbrev pub Passes : Wrote → Option (List ℕ) → Option (List ℕ) → Type 0
Passes Done written passed = passed ≡ written
Passes Failed written passed = Unit {0}

-- a first part of what was taken, as long as the sink tells
abbrev pub IsFirstPart : Option (List ℕ) → Option (List ℕ) → Type 0
IsFirstPart None written = Unit {0}
IsFirstPart (Some passed) None = ⊥
IsFirstPart (Some passed) (Some written) = (rest : List ℕ) × (written ≡ passed ++ rest)
