-- What a read takes from the bytes that are left, where they are told.
use Rattle.std.specs.Prelude.{◌≡◌, ℕ, ◌<◌, ◌≤◌, List, [], ◌++◌, length, take, Option, Some, None}
use Rattle.rtmfp_host.specs.declared.source.Taken.{Taken}
use Rattle.rtmfp_host.specs.declared.source.Taken.TheVariants.{Done, End, Failed}

-- these bytes were the first of those left, and are gone
abbrev pub Consumes : Option (List ℕ) → Option (List ℕ) → List ℕ → Type 0
Consumes None now bytes = now ≡ None
Consumes (Some left) now bytes = (rest : List ℕ) × (left ≡ bytes ++ rest) × (now ≡ Some rest)

-- no byte is left
abbrev pub IsAtEnd : Option (List ℕ) → Type 0
IsAtEnd None = Unit {0}
IsAtEnd (Some left) = left ≡ []

-- what one read does: at Done its bytes are taken, else none; at End none is left
abbrev pub Takes : Option (List ℕ) → Option (List ℕ) → Taken → List ℕ → Type 0
Takes before now (Done count) buf = (0 < count) × (count ≤ length buf) ×
    Consumes before now (take count buf)
Takes before now End buf = (now ≡ before) × IsAtEnd before
Takes before now Failed buf = now ≡ before
