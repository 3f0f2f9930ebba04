-- What texts call an end.
use Rattle.std.specs.Prelude.{ℕ, ◌≡◌, ◌||◌, Bool, false, List, [], ◌∷◌, Option, Some, None, slice_get, if◌then◌else◌}
use Rattle.std.specs.List.{list_any}
use Rattle.std.specs.Str.{bytes_eq}
use Rattle.hex.specs.Hex.{encode_lower}
use Rattle.rtmfp_text.specs.declared.names.Named.{Named}

-- the name of the first of these ends that has the fingerprint, and the fingerprint in hexadecimal
-- where none has it
abbrev pub peer_text : List Named → List ℕ → List ℕ
peer_text [] print = encode_lower print
peer_text (end ∷ ends) print = if bytes_eq end.print print then end.name else peer_text ends print

-- an end has this name, or this fingerprint
abbrev pub is_like : List ℕ → List ℕ → Named → Bool
is_like name print end = bytes_eq end.name name || bytes_eq end.print print

-- No two of these ends have the same name or the same fingerprint.
abbrev pub AreUnlike : List Named → Type 0
AreUnlike [] = Unit {0}
AreUnlike (end ∷ ends) = (list_any (is_like end.name end.print) ends ≡ false) × AreUnlike ends

abbrev pub is_called : List ℕ → Option Named → Bool
is_called name None = false
is_called name (Some end) = bytes_eq end.name name

-- the end with this number is there, and has this name
abbrev pub is_called_at : List Named → ℕ → List ℕ → Bool
is_called_at ends number name = is_called name (slice_get ends number)
