-- Options from left to right, with the first fault that is met.
use Rattle.std.specs.Borrow.{Bor}
use Rattle.std.specs.Option.{option_map}
use Rattle.std.specs.Prelude.{◌≡◌, ℕ, zero, suc, List, [], ◌∷◌, length, take, drop, Option, Some, None, Result, Ok, Err, nat_lt, ◌==◌, if◌then◌else◌}
use Rattle.rtmfp_vlu.specs.declared.reading.VluFault.{VluFault}
use Rattle.rtmfp_vlu.specs.declared.reading.VluFault.TheVariants as vlu
use Rattle.rtmfp_vlu.specs.Reading.{number_at}
use Rattle.rtmfp_forms.specs.declared.fault.FormFault.{FormFault}
use Rattle.rtmfp_forms.specs.declared.fault.FormFault.TheVariants.{Short, Large, NoMarker}
use Rattle.rtmfp_forms.specs.declared.options.OptionView.{OptionView}
use Rattle.rtmfp_forms.specs.Options.{OptionParts}

-- an option without where it lies in memory
abbrev pub option_parts : OptionView → OptionParts
option_parts o = record { kind = o.kind; value = o.value.now }

-- what a function returned, seen by view, is what reading gives
abbrev pub Shows : {X Y : Type 0} → (X → Y) → Result X FormFault → Result Y FormFault → Type 0
Shows view (Ok x) read = read ≡ Ok (view x)
Shows view (Err fault) read = read ≡ Err fault

abbrev pub number_of : ℕ × Bor (List ℕ) → ℕ × List ℕ
number_of found = (found.0, found.1.now)

abbrev pub piece_of : Option OptionView × Bor (List ℕ) → Option OptionParts × List ℕ
piece_of found = (option_map option_parts found.0, found.1.now)

infixl 10 ◌>>=◌
abbrev pub ◌>>=◌ : {A B E : Type 0} → Result A E → (A → Result B E) → Result B E
(Ok x) >>= f = f x
(Err e) >>= f = Err e

abbrev pub fault_of : VluFault → FormFault
fault_of vlu.Short = Short
fault_of vlu.Large = Large

-- a number and the bytes after it
abbrev pub split_number : List ℕ → Result (ℕ × ℕ) VluFault → Result (ℕ × List ℕ) FormFault
split_number bytes (Ok found) = Ok (found.0, drop found.1 bytes)
split_number bytes (Err fault) = Err (fault_of fault)

unfoldable pub number_then : List ℕ → Result (ℕ × List ℕ) FormFault
number_then bytes = split_number bytes (number_at bytes)

-- the kind and the value that fill so many bytes, and the bytes after them
unfoldable pub counted_then : ℕ → List ℕ → Result (Option OptionParts × List ℕ) FormFault
counted_then size bytes = do
  kind ← number_then (take size bytes)
  if nat_lt (length bytes) size then Err Short
      else Ok (Some (record { kind = kind.0; value = kind.1 }), drop size bytes)

-- an option, or the marker, and the bytes after it
unfoldable pub piece_then : List ℕ → Result (Option OptionParts × List ℕ) FormFault
piece_then [] = Err NoMarker
piece_then (b ∷ bs) = do
  size ← number_then (b ∷ bs)
  if size.0 == 0 then Ok (None, size.1) else counted_then size.0 size.1

-- options and the marker, and the bytes after it, in so many steps
unfoldable pub options_within : ℕ → List ℕ → Result (List OptionParts × List ℕ) FormFault
options_within zero bytes = Err NoMarker
options_within (suc steps) bytes = do
  first ← piece_then bytes
  elim first.0 [
    | None ↦ Ok ([], first.1)
    | Some o ↦ options_within steps first.1 >>= λ others. Ok
        (o ∷ others.0, others.1)
  ]

-- an option has at least a byte
unfoldable pub options_then : List ℕ → Result (List OptionParts × List ℕ) FormFault
options_then bytes = options_within (suc (length bytes)) bytes

abbrev pub found_or_none : Result (List OptionParts × List ℕ) FormFault → List OptionParts
found_or_none (Ok found) = found.0
found_or_none (Err fault) = []

-- the options in front
abbrev pub options_in : List ℕ → List OptionParts
options_in bytes = found_or_none (options_then bytes)
