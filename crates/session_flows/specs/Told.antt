-- What the options of a user data chunk tell of its flow (RFC 7016 section 2.3.11.1).
use Rattle.std.specs.Prelude.{ℕ, ◌==◌, Bool, false, List, [], ◌∷◌, Option, Some, None}
use Rattle.rtmfp_forms.specs.Options.{OptionParts}

abbrev pub options_of : Option (List OptionParts) → List OptionParts
options_of None = []
options_of (Some options) = options

-- metadata that begin with an `a` have messages handed over as they arrive (own)
abbrev pub begins_with_a : List ℕ → Bool
begins_with_a [] = false
begins_with_a (b ∷ rest) = b == 97

-- its first byte, or 0
abbrev pub first_byte : List ℕ → ℕ
first_byte [] = 0
first_byte (b ∷ rest) = b
