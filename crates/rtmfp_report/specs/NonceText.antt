-- The text of nonces.
use Rattle.std.specs.Prelude.{ℕ, ◌==◌, List, [], ◌∷◌, codes, if◌then◌else◌}
use Rattle.hex.specs.Hex.{encode_lower}

-- digits without the zeros that stand in front, and the digit 0 where no other is there
abbrev pub without_zeros : List ℕ → List ℕ
without_zeros [] = codes "0"
without_zeros (digit ∷ digits) = if digit == 48 then without_zeros digits else digit ∷ digits

-- a nonce as one hexadecimal number
unfoldable pub nonce_text : List ℕ → List ℕ
nonce_text nonce = without_zeros (encode_lower nonce)
