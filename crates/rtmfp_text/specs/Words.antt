-- The words that texts are made of.
use Rattle.std.specs.Prelude.{ℕ, Bool, true, false, List, [], ◌∷◌, ◌++◌, codes, decimal, Option, Some, None}
use Rattle.hex.specs.Hex.{encode_lower}

-- bytes in hexadecimal, and a hyphen for none
abbrev pub bytes_text : List ℕ → List ℕ
bytes_text [] = codes "-"
bytes_text (b ∷ bs) = encode_lower (b ∷ bs)

-- a field: its name, and its bytes
abbrev pub field_text : List ℕ → List ℕ → List ℕ
field_text name bytes = name ++ bytes_text bytes

-- a field: its name, and its number
abbrev pub number_field_text : List ℕ → ℕ → List ℕ
number_field_text name number = name ++ decimal number

abbrev pub bit_text : Bool → List ℕ
bit_text true = codes "1"
bit_text false = codes "0"

-- a field: its name, and its bit
abbrev pub bit_field_text : List ℕ → Bool → List ℕ
bit_field_text name bit = name ++ bit_text bit

-- parts of a text, one after another
abbrev pub text_of : List (List ℕ) → List ℕ
text_of [] = []
text_of (part ∷ parts) = part ++ text_of parts

-- a number in decimal, and a hyphen for none
abbrev pub number_text : Option ℕ → List ℕ
number_text None = codes "-"
number_text (Some n) = decimal n

-- items, each behind a comma
abbrev pub behind_commas : List (List ℕ) → List ℕ
behind_commas [] = []
behind_commas (item ∷ items) = codes "," ++ (item ++ behind_commas items)

-- items with commas between them, and a hyphen for none
abbrev pub list_text : List (List ℕ) → List ℕ
list_text [] = codes "-"
list_text (item ∷ items) = item ++ behind_commas items
