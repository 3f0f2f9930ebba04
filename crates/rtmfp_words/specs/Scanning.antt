-- What one step of the reader of items does.
use Rattle.std.specs.Prelude.{◌≡◌, ℕ, Bool, true, false, List, Option, Some, None, Result, Ok, Err}
use Rattle.rtmfp_script.specs.Fields.{◌>>=◌}
use Rattle.rtmfp_words.specs.Items.{Scanned}
use Rattle.rtmfp_words.specs.ItemReading.{items_of, single_of, add, add_all}
use Rattle.rtmfp_words.specs.declared.fault.WordsFault.{WordsFault}
use Rattle.rtmfp_words.specs.declared.fault.WordsFault.TheVariants.{Faulty, Memory}

-- what the items of further words make of what was found
unfoldable pub scan_with : Scanned → List (List ℕ) → Option Scanned
scan_with s parts = items_of parts >>= λ items. add_all s items

-- what a value does that isn't there yet
abbrev pub filled : Option (List ℕ) → List ℕ → Option (List ℕ)
filled None value = Some value
filled (Some before) value = Some before

-- a step that tells whether it was one
abbrev pub Tells : Option Scanned → Bool → Scanned → Type 0
Tells found true now = found ≡ Some now
Tells found false now = found ≡ None

-- a word that is an item of its own
unfoldable pub single_added : Scanned → List ℕ → Option Scanned
single_added s word = single_of word >>= λ item. add s item

-- a step that may want memory, of which nothing is said then
abbrev pub Steps : {A : Type 0} → Option Scanned → Result A WordsFault → Scanned → Type 0
Steps found (Ok a) now = found ≡ Some now
Steps found (Err Faulty) now = found ≡ None
Steps found (Err Memory) now = Unit {0}

-- one item, and what is left behind it
abbrev pub Goes : Scanned → List (List ℕ) → Scanned → Option (List (List ℕ)) → Type 0
Goes before parts now None = scan_with before parts ≡ None
Goes before parts now (Some rest) = scan_with before parts ≡ scan_with now rest
