-- How items are read, as functions.
use Rattle.std.specs.Prelude.{ℕ, true, if◌then◌else◌, List, [], ◌∷◌, ◌++◌, codes, Option, Some, None, is_none}
use Rattle.std.specs.Str.{bytes_eq}
use Rattle.rtmfp_script.specs.Fields.{◌>>=◌, either, only_if}
use Rattle.rtmfp_words.specs.Reading.{behind_of}
use Rattle.rtmfp_words.specs.Items.{Item, Plain, Valued, Introduce, Scanned, empty, is_hyphened}
use Rattle.rtmfp_words.specs.declared.scan.OptionName.{OptionName}
use Rattle.rtmfp_words.specs.declared.scan.OptionName.TheVariants.{Turns, Port, Instance, Send, Next, Advance, Journal}

-- the option that has this name
unfoldable pub name_of : List ℕ → Option OptionName
name_of word =
    if bytes_eq word (codes "--turns") then Some Turns
    else if bytes_eq word (codes "--port") then Some Port
    else if bytes_eq word (codes "--instance") then Some Instance
    else if bytes_eq word (codes "--send") then Some Send
    else if bytes_eq word (codes "--next") then Some Next
    else if bytes_eq word (codes "--advance") then Some Advance
    else if bytes_eq word (codes "--journal") then Some Journal
    else None

-- the option that is one word, with its value
unfoldable pub joined_of : List ℕ → Option (OptionName × List ℕ)
joined_of word =
    either
    (either
    (either
    (either
    (either
    (either
    (behind_of (codes "--journal=") word >>= λ value. Some (Journal, value))
    (λ value. Some (Advance, value)) (behind_of (codes "--advance=") word))
    (λ value. Some (Next, value)) (behind_of (codes "--next=") word))
    (λ value. Some (Send, value)) (behind_of (codes "--send=") word))
    (λ value. Some (Instance, value)) (behind_of (codes "--instance=") word))
    (λ value. Some (Port, value)) (behind_of (codes "--port=") word))
    (λ value. Some (Turns, value)) (behind_of (codes "--turns=") word)

-- an item that is one word
unfoldable pub single_of : List ℕ → Option Item
single_of word =
    if is_hyphened word then
    (if bytes_eq word (codes "--introduce") then Some Introduce
    else joined_of word >>= λ p. Some (Valued p.0 p.1))
    else Some (Plain word)

-- an item more in front
abbrev pub in_front : Item → Option (List Item) → Option (List Item)
in_front item items = items >>= λ is. Some (item ∷ is)

-- all items
unfoldable pub items_of : List (List ℕ) → Option (List Item)
items_of [] = Some []
items_of (word ∷ []) = single_of word >>= λ item. Some (item ∷ [])
items_of (word ∷ next ∷ parts) = either
    (single_of word >>= λ item. in_front item (items_of (next ∷ parts)))
    (λ name. in_front (Valued name next) (items_of parts))
    (name_of word)

-- ---- what items add

-- an option with its value, if it isn't there yet
unfoldable pub put : Scanned → OptionName → List ℕ → Option Scanned
put s Turns value = only_if (is_none s.turns) (record s { turns = Some value })
put s Port value = only_if (is_none s.port) (record s { port = Some value })
put s Instance value = only_if (is_none s.instance) (record s { instance = Some value })
put s Send value = only_if (is_none s.send) (record s { send = Some value })
put s Next value = only_if (is_none s.next) (record s { next = Some value })
put s Advance value = only_if (is_none s.advance) (record s { advance = Some value })
put s Journal value = only_if (is_none s.journal) (record s { journal = Some value })

unfoldable pub add : Scanned → Item → Option Scanned
add s (Plain word) = Some (record s { plain = s.plain ++ word ∷ [] })
add s (Valued name value) = put s name value
add s Introduce = if s.introduce then None else Some (record s { introduce = true })

unfoldable pub add_all : Scanned → List Item → Option Scanned
add_all s [] = Some s
add_all s (item ∷ items) = add s item >>= λ t. add_all t items

unfoldable pub scan_of : List (List ℕ) → Option Scanned
scan_of parts = items_of parts >>= λ items. add_all empty items
