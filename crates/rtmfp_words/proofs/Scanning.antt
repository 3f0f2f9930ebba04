-- One step of the reader of items.
use Rattle.std.proofs.Common.{◌≡◌, ℕ, List, [], ◌∷◌, Option, Some, None, refl, sym, ap, ◌∙◌, arith}
use Rattle.std.specs.Prelude.{map, length, ◌<◌, String, string_bytes, Err}
use Rattle.std.specs.declared.alloc.Global.{Global}
use Rattle.rtmfp_script.specs.Fields.{◌>>=◌}
use Rattle.rtmfp_script.proofs.Splits.{bind_some}
use Rattle.rtmfp_words.specs.Items.{empty, Item, Valued, Scanned}
use Rattle.rtmfp_words.specs.ItemReading.{name_of, single_of, in_front, items_of, put, add, add_all, scan_of}
use Rattle.rtmfp_words.specs.Scanning.{scan_with, single_added, Steps}
use Rattle.rtmfp_words.specs.declared.scan.OptionName.{OptionName}
use Rattle.rtmfp_words.specs.declared.fault.WordsFault.{WordsFault}
use Rattle.rtmfp_words.specs.declared.fault.WordsFault.TheVariants.{Faulty, Memory}
use Rattle.rtmfp_words.proofs.ItemsRead.{single_first, single_stops, name_first, name_last}

-- the first item is added before the others
front_goes : (s t : Scanned) (item : Item) (o : Option (List Item)) → add s item ≡ Some t → (in_front item o >>= λ items. add_all s items) ≡ (o >>= λ items. add_all t items)
unfolding add_all
front_goes s t item None is = refl
front_goes s t item (Some items) is = ap (λ (u : Option Scanned). u >>= λ x. add_all x items) is

front_stops : (s : Scanned) (item : Item) (o : Option (List Item)) → add s item ≡ None → (in_front item o >>= λ items. add_all s items) ≡ None
unfolding add_all
front_stops s item None is = refl
front_stops s item (Some items) is = ap (λ (u : Option Scanned). u >>= λ x. add_all x items) is

put_is_add : (s : Scanned) (name : OptionName) (value : List ℕ) (o : Option Scanned) → put s name value ≡ o → add s (Valued name value) ≡ o
unfolding add
put_is_add s name value o is = is

pub named_goes : (s t : Scanned) (word value : List ℕ) (name : OptionName) (parts : List (List ℕ)) → name_of word ≡ Some name → put s name value ≡ Some t → scan_with s (word ∷ value ∷ parts) ≡ scan_with t parts
unfolding scan_with
named_goes s t word value name parts is found =
    ap (λ (o : Option (List Item)). o >>= λ items. add_all s items) (name_first word value name parts is)
    ∙ front_goes s t (Valued name value) (items_of parts) (put_is_add s name value (Some t) found)

pub named_stops : (s : Scanned) (word value : List ℕ) (name : OptionName) (parts : List (List ℕ)) → name_of word ≡ Some name → put s name value ≡ None → scan_with s (word ∷ value ∷ parts) ≡ None
unfolding scan_with
named_stops s word value name parts is found =
    ap (λ (o : Option (List Item)). o >>= λ items. add_all s items) (name_first word value name parts is)
    ∙ front_stops s (Valued name value) (items_of parts) (put_is_add s name value None found)

pub last_stops : (s : Scanned) (word : List ℕ) (name : OptionName) → name_of word ≡ Some name → scan_with s (word ∷ []) ≡ None
unfolding scan_with
last_stops s word name is = ap (λ (o : Option (List Item)). o >>= λ items. add_all s items) (name_last word name is)

pub single_goes : (s t : Scanned) (word : List ℕ) (parts : List (List ℕ)) → name_of word ≡ None → single_added s word ≡ Some t → scan_with s (word ∷ parts) ≡ scan_with t parts
unfolding scan_with single_added
single_goes s t word parts is found =
    let n = bind_some (single_of word) (λ item. add s item) t found in
    ap (λ (o : Option (List Item)). o >>= λ items. add_all s items) (single_first word n.0 parts is n.1)
    ∙ front_goes s t n.0 (items_of parts) n.2

single_missing : (s : Scanned) (word : List ℕ) (parts : List (List ℕ)) (o : Option Item) → single_of word ≡ o → name_of word ≡ None → (o >>= λ item. add s item) ≡ None → scan_with s (word ∷ parts) ≡ None
unfolding scan_with
single_missing s word parts None one is found = ap (λ (o : Option (List Item)). o >>= λ items. add_all s items) (single_stops word parts is one)
single_missing s word parts (Some item) one is found =
    ap (λ (o : Option (List Item)). o >>= λ items. add_all s items) (single_first word item parts is one)
    ∙ front_stops s item (items_of parts) found

pub single_ends : (s : Scanned) (word : List ℕ) (parts : List (List ℕ)) → name_of word ≡ None → single_added s word ≡ None → scan_with s (word ∷ parts) ≡ None
unfolding single_added
single_ends s word parts is found = single_missing s word parts (single_of word) refl is found

pub scan_ends : (s : Scanned) → scan_with s [] ≡ Some s
unfolding scan_with items_of add_all
scan_ends s = refl

pub scan_begins : (parts : List (List ℕ)) → scan_with empty parts ≡ scan_of parts
unfolding scan_with scan_of
scan_begins parts = refl

-- ---- as the reader tells them

pub take_named : (s t : Scanned) (word text : List ℕ) (name : OptionName) (found : Option OptionName) (after rest : List (String Global)) (value : String Global) → found ≡ name_of word → found ≡ Some name → after ≡ value ∷ rest → text ≡ string_bytes value → put s name text ≡ Some t →
    scan_with s (word ∷ map string_bytes after) ≡ scan_with t (map string_bytes rest)
take_named s t word text name found after rest value told is split written filled =
    ap (λ (ws : List (String Global)). scan_with s (word ∷ map string_bytes ws)) split
    ∙ ap (λ (v : List ℕ). scan_with s (word ∷ v ∷ map string_bytes rest)) (sym written)
    ∙ named_goes s t word text name (map string_bytes rest) (sym told ∙ is) filled

pub named_refused : (s : Scanned) (word text : List ℕ) (name : OptionName) (found : Option OptionName) (after rest : List (String Global)) (value : String Global) → found ≡ name_of word → found ≡ Some name → after ≡ value ∷ rest → text ≡ string_bytes value → put s name text ≡ None →
    scan_with s (word ∷ map string_bytes after) ≡ None
named_refused s word text name found after rest value told is split written filled =
    ap (λ (ws : List (String Global)). scan_with s (word ∷ map string_bytes ws)) split
    ∙ ap (λ (v : List ℕ). scan_with s (word ∷ v ∷ map string_bytes rest)) (sym written)
    ∙ named_stops s word text name (map string_bytes rest) (sym told ∙ is) filled

pub value_missing : (s : Scanned) (word : List ℕ) (name : OptionName) (found : Option OptionName) (after : List (String Global)) → found ≡ name_of word → found ≡ Some name → length after ≡ 0 → scan_with s (word ∷ map string_bytes after) ≡ None
value_missing s word name found [] told is none = last_stops s word name (sym told ∙ is)
value_missing s word name found (value ∷ after) told is none = absurd (omega arith)

-- a step that was refused
pub when_faulty : (found : Option Scanned) (fault : WordsFault) (now : Scanned) (Left : Type 0) → Steps {A = Unit {0}} found (Err fault) now → (found ≡ None → Left) → fault ≡ Faulty → Left
when_faulty found Faulty now Left steps goes is = goes steps
when_faulty found Memory now Left steps goes is = absurd (cc)

-- no word is left
pub scanned : (s : Scanned) (rest : List (String Global)) (parts : List (List ℕ)) → scan_with s (map string_bytes rest) ≡ scan_of parts → length rest < 1 → scan_of parts ≡ Some s
scanned s [] parts all none = sym all ∙ scan_ends s
scanned s (word ∷ rest) parts all none = absurd (omega (arith, none))
