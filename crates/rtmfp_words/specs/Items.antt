-- The words behind a command as items: plain words, and options (own).
use Rattle.std.specs.Prelude.{◌≡◌, ◌==◌, ℕ, Bool, true, false, List, [], ◌∷◌, ◌++◌, codes, Option, Some, None}
use Rattle.rtmfp_words.specs.Words.{OptionSpells}
use Rattle.rtmfp_words.specs.declared.scan.OptionName.{OptionName}
use Rattle.rtmfp_words.specs.declared.scan.OptionName.TheVariants.{Turns, Port, Instance, Send, Next, Advance, Journal}

abbrev pub name_text : OptionName → List ℕ
name_text Turns = codes "--turns"
name_text Port = codes "--port"
name_text Instance = codes "--instance"
name_text Send = codes "--send"
name_text Next = codes "--next"
name_text Advance = codes "--advance"
name_text Journal = codes "--journal"

-- the word begins with a hyphen
abbrev pub is_hyphened : List ℕ → Bool
is_hyphened [] = false
is_hyphened (b ∷ word) = b == 45

-- a word, an option with its value, or `--introduce`
pub data Item : Type 0 where
  Plain : List ℕ → Item
  Valued : OptionName → List ℕ → Item
  Introduce : Item

-- these words are the item; any word may be the value of an option
abbrev pub ItemSpells : Item → List (List ℕ) → Type 0
ItemSpells (Plain word) parts = (parts ≡ word ∷ []) × (is_hyphened word ≡ false)
ItemSpells (Valued name value) parts = OptionSpells (name_text name) value parts
ItemSpells Introduce parts = parts ≡ codes "--introduce" ∷ []

-- one after another
abbrev pub ItemsSpell : List Item → List (List ℕ) → Type 0
ItemsSpell [] parts = parts ≡ []
ItemsSpell (item ∷ items) parts = (front rest : List (List ℕ)) × ItemSpells item front ×
    ItemsSpell items rest × (parts ≡ front ++ rest)

-- the plain words in their order, and the values of each option
pub record Gathered : Type 0 where
  pub plain : List (List ℕ)
  pub turns : List (List ℕ)
  pub port : List (List ℕ)
  pub instance : List (List ℕ)
  pub send : List (List ℕ)
  pub next : List (List ℕ)
  pub advance : List (List ℕ)
  pub journal : List (List ℕ)
  pub introduce : List Bool

abbrev pub nothing : Gathered
nothing = record {
  plain = [];
  turns = [];
  port = [];
  instance = [];
  send = [];
  next = [];
  advance = [];
  journal = [];
  introduce = [];
}

abbrev pub of_item : Item → Gathered
of_item (Plain word) = record nothing { plain = word ∷ [] }
of_item (Valued Turns value) = record nothing { turns = value ∷ [] }
of_item (Valued Port value) = record nothing { port = value ∷ [] }
of_item (Valued Instance value) = record nothing { instance = value ∷ [] }
of_item (Valued Send value) = record nothing { send = value ∷ [] }
of_item (Valued Next value) = record nothing { next = value ∷ [] }
of_item (Valued Advance value) = record nothing { advance = value ∷ [] }
of_item (Valued Journal value) = record nothing { journal = value ∷ [] }
of_item Introduce = record nothing { introduce = true ∷ [] }

abbrev pub joined : Gathered → Gathered → Gathered
joined a b = record {
  plain = a.plain ++ b.plain;
  turns = a.turns ++ b.turns;
  port = a.port ++ b.port;
  instance = a.instance ++ b.instance;
  send = a.send ++ b.send;
  next = a.next ++ b.next;
  advance = a.advance ++ b.advance;
  journal = a.journal ++ b.journal;
  introduce = a.introduce ++ b.introduce;
}

abbrev pub gathered : List Item → Gathered
gathered [] = nothing
gathered (item ∷ items) = joined (of_item item) (gathered items)

-- plain words, and options that stand once at most; and none of them
pub record Scanned : Type 0 where
  pub plain : List (List ℕ)
  pub turns : Option (List ℕ)
  pub port : Option (List ℕ)
  pub instance : Option (List ℕ)
  pub send : Option (List ℕ)
  pub next : Option (List ℕ)
  pub advance : Option (List ℕ)
  pub journal : Option (List ℕ)
  pub introduce : Bool

abbrev pub empty : Scanned
empty = record {
  plain = [];
  turns = None;
  port = None;
  instance = None;
  send = None;
  next = None;
  advance = None;
  journal = None;
  introduce = false;
}

abbrev pub listed : {A : Type 0} → Option A → List A
listed None = []
listed (Some x) = x ∷ []

abbrev pub flagged : Bool → List Bool
flagged true = true ∷ []
flagged false = []

abbrev pub lists_of : Scanned → Gathered
lists_of s = record {
  plain = s.plain;
  turns = listed s.turns;
  port = listed s.port;
  instance = listed s.instance;
  send = listed s.send;
  next = listed s.next;
  advance = listed s.advance;
  journal = listed s.journal;
  introduce = flagged s.introduce;
}

-- the words are items that have these plain words, and these options, each once at most
pub record Scans (parts : List (List ℕ)) (s : Scanned) : Type 0 where
  pub items : List Item
  pub spelled : ItemsSpell items parts
  pub once : gathered items ≡ lists_of s
