-- Items: what is read is spelled, and what is spelled is read.
use Rattle.std.proofs.Common.{◌≡◌, ℕ, true, false, List, [], ◌∷◌, ◌++◌, Option, Some, None, refl, ap, ◌∙◌, subst, inl, inr, codes}
use Rattle.std.specs.Str.{bytes_eq}
use Rattle.std.proofs.lemmas.Slice.Eq.{bytes_eq-Decides}
use Rattle.rtmfp_script.specs.Fields.{◌>>=◌, either}
use Rattle.rtmfp_script.proofs.Splits.{some_some, bind_some}
use Rattle.rtmfp_words.specs.Reading.{behind_of}
use Rattle.rtmfp_words.specs.Items.{Item, Plain, Valued, Introduce, name_text, is_hyphened, ItemSpells, ItemsSpell}
use Rattle.rtmfp_words.specs.ItemReading.{name_of, joined_of, single_of, in_front, items_of}
use Rattle.rtmfp_words.specs.declared.scan.OptionName.{OptionName}
use Rattle.rtmfp_words.specs.declared.scan.OptionName.TheVariants.{Turns, Port, Instance, Send, Next, Advance, Journal}
use Rattle.rtmfp_words.proofs.Texts.{if-some, either-some, behind-some}

-- ---- what is read is spelled

named : (word text : List ℕ) (name found : OptionName) → bytes_eq word text ≡ true → text ≡ name_text name → Some name ≡ Some found → word ≡ name_text found
named word text name found same is e =
    (bytes_eq-Decides word text).0 same ∙ is ∙ ap name_text (some_some name found e)

name_of-some : (word : List ℕ) (name : OptionName) → name_of word ≡ Some name → word ≡ name_text name
unfolding name_of
name_of-some word name h = elim (if-some (bytes_eq word (codes "--turns")) (Some Turns) _ name h) [
  | inl a ↦ named word (codes "--turns") Turns name a.0 refl a.1
  | inr b ↦ elim (if-some (bytes_eq word (codes "--port")) (Some Port) _ name b.1) [
    | inl a ↦ named word (codes "--port") Port name a.0 refl a.1
    | inr b ↦ elim (if-some (bytes_eq word (codes "--instance")) (Some Instance) _ name b.1) [
      | inl a ↦ named word (codes "--instance") Instance name a.0 refl a.1
      | inr b ↦ elim (if-some (bytes_eq word (codes "--send")) (Some Send) _ name b.1) [
        | inl a ↦ named word (codes "--send") Send name a.0 refl a.1
        | inr b ↦ elim (if-some (bytes_eq word (codes "--next")) (Some Next) _ name b.1) [
          | inl a ↦ named word (codes "--next") Next name a.0 refl a.1
          | inr b ↦ elim (if-some (bytes_eq word (codes "--advance")) (Some Advance) _ name b.1) [
            | inl a ↦ named word (codes "--advance") Advance name a.0 refl a.1
            | inr b ↦ elim (if-some (bytes_eq word (codes "--journal")) (Some Journal) None name b.1) [
              | inl a ↦ named word (codes "--journal") Journal name a.0 refl a.1
              | inr b ↦ absurd (let e : None ≡ Some name = b.1 in cc)
            ]
          ]
        ]
      ]
    ]
  ]
]

found_joined : (word value : List ℕ) (name : OptionName) (p : OptionName × List ℕ) → word ≡ name_text name ++ codes "=" ++ value → Some (name, value) ≡ Some p → word ≡ name_text p.0 ++ codes "=" ++ p.1
found_joined word value name p is e =
    subst (λ (q : OptionName × List ℕ). word ≡ name_text q.0 ++ codes "=" ++ q.1) (some_some (name, value) p e) is

joined_of-some : (word : List ℕ) (p : OptionName × List ℕ) → joined_of word ≡ Some p → word ≡ name_text p.0 ++ codes "=" ++ p.1
unfolding joined_of
joined_of-some word p h = elim (either-some _ (λ value. Some (Turns, value)) (behind_of (codes "--turns=") word) p h) [
  | inl a ↦ found_joined word a.0 Turns p (behind-some (codes "--turns=") word a.0 a.1) a.2
  | inr b ↦ elim (either-some _ (λ value. Some (Port, value)) (behind_of (codes "--port=") word) p b) [
    | inl a ↦ found_joined word a.0 Port p (behind-some (codes "--port=") word a.0 a.1) a.2
    | inr b ↦ elim (either-some _ (λ value. Some (Instance, value)) (behind_of (codes "--instance=") word) p b) [
      | inl a ↦ found_joined word a.0 Instance p (behind-some (codes "--instance=") word a.0 a.1) a.2
      | inr b ↦ elim (either-some _ (λ value. Some (Send, value)) (behind_of (codes "--send=") word) p b) [
        | inl a ↦ found_joined word a.0 Send p (behind-some (codes "--send=") word a.0 a.1) a.2
        | inr b ↦ elim (either-some _ (λ value. Some (Next, value)) (behind_of (codes "--next=") word) p b) [
          | inl a ↦ found_joined word a.0 Next p (behind-some (codes "--next=") word a.0 a.1) a.2
          | inr b ↦ elim (either-some _ (λ value. Some (Advance, value)) (behind_of (codes "--advance=") word) p b) [
            | inl a ↦ found_joined word a.0 Advance p (behind-some (codes "--advance=") word a.0 a.1) a.2
            | inr b ↦ let s = bind_some (behind_of (codes "--journal=") word) (λ value. Some (Journal, value)) p b in
                found_joined word s.0 Journal p (behind-some (codes "--journal=") word s.0 s.1) s.2
          ]
        ]
      ]
    ]
  ]
]

spelled_as : (word : List ℕ) (item other : Item) → ItemSpells item (word ∷ []) → Some item ≡ Some other → ItemSpells other (word ∷ [])
spelled_as word item other spells e =
    subst (λ (i : Item). ItemSpells i (word ∷ [])) (some_some item other e) spells

single_of-some : (word : List ℕ) (item : Item) → single_of word ≡ Some item → ItemSpells item (word ∷ [])
unfolding single_of
single_of-some word item h = elim (if-some (is_hyphened word) _ (Some (Plain word)) item h) [
  | inl a ↦ elim (if-some (bytes_eq word (codes "--introduce")) (Some Introduce) _ item a.1) [
    | inl b ↦ spelled_as word Introduce item (ap (λ (w : List ℕ). w ∷ []) ((bytes_eq-Decides word (codes "--introduce")).0 b.0)) b.1
    | inr b ↦ let j = bind_some (joined_of word) (λ p. Some (Valued p.0 p.1)) item b.1 in
        spelled_as word (Valued j.0.0 j.0.1) item (inr (ap (λ (w : List ℕ). w ∷ []) (joined_of-some word j.0 j.1))) j.2
  ]
  | inr a ↦ spelled_as word (Plain word) item (refl, a.0) a.1
]

spelled_more : (item : Item) (items found : List Item) (front rest : List (List ℕ)) → ItemSpells item front → ItemsSpell items rest → Some (item ∷ items) ≡ Some found → ItemsSpell found (front ++ rest)
spelled_more item items found front rest one more e =
    subst (λ (is : List Item). ItemsSpell is (front ++ rest)) (some_some (item ∷ items) found e) (front, rest, one, more, refl)

pub items_of-some : (parts : List (List ℕ)) (items : List Item) → items_of parts ≡ Some items → ItemsSpell items parts
unfolding items_of
items_of-some [] items h = subst (λ (is : List Item). ItemsSpell is []) (some_some [] items h) refl
items_of-some (word ∷ []) items h =
    let s = bind_some (single_of word) (λ item. Some (item ∷ [])) items h in
    spelled_more s.0 [] items (word ∷ []) [] (single_of-some word s.0 s.1) refl s.2
items_of-some (word ∷ next ∷ parts) items h = elim (either-some _ (λ name. in_front (Valued name next) (items_of parts)) (name_of word) items h) [
  | inl a ↦ let s = bind_some (items_of parts) (λ is. Some (Valued a.0 next ∷ is)) items a.2 in
      spelled_more (Valued a.0 next) s.0 items (word ∷ next ∷ []) parts (inl (ap (λ (w : List ℕ). w ∷ next ∷ []) (name_of-some word a.0 a.1))) (items_of-some parts s.0 s.1) s.2
  | inr b ↦ let s = bind_some (single_of word) (λ item. in_front item (items_of (next ∷ parts))) items b in
      let m = bind_some (items_of (next ∷ parts)) (λ is. Some (s.0 ∷ is)) items s.2 in
      spelled_more s.0 m.0 items (word ∷ []) (next ∷ parts) (single_of-some word s.0 s.1) (items_of-some (next ∷ parts) m.0 m.1) m.2
]

-- ---- what is spelled is read

-- a word that is an item of its own, in front of others
pub single_first : (word : List ℕ) (item : Item) (parts : List (List ℕ)) → name_of word ≡ None → single_of word ≡ Some item → items_of (word ∷ parts) ≡ in_front item (items_of parts)
unfolding items_of
single_first word item [] none is = ap (λ (o : Option Item). o >>= λ i. Some (i ∷ [])) is
single_first word item (next ∷ parts) none is =
    ap (λ (o : Option OptionName). either (single_of word >>= λ i. in_front i (items_of (next ∷ parts))) (λ name. in_front (Valued name next) (items_of parts)) o) none
    ∙ ap (λ (o : Option Item). o >>= λ i. in_front i (items_of (next ∷ parts))) is

-- a word that is no item
pub single_stops : (word : List ℕ) (parts : List (List ℕ)) → name_of word ≡ None → single_of word ≡ None → items_of (word ∷ parts) ≡ None
unfolding items_of
single_stops word [] none is = ap (λ (o : Option Item). o >>= λ i. Some (i ∷ [])) is
single_stops word (next ∷ parts) none is =
    ap (λ (o : Option OptionName). either (single_of word >>= λ i. in_front i (items_of (next ∷ parts))) (λ name. in_front (Valued name next) (items_of parts)) o) none
    ∙ ap (λ (o : Option Item). o >>= λ i. in_front i (items_of (next ∷ parts))) is

-- a name, with the word behind it
pub name_first : (word value : List ℕ) (name : OptionName) (parts : List (List ℕ)) → name_of word ≡ Some name → items_of (word ∷ value ∷ parts) ≡ in_front (Valued name value) (items_of parts)
unfolding items_of
name_first word value name parts h =
    ap (λ (o : Option OptionName). either (single_of word >>= λ i. in_front i (items_of (value ∷ parts))) (λ n. in_front (Valued n value) (items_of parts)) o) h

named_first : (name : OptionName) (value : List ℕ) (parts : List (List ℕ)) → items_of (name_text name ∷ value ∷ parts) ≡ in_front (Valued name value) (items_of parts)
unfolding items_of name_of
named_first Turns value parts = refl
named_first Port value parts = refl
named_first Instance value parts = refl
named_first Send value parts = refl
named_first Next value parts = refl
named_first Advance value parts = refl
named_first Journal value parts = refl

joined_name : (name : OptionName) (value : List ℕ) → name_of (name_text name ++ codes "=" ++ value) ≡ None
unfolding name_of
joined_name Turns value = refl
joined_name Port value = refl
joined_name Instance value = refl
joined_name Send value = refl
joined_name Next value = refl
joined_name Advance value = refl
joined_name Journal value = refl

joined_single : (name : OptionName) (value : List ℕ) → single_of (name_text name ++ codes "=" ++ value) ≡ Some (Valued name value)
unfolding single_of joined_of behind_of
joined_single Turns value = refl
joined_single Port value = refl
joined_single Instance value = refl
joined_single Send value = refl
joined_single Next value = refl
joined_single Advance value = refl
joined_single Journal value = refl

plain_name : (word : List ℕ) → is_hyphened word ≡ false → name_of word ≡ None
unfolding name_of
plain_name [] h = refl
plain_name (b ∷ word) h = rw h refl

plain_single : (word : List ℕ) → is_hyphened word ≡ false → single_of word ≡ Some (Plain word)
unfolding single_of
plain_single word h = rw h refl

name_alone : (name : OptionName) → items_of (name_text name ∷ []) ≡ None
unfolding items_of single_of joined_of behind_of
name_alone Turns = refl
name_alone Port = refl
name_alone Instance = refl
name_alone Send = refl
name_alone Next = refl
name_alone Advance = refl
name_alone Journal = refl

-- an option without its value
pub name_last : (word : List ℕ) (name : OptionName) → name_of word ≡ Some name → items_of (word ∷ []) ≡ None
name_last word name h = ap (λ (w : List ℕ). items_of (w ∷ [])) (name_of-some word name h) ∙ name_alone name

introduce_name : name_of (codes "--introduce") ≡ None
unfolding name_of
introduce_name = refl

introduce_single : single_of (codes "--introduce") ≡ Some Introduce
unfolding single_of
introduce_single = refl

item_first : (item : Item) (front rest : List (List ℕ)) → ItemSpells item front → items_of (front ++ rest) ≡ in_front item (items_of rest)
item_first (Plain word) front rest spells =
    ap (λ (ps : List (List ℕ)). items_of (ps ++ rest)) spells.0
    ∙ single_first word (Plain word) rest (plain_name word spells.1) (plain_single word spells.1)
item_first (Valued name value) front rest spells = elim spells [
  | inl apart ↦ ap (λ (ps : List (List ℕ)). items_of (ps ++ rest)) apart ∙ named_first name value rest
  | inr one ↦ ap (λ (ps : List (List ℕ)). items_of (ps ++ rest)) one
      ∙ single_first (name_text name ++ codes "=" ++ value) (Valued name value) rest (joined_name name value) (joined_single name value)
]
item_first Introduce front rest spells =
    ap (λ (ps : List (List ℕ)). items_of (ps ++ rest)) spells
    ∙ single_first (codes "--introduce") Introduce rest introduce_name introduce_single

pub items_of-spelled : (items : List Item) (parts : List (List ℕ)) → ItemsSpell items parts → items_of parts ≡ Some items
unfolding items_of
items_of-spelled [] parts spells = ap items_of spells
items_of-spelled (item ∷ items) parts spells =
    ap items_of spells.4
    ∙ item_first item spells.0 spells.1 spells.2
    ∙ ap (in_front item) (items_of-spelled items spells.1 spells.3)
