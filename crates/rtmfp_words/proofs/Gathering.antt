-- What items add, and what they have.
use Rattle.std.proofs.Common.{◌≡◌, ℕ, Bool, true, false, List, [], ◌∷◌, ◌++◌, Option, Some, None, refl, sym, ap, ◌∙◌, subst, append_assoc, append-nil, inl, inr}
use Rattle.std.specs.Prelude.{if◌then◌else◌, is_none}
use Rattle.rtmfp_script.specs.Fields.{◌>>=◌, only_if}
use Rattle.rtmfp_script.proofs.Splits.{some_some, bind_some, only_if-some}
use Rattle.rtmfp_words.specs.Items.{empty, Item, Plain, Valued, Introduce, Gathered, nothing, of_item, joined, gathered, Scanned, listed, flagged, lists_of, Scans}
use Rattle.rtmfp_words.specs.ItemReading.{items_of, put, add, add_all, scan_of}
use Rattle.rtmfp_words.specs.declared.scan.OptionName.{OptionName}
use Rattle.rtmfp_words.specs.declared.scan.OptionName.TheVariants.{Turns, Port, Instance, Send, Next, Advance, Journal}
use Rattle.rtmfp_words.proofs.Texts.{if-some}
use Rattle.rtmfp_words.proofs.ItemsRead.{items_of-some, items_of-spelled}

-- ---- lists of each kind

lists : List (List ℕ) → List (List ℕ) → List (List ℕ) → List (List ℕ) → List (List ℕ) → List (List ℕ) → List (List ℕ) → List (List ℕ) → List Bool → Gathered
lists p t o i s n v j f = record { plain = p; turns = t; port = o; instance = i; send = s; next = n; advance = v; journal = j; introduce = f }

same_gathered : (a b : Gathered) → a.plain ≡ b.plain → a.turns ≡ b.turns → a.port ≡ b.port → a.instance ≡ b.instance → a.send ≡ b.send → a.next ≡ b.next → a.advance ≡ b.advance → a.journal ≡ b.journal → a.introduce ≡ b.introduce → a ≡ b
unfolding lists
same_gathered a b p t o i s n v j f =
    ap (λ x. lists x a.turns a.port a.instance a.send a.next a.advance a.journal a.introduce) p
    ∙ ap (λ x. lists b.plain x a.port a.instance a.send a.next a.advance a.journal a.introduce) t
    ∙ ap (λ x. lists b.plain b.turns x a.instance a.send a.next a.advance a.journal a.introduce) o
    ∙ ap (λ x. lists b.plain b.turns b.port x a.send a.next a.advance a.journal a.introduce) i
    ∙ ap (λ x. lists b.plain b.turns b.port b.instance x a.next a.advance a.journal a.introduce) s
    ∙ ap (λ x. lists b.plain b.turns b.port b.instance b.send x a.advance a.journal a.introduce) n
    ∙ ap (λ x. lists b.plain b.turns b.port b.instance b.send b.next x a.journal a.introduce) v
    ∙ ap (λ x. lists b.plain b.turns b.port b.instance b.send b.next b.advance x a.introduce) j
    ∙ ap (λ x. lists b.plain b.turns b.port b.instance b.send b.next b.advance b.journal x) f

joined-nothing : (a : Gathered) → joined a nothing ≡ a
joined-nothing a = same_gathered (joined a nothing) a (append-nil a.plain) (append-nil a.turns) (append-nil a.port) (append-nil a.instance) (append-nil a.send) (append-nil a.next) (append-nil a.advance) (append-nil a.journal) (append-nil a.introduce)

joined-joined : (a b c : Gathered) → joined (joined a b) c ≡ joined a (joined b c)
joined-joined a b c = same_gathered (joined (joined a b) c) (joined a (joined b c)) (append_assoc a.plain b.plain c.plain) (append_assoc a.turns b.turns c.turns) (append_assoc a.port b.port c.port) (append_assoc a.instance b.instance c.instance) (append_assoc a.send b.send c.send) (append_assoc a.next b.next c.next) (append_assoc a.advance b.advance c.advance) (append_assoc a.journal b.journal c.journal) (append_assoc a.introduce b.introduce c.introduce)

-- ---- options

none_listed : {A : Type 0} (o : Option A) (xs : List A) → is_none o ≡ true → xs ≡ listed o ++ xs
none_listed None xs none = refl
none_listed (Some x) xs none = absurd (cc)

same_option : {A : Type 0} (a b : Option A) → listed a ≡ listed b → a ≡ b
same_option None None e = refl
same_option None (Some y) e = absurd (cc)
same_option (Some x) None e = absurd (cc)
same_option (Some x) (Some y) e = let same : x ≡ y = cc in ap (λ z. Some z) same

same_flag : (a b : Bool) → flagged a ≡ flagged b → a ≡ b
same_flag true true e = refl
same_flag true false e = absurd (cc)
same_flag false true e = absurd (cc)
same_flag false false e = refl

two_listed : {A : Type 0} (o : Option A) (x y : A) (more : List A) → listed o ≡ x ∷ y ∷ more → ⊥
two_listed None x y more e = cc
two_listed (Some z) x y more e = let rest : [] ≡ y ∷ more = cc in cc

free : {A : Type 0} (o after : Option A) (value : A) (more : List A) → listed after ≡ (listed o ++ value ∷ []) ++ more → is_none o ≡ true
free None after value more e = refl
free (Some x) after value more e = absurd (two_listed after x value more e)

two_flags : (b : Bool) (more : List Bool) → flagged b ≡ true ∷ true ∷ more → ⊥
two_flags true more e = let rest : [] ≡ true ∷ more = cc in cc
two_flags false more e = cc

clear : (b after : Bool) (more : List Bool) → flagged after ≡ (flagged b ++ true ∷ []) ++ more → b ≡ false
clear true after more e = absurd (two_flags after more e)
clear false after more e = refl

-- ---- one item

with_lists : (s t u : Scanned) (g : Gathered) → lists_of t ≡ joined (lists_of s) g → t ≡ u → lists_of u ≡ joined (lists_of s) g
with_lists s t u g e same = subst (λ (x : Scanned). lists_of x ≡ joined (lists_of s) g) same e

put_lists : (s t : Scanned) (name : OptionName) (value : List ℕ) → put s name value ≡ Some t → lists_of t ≡ joined (lists_of s) (of_item (Valued name value))
unfolding put
put_lists s t Turns value h =
    let p = only_if-some (is_none s.turns) (record s { turns = Some value }) t h in
    with_lists s (record s { turns = Some value }) t (of_item (Valued Turns value)) (same_gathered (lists_of (record s { turns = Some value })) (joined (lists_of s) (of_item (Valued Turns value)))
    (sym (append-nil s.plain)) (none_listed s.turns (value ∷ []) p.0) (sym (append-nil (listed s.port))) (sym (append-nil (listed s.instance))) (sym (append-nil (listed s.send))) (sym (append-nil (listed s.next))) (sym (append-nil (listed s.advance))) (sym (append-nil (listed s.journal))) (sym (append-nil (flagged s.introduce)))) p.1
put_lists s t Port value h =
    let p = only_if-some (is_none s.port) (record s { port = Some value }) t h in
    with_lists s (record s { port = Some value }) t (of_item (Valued Port value)) (same_gathered (lists_of (record s { port = Some value })) (joined (lists_of s) (of_item (Valued Port value)))
    (sym (append-nil s.plain)) (sym (append-nil (listed s.turns))) (none_listed s.port (value ∷ []) p.0) (sym (append-nil (listed s.instance))) (sym (append-nil (listed s.send))) (sym (append-nil (listed s.next))) (sym (append-nil (listed s.advance))) (sym (append-nil (listed s.journal))) (sym (append-nil (flagged s.introduce)))) p.1
put_lists s t Instance value h =
    let p = only_if-some (is_none s.instance) (record s { instance = Some value }) t h in
    with_lists s (record s { instance = Some value }) t (of_item (Valued Instance value)) (same_gathered (lists_of (record s { instance = Some value })) (joined (lists_of s) (of_item (Valued Instance value)))
    (sym (append-nil s.plain)) (sym (append-nil (listed s.turns))) (sym (append-nil (listed s.port))) (none_listed s.instance (value ∷ []) p.0) (sym (append-nil (listed s.send))) (sym (append-nil (listed s.next))) (sym (append-nil (listed s.advance))) (sym (append-nil (listed s.journal))) (sym (append-nil (flagged s.introduce)))) p.1
put_lists s t Send value h =
    let p = only_if-some (is_none s.send) (record s { send = Some value }) t h in
    with_lists s (record s { send = Some value }) t (of_item (Valued Send value)) (same_gathered (lists_of (record s { send = Some value })) (joined (lists_of s) (of_item (Valued Send value)))
    (sym (append-nil s.plain)) (sym (append-nil (listed s.turns))) (sym (append-nil (listed s.port))) (sym (append-nil (listed s.instance))) (none_listed s.send (value ∷ []) p.0) (sym (append-nil (listed s.next))) (sym (append-nil (listed s.advance))) (sym (append-nil (listed s.journal))) (sym (append-nil (flagged s.introduce)))) p.1
put_lists s t Next value h =
    let p = only_if-some (is_none s.next) (record s { next = Some value }) t h in
    with_lists s (record s { next = Some value }) t (of_item (Valued Next value)) (same_gathered (lists_of (record s { next = Some value })) (joined (lists_of s) (of_item (Valued Next value)))
    (sym (append-nil s.plain)) (sym (append-nil (listed s.turns))) (sym (append-nil (listed s.port))) (sym (append-nil (listed s.instance))) (sym (append-nil (listed s.send))) (none_listed s.next (value ∷ []) p.0) (sym (append-nil (listed s.advance))) (sym (append-nil (listed s.journal))) (sym (append-nil (flagged s.introduce)))) p.1
put_lists s t Advance value h =
    let p = only_if-some (is_none s.advance) (record s { advance = Some value }) t h in
    with_lists s (record s { advance = Some value }) t (of_item (Valued Advance value)) (same_gathered (lists_of (record s { advance = Some value })) (joined (lists_of s) (of_item (Valued Advance value)))
    (sym (append-nil s.plain)) (sym (append-nil (listed s.turns))) (sym (append-nil (listed s.port))) (sym (append-nil (listed s.instance))) (sym (append-nil (listed s.send))) (sym (append-nil (listed s.next))) (none_listed s.advance (value ∷ []) p.0) (sym (append-nil (listed s.journal))) (sym (append-nil (flagged s.introduce)))) p.1
put_lists s t Journal value h =
    let p = only_if-some (is_none s.journal) (record s { journal = Some value }) t h in
    with_lists s (record s { journal = Some value }) t (of_item (Valued Journal value)) (same_gathered (lists_of (record s { journal = Some value })) (joined (lists_of s) (of_item (Valued Journal value)))
    (sym (append-nil s.plain)) (sym (append-nil (listed s.turns))) (sym (append-nil (listed s.port))) (sym (append-nil (listed s.instance))) (sym (append-nil (listed s.send))) (sym (append-nil (listed s.next))) (sym (append-nil (listed s.advance))) (none_listed s.journal (value ∷ []) p.0) (sym (append-nil (flagged s.introduce)))) p.1

flag_joined : (b : Bool) → b ≡ false → true ∷ [] ≡ flagged b ++ true ∷ []
flag_joined true e = absurd (cc)
flag_joined false e = refl

add_lists : (s t : Scanned) (item : Item) → add s item ≡ Some t → lists_of t ≡ joined (lists_of s) (of_item item)
unfolding add
add_lists s t (Plain word) h =
    with_lists s (record s { plain = s.plain ++ word ∷ [] }) t (of_item (Plain word)) (same_gathered (lists_of (record s { plain = s.plain ++ word ∷ [] })) (joined (lists_of s) (of_item (Plain word)))
    refl (sym (append-nil (listed s.turns))) (sym (append-nil (listed s.port))) (sym (append-nil (listed s.instance))) (sym (append-nil (listed s.send))) (sym (append-nil (listed s.next))) (sym (append-nil (listed s.advance))) (sym (append-nil (listed s.journal))) (sym (append-nil (flagged s.introduce)))) (some_some _ t h)
add_lists s t (Valued name value) h = put_lists s t name value h
add_lists s t Introduce h = elim (if-some s.introduce None (Some (record s { introduce = true })) t h) [
  | inl a ↦ absurd (let e : None ≡ Some t = a.1 in cc)
  | inr a ↦ with_lists s (record s { introduce = true }) t (of_item Introduce) (same_gathered (lists_of (record s { introduce = true })) (joined (lists_of s) (of_item Introduce))
      (sym (append-nil s.plain)) (sym (append-nil (listed s.turns))) (sym (append-nil (listed s.port))) (sym (append-nil (listed s.instance))) (sym (append-nil (listed s.send))) (sym (append-nil (listed s.next))) (sym (append-nil (listed s.advance))) (sym (append-nil (listed s.journal))) (flag_joined s.introduce a.0)) (some_some _ t a.1)
]

put_gives : (s t : Scanned) (name : OptionName) (value : List ℕ) (more : Gathered) → lists_of t ≡ joined (joined (lists_of s) (of_item (Valued name value))) more → (u : Scanned) × (put s name value ≡ Some u)
unfolding put
put_gives s t Turns value more h = (record s { turns = Some value }, ap (λ (b : Bool). only_if b (record s { turns = Some value })) (free s.turns t.turns value more.turns (ap (λ (g : Gathered). g.turns) h)))
put_gives s t Port value more h = (record s { port = Some value }, ap (λ (b : Bool). only_if b (record s { port = Some value })) (free s.port t.port value more.port (ap (λ (g : Gathered). g.port) h)))
put_gives s t Instance value more h = (record s { instance = Some value }, ap (λ (b : Bool). only_if b (record s { instance = Some value })) (free s.instance t.instance value more.instance (ap (λ (g : Gathered). g.instance) h)))
put_gives s t Send value more h = (record s { send = Some value }, ap (λ (b : Bool). only_if b (record s { send = Some value })) (free s.send t.send value more.send (ap (λ (g : Gathered). g.send) h)))
put_gives s t Next value more h = (record s { next = Some value }, ap (λ (b : Bool). only_if b (record s { next = Some value })) (free s.next t.next value more.next (ap (λ (g : Gathered). g.next) h)))
put_gives s t Advance value more h = (record s { advance = Some value }, ap (λ (b : Bool). only_if b (record s { advance = Some value })) (free s.advance t.advance value more.advance (ap (λ (g : Gathered). g.advance) h)))
put_gives s t Journal value more h = (record s { journal = Some value }, ap (λ (b : Bool). only_if b (record s { journal = Some value })) (free s.journal t.journal value more.journal (ap (λ (g : Gathered). g.journal) h)))

add_gives : (s t : Scanned) (item : Item) (more : Gathered) → lists_of t ≡ joined (joined (lists_of s) (of_item item)) more → (u : Scanned) × (add s item ≡ Some u)
unfolding add
add_gives s t (Plain word) more h = (record s { plain = s.plain ++ word ∷ [] }, refl)
add_gives s t (Valued name value) more h = put_gives s t name value more h
add_gives s t Introduce more h = (record s { introduce = true }, ap (λ (b : Bool). if b then None else Some (record s { introduce = true })) (clear s.introduce t.introduce more.introduce (ap (λ (g : Gathered). g.introduce) h)))

-- ---- all items

all_lists : (items : List Item) (s t : Scanned) → add_all s items ≡ Some t → lists_of t ≡ joined (lists_of s) (gathered items)
unfolding add_all
all_lists [] s t h = with_lists s s t nothing (sym (joined-nothing (lists_of s))) (some_some s t h)
all_lists (item ∷ items) s t h =
    let n = bind_some (add s item) (λ u. add_all u items) t h in
    all_lists items n.0 t n.2
    ∙ ap (λ (g : Gathered). joined g (gathered items)) (add_lists s n.0 item n.1)
    ∙ joined-joined (lists_of s) (of_item item) (gathered items)

whole : List (List ℕ) → Option (List ℕ) → Option (List ℕ) → Option (List ℕ) → Option (List ℕ) → Option (List ℕ) → Option (List ℕ) → Option (List ℕ) → Bool → Scanned
whole p t o i s n v j f = record { plain = p; turns = t; port = o; instance = i; send = s; next = n; advance = v; journal = j; introduce = f }

same_lists : (a b : Scanned) → lists_of a ≡ lists_of b → a ≡ b
unfolding whole
same_lists a b e =
    ap (λ x. whole x a.turns a.port a.instance a.send a.next a.advance a.journal a.introduce) (ap (λ (g : Gathered). g.plain) e)
    ∙ ap (λ x. whole b.plain x a.port a.instance a.send a.next a.advance a.journal a.introduce) (same_option a.turns b.turns (ap (λ (g : Gathered). g.turns) e))
    ∙ ap (λ x. whole b.plain b.turns x a.instance a.send a.next a.advance a.journal a.introduce) (same_option a.port b.port (ap (λ (g : Gathered). g.port) e))
    ∙ ap (λ x. whole b.plain b.turns b.port x a.send a.next a.advance a.journal a.introduce) (same_option a.instance b.instance (ap (λ (g : Gathered). g.instance) e))
    ∙ ap (λ x. whole b.plain b.turns b.port b.instance x a.next a.advance a.journal a.introduce) (same_option a.send b.send (ap (λ (g : Gathered). g.send) e))
    ∙ ap (λ x. whole b.plain b.turns b.port b.instance b.send x a.advance a.journal a.introduce) (same_option a.next b.next (ap (λ (g : Gathered). g.next) e))
    ∙ ap (λ x. whole b.plain b.turns b.port b.instance b.send b.next x a.journal a.introduce) (same_option a.advance b.advance (ap (λ (g : Gathered). g.advance) e))
    ∙ ap (λ x. whole b.plain b.turns b.port b.instance b.send b.next b.advance x a.introduce) (same_option a.journal b.journal (ap (λ (g : Gathered). g.journal) e))
    ∙ ap (λ x. whole b.plain b.turns b.port b.instance b.send b.next b.advance b.journal x) (same_flag a.introduce b.introduce (ap (λ (g : Gathered). g.introduce) e))

all_given : (items : List Item) (s t : Scanned) → lists_of t ≡ joined (lists_of s) (gathered items) → add_all s items ≡ Some t
unfolding add_all
all_given [] s t h = ap (λ (x : Scanned). Some x) (sym (same_lists t s (h ∙ joined-nothing (lists_of s))))
all_given (item ∷ items) s t h =
    let joint : lists_of t ≡ joined (joined (lists_of s) (of_item item)) (gathered items) = h ∙ sym (joined-joined (lists_of s) (of_item item) (gathered items)) in
    let n = add_gives s t item (gathered items) joint in
    ap (λ (o : Option Scanned). o >>= λ u. add_all u items) n.1
    ∙ all_given items n.0 t (joint ∙ ap (λ (g : Gathered). joined g (gathered items)) (sym (add_lists s n.0 item n.1)))

-- ---- words

pub scan_of-some : (parts : List (List ℕ)) (s : Scanned) → scan_of parts ≡ Some s → Scans parts s
unfolding scan_of
scan_of-some parts s h =
    let n = bind_some (items_of parts) (λ items. add_all empty items) s h in
    record { items = n.0; spelled = items_of-some parts n.0 n.1; once = sym (all_lists n.0 empty s n.2) }

pub scan_of-scans : (parts : List (List ℕ)) (s : Scanned) → Scans parts s → scan_of parts ≡ Some s
unfolding scan_of
scan_of-scans parts s h =
    ap (λ (o : Option (List Item)). o >>= λ items. add_all empty items) (items_of-spelled h.items parts h.spelled)
    ∙ all_given h.items empty s (sym h.once)
