-- The plain words of `serve`: what is read is said, and what is said is read.
use Rattle.std.proofs.Common.{◌≡◌, ◌≢◌, ℕ, ◌*◌, ◌<◌, ◌≤◌, ◌==◌, Bool, true, false, not, List, [], ◌∷◌, ◌++◌, length, map, Option, Some, None, refl, sym, ap, ◌∙◌, subst, arith, append_assoc, append-nil, inl, inr}
use Rattle.std.specs.Prelude.{◌&&◌, codes, nat_le, nat_lt, if◌then◌else◌}
use Rattle.std.specs.Option.{option_map}
use Rattle.std.specs.List.{list_all}
use Rattle.std.specs.Str.{bytes_eq}
use Rattle.std.proofs.lemmas.Slice.Eq.{bytes_eq-Decides}
use Rattle.std.proofs.lemmas.Bool.{and_parts, and_from, le-leb, eq-eqb, eqb-true}
use Rattle.std.proofs.lemmas.Bool.Decides.{nat_tests}
use Rattle.hex.specs.Hex.{encode_lower}
use Rattle.rtmfp_forms.specs.Address.{AddressParts}
use Rattle.rtmfp_text.specs.AddressText.{address_text}
use Rattle.rtmfp_text.specs.Words.{bytes_text}
use Rattle.identity.specs.ServiceNames.{IsServiceName}
use Rattle.rtmfp_script.specs.Grammar.{IsPlainAddress}
use Rattle.rtmfp_script.specs.Fields.{◌>>=◌, only_if, name_of, digits_of, service_of, split_of, address_of, is_lower_digit}
use Rattle.rtmfp_script.proofs.Splits.{some_some, bind_some, only_if-some, each_is, each_passes, Lacks, split_text, split_joined}
use Rattle.rtmfp_script.proofs.Digits.{digits_of-some, digits_of-encoded, length-encoded, lower_encoded}
use Rattle.rtmfp_script.proofs.NamesRead.{name_of-some, name_of-name}
use Rattle.rtmfp_script.proofs.Addresses.{address_of-some, address_of-text}
use Rattle.rtmfp_script.proofs.Services.{ascii_bytes, service_of-some, service_of-text}
use Rattle.rtmfp_words.specs.Node.{AreBytes, IsNodeName, IsWhom, IsOpening, EachIsOpening, IsInstance, IsLabel, IsMessage, IsNext, IsSent, opening_text, whom_text}
use Rattle.rtmfp_words.specs.NodeReading.{of_digits, is_node_name, node_name_of, whom_of, opening_of, openings_from, Places, places_of, instance_of, journal_of, message_of, next_of, send_of}
use Rattle.rtmfp_words.specs.declared.opening_words.OpeningWords.{OpeningWords}
use Rattle.rtmfp_words.specs.declared.opening_words.Whom.{Whom}
use Rattle.rtmfp_words.specs.declared.opening_words.Whom.TheVariants.{Print, Name}
use Rattle.rtmfp_words.specs.Reading.{behind_of}
use Rattle.rtmfp_words.proofs.Texts.{if-some, either-some, behind-some, behind-gives, behind-none}

-- ---- bytes in digits

half : (n m : ℕ) → 2 * n ≡ 2 * m → n ≡ m
half n m e = omega (arith, e)

pub of_digits-some : (count : ℕ) (word bytes : List ℕ) → of_digits (2 * count) word ≡ Some bytes → (word ≡ encode_lower bytes) × AreBytes count bytes
unfolding of_digits
of_digits-some count word bytes h = elim (if-some (length word == 2 * count) (digits_of word) None bytes h) [
  | inl a ↦
      let found = digits_of-some word bytes a.1 in
      let long : 2 * length bytes ≡ 2 * count = sym (length-encoded bytes) ∙ ap length (sym found.0) ∙ eqb-true (length word) (2 * count) a.0 in
      (found.0, record { many = half (length bytes) count long; each = found.1 })
  | inr b ↦ absurd (let e : None ≡ Some bytes = b.1 in cc)
]

pub of_digits-text : (count : ℕ) (bytes : List ℕ) → AreBytes count bytes → of_digits (2 * count) (encode_lower bytes) ≡ Some bytes
unfolding of_digits
of_digits-text count bytes are =
    let long : length (encode_lower bytes) ≡ 2 * count = length-encoded bytes ∙ ap (λ n. 2 * n) are.many in
    ap (λ (b : Bool). if b then digits_of (encode_lower bytes) else None) (eq-eqb (length (encode_lower bytes)) (2 * count) long)
    ∙ digits_of-encoded bytes are.each

-- ---- names

pub node_name-some : (word name : List ℕ) → node_name_of word ≡ Some name → (word ≡ name) × IsNodeName name
unfolding node_name_of
node_name-some word name h =
    let found = only_if-some (is_node_name word) word name h in
    let first = and_parts (nat_le 1 (length word)) (nat_le (length word) 64 && list_all (λ b. nat_lt b 128) word) found.0 in
    let second = and_parts (nat_le (length word) 64) (list_all (λ b. nat_lt b 128) word) first.1 in
    let some : 1 ≤ length word = grind (arith, nat_tests, first.0) in
    let most : length word ≤ 64 = grind (arith, nat_tests, second.0) in
    (found.1, subst IsNodeName found.1 (record { some = some; most = most; ascii = second.1 }))

pub node_name-text : (name : List ℕ) → IsNodeName name → node_name_of name ≡ Some name
unfolding node_name_of
node_name-text name is =
    let test : is_node_name name ≡ true = and_from _ _ (le-leb 1 (length name) is.some) (and_from _ _ (le-leb (length name) 64 is.most) is.ascii) in
    rw test refl

-- ---- openings

not_at : (x : ℕ) → is_lower_digit x ≡ true → x ≢ 64
not_at x h e = let at : is_lower_digit 64 ≡ true = ap is_lower_digit (sym e) ∙ h in cc at

lacks_digits : (bytes : List ℕ) → list_all (λ b. nat_lt b 256) bytes ≡ true → Lacks 64 (encode_lower bytes)
lacks_digits bytes each = each_is (λ x. is_lower_digit x ≡ true) (λ x. x ≢ 64) not_at (encode_lower bytes) (each_passes is_lower_digit (encode_lower bytes) (lower_encoded bytes each))

-- ---- whom they call

record Names (word : List ℕ) (whom : Whom) : Type 0 where
  text : word ≡ whom_text whom
  good : IsWhom whom

named : (word : List ℕ) (target : Whom) (digits : List ℕ) → behind_of (codes "n:") word ≡ Some digits → (service_of digits >>= λ name. Some (Name name)) ≡ Some target → Names word target
named word target digits front h =
    let name = bind_some (service_of digits) (λ name. Some (Name name)) target h in
    let s = service_of-some digits name.0 name.1 in
    subst (λ (t : Whom). Names word t) (some_some (Name name.0) target name.2) (record {
      text = behind-some (codes "n:") word digits front ∙ ap (λ (xs : List ℕ). codes "n:" ++ xs) s.0;
      good = s.1;
    })

printed : (word : List ℕ) (target : Whom) → (of_digits 64 word >>= λ print. Some (Print print)) ≡ Some target → Names word target
printed word target h =
    let print = bind_some (of_digits 64 word) (λ print. Some (Print print)) target h in
    let d = of_digits-some 32 word print.0 print.1 in
    subst (λ (t : Whom). Names word t) (some_some (Print print.0) target print.2) (record { text = d.0; good = d.1 })

whom_of-some : (word : List ℕ) (target : Whom) → whom_of word ≡ Some target → Names word target
unfolding whom_of
whom_of-some word target h =
    elim (either-some (of_digits 64 word >>= λ print. Some (Print print)) (λ digits. service_of digits >>= λ name. Some (Name name)) (behind_of (codes "n:") word) target h) [
      | inl behind ↦ named word target behind.0 behind.1 behind.2
      | inr none ↦ printed word target none
    ]

-- no digits begin with `n`
not_n : (x : ℕ) → is_lower_digit x ≡ true → x ≢ 110
not_n x h e = let letter : is_lower_digit 110 ≡ true = ap is_lower_digit (sym e) ∙ h in cc letter

digits_lack_n : (bytes : List ℕ) → list_all (λ b. nat_lt b 256) bytes ≡ true → Lacks 110 (encode_lower bytes)
digits_lack_n bytes each = each_is (λ x. is_lower_digit x ≡ true) (λ x. x ≢ 110) not_n (encode_lower bytes) (each_passes is_lower_digit (encode_lower bytes) (lower_encoded bytes each))

no_front : (word rest : List ℕ) → Lacks 110 word → word ≡ codes "n:" ++ rest → ⊥
no_front word rest lacks e = let there : Lacks 110 (codes "n:" ++ rest) = subst (λ (xs : List ℕ). Lacks 110 xs) e lacks in there.0 refl

whom_of-text : (target : Whom) → IsWhom target → whom_of (whom_text target) ≡ Some target
unfolding whom_of
whom_of-text (Print print) is =
    let none : behind_of (codes "n:") (encode_lower print) ≡ None =
    behind-none (codes "n:") (encode_lower print) (behind_of (codes "n:") (encode_lower print)) refl (λ rest e. no_front (encode_lower print) rest (digits_lack_n print is.each) e) in
    rw (none, of_digits-text 32 print is) refl
whom_of-text (Name name) is = rw (behind-gives (codes "n:") (bytes_text name), service_of-text name is) refl

not_n_at : ◌≢◌ {A = ℕ} 110 64
not_n_at e = omega (arith, e)

not_colon_at : ◌≢◌ {A = ℕ} 58 64
not_colon_at e = omega (arith, e)

lacks_name : (name : List ℕ) → IsServiceName name → Lacks 64 (bytes_text name)
lacks_name [] is = let some : 1 ≤ length {A = ℕ} [] = is.some in absurd (omega (arith, some))
lacks_name (b ∷ name) is = lacks_digits (b ∷ name) (ascii_bytes (b ∷ name) is.ascii)

lacks_whom : (target : Whom) → IsWhom target → Lacks 64 (whom_text target)
lacks_whom (Print print) is = lacks_digits print is.each
lacks_whom (Name name) is = (not_n_at, (not_colon_at, lacks_name name is))

record Opens (word : List ℕ) (opening : OpeningWords) : Type 0 where
  text : word ≡ opening_text opening
  good : IsOpening opening

opening_of-some : (word : List ℕ) (opening : OpeningWords) → opening_of word ≡ Some opening → Opens word opening
unfolding opening_of
opening_of-some word opening h =
    let p = bind_some (split_of 64 word) (λ p. whom_of p.0 >>= λ target. address_of p.1 >>= λ at. Some (record { whom = target; at = at })) opening h in
    let t = bind_some (whom_of p.0.0) (λ target. address_of p.0.1 >>= λ at. Some (record { whom = target; at = at })) opening p.2 in
    let a = bind_some (address_of p.0.1) (λ at. Some (record { whom = t.0; at = at })) opening t.2 in
    let whom = whom_of-some p.0.0 t.0 t.1 in
    let at = address_of-some p.0.1 a.0 a.1 in
    subst (λ (o : OpeningWords). Opens word o) (some_some (record { whom = t.0; at = a.0 }) opening a.2) (record {
      text = split_joined 64 word p.0 p.1 ∙ ap (λ (xs : List ℕ). xs ++ 64 ∷ p.0.1) whom.text ∙ ap (λ (xs : List ℕ). whom_text t.0 ++ 64 ∷ xs) at.0;
      good = record { whom = whom.good; at = at.1 };
    })

opening_of-text : (opening : OpeningWords) → IsOpening opening → opening_of (opening_text opening) ≡ Some opening
unfolding opening_of
opening_of-text opening is =
    ap (λ (o : Option (List ℕ × List ℕ)). o >>= λ p. whom_of p.0 >>= λ target. address_of p.1 >>= λ at. Some (record { whom = target; at = at })) (split_text 64 (whom_text opening.whom) (address_text opening.at) (lacks_whom opening.whom is.whom))
    ∙ ap (λ (o : Option Whom). o >>= λ target. address_of (address_text opening.at) >>= λ at. Some (record { whom = target; at = at })) (whom_of-text opening.whom is.whom)
    ∙ ap (λ (o : Option AddressParts). o >>= λ at. Some (record { whom = opening.whom; at = at })) (address_of-text opening.at is.at)

-- one more, in front
pub opening_goes : (done : List OpeningWords) (word : List ℕ) (words : List (List ℕ)) (opening : OpeningWords) → opening_of word ≡ Some opening → openings_from done (word ∷ words) ≡ openings_from (done ++ opening ∷ []) words
unfolding openings_from
opening_goes done word words opening is = ap (λ (o : Option OpeningWords). o >>= λ x. openings_from (done ++ x ∷ []) words) is

pub opening_stops : (done : List OpeningWords) (word : List ℕ) (words : List (List ℕ)) → opening_of word ≡ None → openings_from done (word ∷ words) ≡ None
unfolding openings_from
opening_stops done word words is = ap (λ (o : Option OpeningWords). o >>= λ x. openings_from (done ++ x ∷ []) words) is

pub openings_end : (done : List OpeningWords) (words : List (List ℕ)) → length words < 1 → openings_from done words ≡ Some done
unfolding openings_from
openings_end done [] none = refl
openings_end done (word ∷ words) none = absurd (omega (arith, none))

record AreOpenings (done : List OpeningWords) (words : List (List ℕ)) (openings more : List OpeningWords) : Type 0 where
  all : openings ≡ done ++ more
  texts : words ≡ map opening_text more
  good : EachIsOpening more

openings_from-some : (done : List OpeningWords) (words : List (List ℕ)) (openings : List OpeningWords) → openings_from done words ≡ Some openings → (more : List OpeningWords) × AreOpenings done words openings more
unfolding openings_from
openings_from-some done [] openings h = ([], record { all = sym (some_some done openings h) ∙ sym (append-nil done); texts = refl; good = tt })
openings_from-some done (word ∷ words) openings h =
    let o = bind_some (opening_of word) (λ x. openings_from (done ++ x ∷ []) words) openings h in
    let one = opening_of-some word o.0 o.1 in
    let more = openings_from-some (done ++ o.0 ∷ []) words openings o.2 in (
      o.0 ∷ more.0,
      record {
        all = more.1.all ∙ append_assoc done (o.0 ∷ []) more.0;
        texts = ap (λ (w : List ℕ). w ∷ words) one.text ∙ ap (λ (ws : List (List ℕ)). opening_text o.0 ∷ ws) more.1.texts;
        good = (one.good, more.1.good);
      },
    )

openings_from-text : (done more : List OpeningWords) → EachIsOpening more → openings_from done (map opening_text more) ≡ Some (done ++ more)
unfolding openings_from
openings_from-text done [] good = ap (λ (os : List OpeningWords). Some os) (sym (append-nil done))
openings_from-text done (opening ∷ more) good =
    opening_goes done (opening_text opening) (map opening_text more) opening (opening_of-text opening good.0)
    ∙ openings_from-text (done ++ opening ∷ []) more good.1
    ∙ ap (λ (os : List OpeningWords). Some os) (append_assoc done (opening ∷ []) more)

-- ---- the plain words

pub record ArePlaces (words : List (List ℕ)) (p : Places) : Type 0 where
  pub texts : words ≡ address_text p.bind ∷ encode_lower p.group ∷ p.name ∷ map opening_text p.openings
  pub bind : IsPlainAddress p.bind
  pub group : AreBytes 32 p.group
  pub name : IsNodeName p.name
  pub openings : EachIsOpening p.openings

places_texts : List ℕ → List ℕ → List ℕ → List (List ℕ) → List (List ℕ)
places_texts a b c ws = a ∷ b ∷ c ∷ ws

pub places_of-some : (words : List (List ℕ)) (p : Places) → places_of words ≡ Some p → ArePlaces words p
unfolding places_of places_texts
places_of-some [] p h = absurd (cc)
places_of-some (first ∷ []) p h = absurd (cc)
places_of-some (first ∷ second ∷ []) p h = absurd (cc)
places_of-some (first ∷ second ∷ third ∷ words) p h =
    let a = bind_some (address_of first) (λ bind. of_digits 64 second >>= λ group. node_name_of third >>= λ name. openings_from [] words >>= λ openings. Some (record { bind = bind; group = group; name = name; openings = openings })) p h in
    let b = bind_some (of_digits 64 second) (λ group. node_name_of third >>= λ name. openings_from [] words >>= λ openings. Some (record { bind = a.0; group = group; name = name; openings = openings })) p a.2 in
    let n = bind_some (node_name_of third) (λ name. openings_from [] words >>= λ openings. Some (record { bind = a.0; group = b.0; name = name; openings = openings })) p b.2 in
    let o = bind_some (openings_from [] words) (λ openings. Some (record { bind = a.0; group = b.0; name = n.0; openings = openings })) p n.2 in
    let bind = address_of-some first a.0 a.1 in
    let group = of_digits-some 32 second b.0 b.1 in
    let name = node_name-some third n.0 n.1 in
    let more = openings_from-some [] words o.0 o.1 in
    subst (λ (x : Places). ArePlaces (first ∷ second ∷ third ∷ words) x) (some_some (record { bind = a.0; group = b.0; name = n.0; openings = o.0 }) p o.2) (record {
      texts = ap (λ x. places_texts x second third words) bind.0
          ∙ ap (λ x. places_texts (address_text a.0) x third words) group.0
          ∙ ap (λ x. places_texts (address_text a.0) (encode_lower b.0) x words) name.0
          ∙ ap (λ x. places_texts (address_text a.0) (encode_lower b.0) n.0 x) (more.1.texts ∙ ap (map opening_text) (sym more.1.all));
      bind = bind.1;
      group = group.1;
      name = name.1;
      openings = subst EachIsOpening (sym more.1.all) more.1.good;
    })

pub places_of-said : (p : Places) → IsPlainAddress p.bind → AreBytes 32 p.group → IsNodeName p.name → EachIsOpening p.openings → places_of (address_text p.bind ∷ encode_lower p.group ∷ p.name ∷ map opening_text p.openings) ≡ Some p
unfolding places_of
places_of-said p bind group name openings =
    ap (λ (o : Option AddressParts). o >>= λ a. of_digits 64 (encode_lower p.group) >>= λ b. node_name_of p.name >>= λ n. openings_from [] (map opening_text p.openings) >>= λ os. Some (record { bind = a; group = b; name = n; openings = os })) (address_of-text p.bind bind)
    ∙ ap (λ (o : Option (List ℕ)). o >>= λ b. node_name_of p.name >>= λ n. openings_from [] (map opening_text p.openings) >>= λ os. Some (record { bind = p.bind; group = b; name = n; openings = os })) (of_digits-text 32 p.group group)
    ∙ ap (λ (o : Option (List ℕ)). o >>= λ n. openings_from [] (map opening_text p.openings) >>= λ os. Some (record { bind = p.bind; group = p.group; name = n; openings = os })) (node_name-text p.name name)
    ∙ ap (λ (o : Option (List OpeningWords)). o >>= λ os. Some (record { bind = p.bind; group = p.group; name = p.name; openings = os })) (openings_from-text [] p.openings openings)

-- ---- values of options

pub instance_of-some : (value instance : Option (List ℕ)) → instance_of value ≡ Some instance → (value ≡ option_map encode_lower instance) × IsInstance instance
unfolding instance_of
instance_of-some None instance h =
    subst (λ (x : Option (List ℕ)). (None ≡ option_map encode_lower x) × IsInstance x) (some_some None instance h) (refl, tt)
instance_of-some (Some word) instance h =
    let b = bind_some (of_digits 32 word) (λ bytes. Some (Some bytes)) instance h in
    let found = of_digits-some 16 word b.0 b.1 in
    subst (λ (x : Option (List ℕ)). (Some word ≡ option_map encode_lower x) × IsInstance x) (some_some (Some b.0) instance b.2) (ap (λ (w : List ℕ). Some w) found.0, found.1)

pub instance_of-text : (instance : Option (List ℕ)) → IsInstance instance → instance_of (option_map encode_lower instance) ≡ Some instance
unfolding instance_of
instance_of-text None is = refl
instance_of-text (Some bytes) is = ap (λ (o : Option (List ℕ)). o >>= λ x. Some (Some x)) (of_digits-text 16 bytes is)

-- another secret than that of the group
only_other : (group next : List ℕ) → not (bytes_eq next group) ≡ true → next ≢ group
only_other group next other same = by (bytes_eq next group) ((bytes_eq-Decides next group).1 same) other
  where
    by : (b : Bool) → b ≡ true → not b ≡ true → ⊥
    by true is not_is = cc
    by false is not_is = cc

other_passes : (group next : List ℕ) → next ≢ group → not (bytes_eq next group) ≡ true
other_passes group next other = by (bytes_eq next group) refl
  where
    by : (b : Bool) → bytes_eq next group ≡ b → not b ≡ true
    by true is = absurd (other ((bytes_eq-Decides next group).0 is))
    by false is = refl

pub next_of-some : (group : List ℕ) (value next : Option (List ℕ)) → next_of group value ≡ Some next → (value ≡ option_map encode_lower next) × IsNext group next
unfolding next_of
next_of-some group None next h =
    subst (λ (x : Option (List ℕ)). (None ≡ option_map encode_lower x) × IsNext group x) (some_some None next h) (refl, tt)
next_of-some group (Some word) next h =
    let b = bind_some (of_digits 64 word) (λ bytes. only_if (not (bytes_eq bytes group)) (Some bytes)) next h in
    let found = of_digits-some 32 word b.0 b.1 in
    let other = only_if-some (not (bytes_eq b.0 group)) (Some b.0) next b.2 in
    subst (λ (x : Option (List ℕ)). (Some word ≡ option_map encode_lower x) × IsNext group x) other.1 (ap (λ (w : List ℕ). Some w) found.0, (found.1, only_other group b.0 other.0))

pub next_of-text : (group : List ℕ) (next : Option (List ℕ)) → IsNext group next → next_of group (option_map encode_lower next) ≡ Some next
unfolding next_of
next_of-text group None is = refl
next_of-text group (Some bytes) is =
    ap (λ (o : Option (List ℕ)). o >>= λ x. only_if (not (bytes_eq x group)) (Some x)) (of_digits-text 32 bytes is.0)
    ∙ ap (λ (b : Bool). only_if b (Some bytes)) (other_passes group bytes is.1)

message_of-some : (word bytes : List ℕ) → message_of word ≡ Some bytes → (word ≡ encode_lower bytes) × IsMessage bytes
unfolding message_of
message_of-some word bytes h = elim (if-some (nat_le 1 (length word) && nat_le (length word) 2000) (digits_of word) None bytes h) [
  | inl a ↦
      let found = digits_of-some word bytes a.1 in
      let test = and_parts (nat_le 1 (length word)) (nat_le (length word) 2000) a.0 in
      let least : 1 ≤ length word = grind (arith, nat_tests, test.0) in
      let most : length word ≤ 2000 = grind (arith, nat_tests, test.1) in
      let long : length word ≡ 2 * length bytes = ap length found.0 ∙ length-encoded bytes in
      (found.0, record { some = omega (arith, least, long); most = omega (arith, most, long); each = found.1 })
  | inr b ↦ absurd (let e : None ≡ Some bytes = b.1 in cc)
]

message_of-text : (bytes : List ℕ) → IsMessage bytes → message_of (encode_lower bytes) ≡ Some bytes
unfolding message_of
message_of-text bytes is =
    let long : length (encode_lower bytes) ≡ 2 * length bytes = length-encoded bytes in
    let low : 1 ≤ length bytes = is.some in
    let high : length bytes ≤ 1000 = is.most in
    let least : 1 ≤ length (encode_lower bytes) = omega (arith, long, low) in
    let most : length (encode_lower bytes) ≤ 2000 = omega (arith, long, high) in
    ap (λ (b : Bool). if b then digits_of (encode_lower bytes) else None) (and_from _ _ (le-leb 1 (length (encode_lower bytes)) least) (le-leb (length (encode_lower bytes)) 2000 most))
    ∙ digits_of-encoded bytes is.each

pub send_of-some : (value send : Option (List ℕ)) → send_of value ≡ Some send → (value ≡ option_map encode_lower send) × IsSent send
unfolding send_of
send_of-some None send h =
    subst (λ (x : Option (List ℕ)). (None ≡ option_map encode_lower x) × IsSent x) (some_some None send h) (refl, tt)
send_of-some (Some word) send h =
    let b = bind_some (message_of word) (λ bytes. Some (Some bytes)) send h in
    let found = message_of-some word b.0 b.1 in
    subst (λ (x : Option (List ℕ)). (Some word ≡ option_map encode_lower x) × IsSent x) (some_some (Some b.0) send b.2) (ap (λ (w : List ℕ). Some w) found.0, found.1)

pub send_of-text : (send : Option (List ℕ)) → IsSent send → send_of (option_map encode_lower send) ≡ Some send
unfolding send_of
send_of-text None is = refl
send_of-text (Some bytes) is = ap (λ (o : Option (List ℕ)). o >>= λ x. Some (Some x)) (message_of-text bytes is)

pub journal_of-some : (value journal : Option (List ℕ)) → journal_of value ≡ Some journal → (value ≡ journal) × IsLabel journal
unfolding journal_of
journal_of-some None journal h =
    subst (λ (x : Option (List ℕ)). (None ≡ x) × IsLabel x) (some_some None journal h) (refl, tt)
journal_of-some (Some word) journal h =
    let b = bind_some (name_of word) (λ name. Some (Some name)) journal h in
    let found = name_of-some word b.0 b.1 in
    subst (λ (x : Option (List ℕ)). (Some word ≡ x) × IsLabel x) (some_some (Some b.0) journal b.2) (ap (λ (w : List ℕ). Some w) found.0, found.1)

pub journal_of-text : (journal : Option (List ℕ)) → IsLabel journal → journal_of journal ≡ Some journal
unfolding journal_of
journal_of-text None is = refl
journal_of-text (Some label) is = ap (λ (o : Option (List ℕ)). o >>= λ x. Some (Some x)) (name_of-name label is)

-- ---- as the reader of openings tells it

pub next_opening : (done now : List OpeningWords) (rest after all : List (List ℕ)) (word text : List ℕ) (opening : OpeningWords) (found : Option OpeningWords) → openings_from done rest ≡ openings_from [] all → rest ≡ word ∷ after → text ≡ word → found ≡ opening_of text → found ≡ Some opening → now ≡ done ++ opening ∷ [] →
    openings_from now after ≡ openings_from [] all
next_opening done now rest after all word text opening found before split same told is pushed =
    ap (λ (os : List OpeningWords). openings_from os after) pushed
    ∙ sym (opening_goes done word after opening (ap opening_of (sym same) ∙ sym told ∙ is))
    ∙ ap (openings_from done) (sym split)
    ∙ before

pub bad_opening : (done : List OpeningWords) (rest after all : List (List ℕ)) (word text : List ℕ) (found : Option OpeningWords) → openings_from done rest ≡ openings_from [] all → rest ≡ word ∷ after → text ≡ word → found ≡ opening_of text → found ≡ None → openings_from [] all ≡ None
bad_opening done rest after all word text found before split same told is =
    sym before
    ∙ ap (openings_from done) split
    ∙ opening_stops done word after (ap opening_of (sym same) ∙ sym told ∙ is)

pub no_opening : (done : List OpeningWords) (rest all : List (List ℕ)) → openings_from done rest ≡ openings_from [] all → length rest ≡ 0 → openings_from [] all ≡ Some done
no_opening done rest all before none = sym before ∙ openings_end done rest (omega (arith, none))
