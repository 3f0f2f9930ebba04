-- The words of a line: what is read is spelled, and what is spelled is read.
use Rattle.std.proofs.Common.{◌≡◌, ◌≢◌, ℕ, ◌+◌, ◌*◌, ◌^◌, ◌<◌, ◌≤◌, ◌==◌, ◌&&◌, Bool, true, false, List, [], ◌∷◌, ◌++◌, length, Option, Some, None, refl, sym, ap, ◌∙◌, subst, arith, inl, inr}
use Rattle.std.specs.Prelude.{codes, decimal, nat_le, nat_lt, if◌then◌else◌}
use Rattle.std.specs.List.{list_all}
use Rattle.std.specs.Str.{bytes_eq}
use Rattle.std.proofs.lemmas.Bool.{and_parts, and_from, cases_Bool, eq-eqb, eqb-true, le-leb, lt-ltb}
use Rattle.std.proofs.lemmas.Bool.Decides.{nat_tests}
use Rattle.std.proofs.lemmas.Slice.Eq.{bytes_eq-Decides}
use Rattle.hex.specs.Hex.{encode_lower}
use Rattle.glare_core.specs.declared.facts.Why.{Why}
use Rattle.glare_core.specs.declared.facts.Why.TheVariants.{Cancelled, Expired, Glare, Override, Unconfirmed, Near, Far, Idle}
use Rattle.identity.specs.declared.cert.CertFault.TheVariants.{Short, LongName, NotAscii}
use Rattle.identity.specs.Certificates.{IsCertificate, has_ascii_name}
use Rattle.identity.specs.ServiceNames.{IsServiceName, service_name_of}
use Rattle.rtmfp_forms.specs.Address.{AddressParts}
use Rattle.rtmfp_text.specs.AddressText.{address_text}
use Rattle.rtmfp_text.specs.Words.{bytes_text}
use Rattle.rtmfp_script.specs.Grammar.{AreBytes, IsName, IsPlainAddress, is_name_byte}
use Rattle.rtmfp_script.specs.Fields.{◌>>=◌, address_of, digits_of, hexadecimal_of, name_of, number_below, number_of, split_of}
use Rattle.rtmfp_script.proofs.Splits.{Lacks, bind_some, each_is, each_passes, some_some, split_joined, split_text}
use Rattle.rtmfp_script.proofs.Numbers.{number_below-decimal, number_below-some, number_of-decimal, number_of-some}
use Rattle.rtmfp_script.proofs.Digits.{digits_of-encoded, digits_of-some, hexadecimal_of-some, hexadecimal_of-text, length-encoded}
use Rattle.rtmfp_script.proofs.NamesRead.{lacks_name, name_of-name, name_of-some, not_space}
use Rattle.rtmfp_script.proofs.Addresses.{address_of-some, address_of-text, lacks_address, lacks_encoded, lacks_low}
use Rattle.rtmfp_script.proofs.Contents.{no_space_bytes}
use Rattle.audit_text.specs.Grammar.{IsBytesOf, sender_text, why_text}
use Rattle.audit_text.specs.Fields.{certificate_in, certificate_of, first_by, of_digits, sender_of, service_of, sound_bytes, why_of}

-- ---- words in front of others

-- a word that is read exactly as it is spelled, and has no space
pub record IsField {A : Type 0} (read : List ℕ → Option A) (text : A → List ℕ) (good : A → Type 0) : Type 0 where
  pub sound : (word : List ℕ) (x : A) → read word ≡ Some x → (word ≡ text x) × good x
  pub whole : (x : A) → good x → read (text x) ≡ Some x
  pub lacks : (x : A) → good x → Lacks 32 (text x)

-- the text begins with this value, and this stands behind its space
pub record IsFirst {A : Type 0} (text : A → List ℕ) (good : A → Type 0) (rest : List ℕ) (x : A) (back : List ℕ) : Type 0 where
  pub joined : rest ≡ text x ++ 32 ∷ back
  pub is : good x

pub first_sound : {A : Type 0} (read : List ℕ → Option A) (text : A → List ℕ) (good : A → Type 0) → IsField read text good → (rest : List ℕ) (p : A × List ℕ) →
    first_by read rest ≡ Some p → IsFirst text good rest p.0 p.1
unfolding first_by
first_sound {A} read text good f rest p h =
    let a = bind_some (split_of 32 rest) (λ a. read a.0 >>= λ x. Some (x, a.1)) p h in
    let x = bind_some (read a.0.0) (λ x. Some (x, a.0.1)) p a.2 in
    let is = f.sound a.0.0 x.0 x.1 in
    subst (λ (q : A × List ℕ). IsFirst text good rest q.0 q.1) (some_some (x.0, a.0.1) p x.2) (record {
      joined = split_joined 32 rest a.0 a.1 ∙ ap (λ (xs : List ℕ). xs ++ 32 ∷ a.0.1) is.0;
      is = is.1;
    })

pub first_whole : {A : Type 0} (read : List ℕ → Option A) (text : A → List ℕ) (good : A → Type 0) → IsField read text good → (x : A) (back : List ℕ) → good x →
    first_by read (text x ++ 32 ∷ back) ≡ Some (x, back)
unfolding first_by
first_whole {A} read text good f x back g =
    ap (λ (o : Option (List ℕ × List ℕ)). o >>= λ a. read a.0 >>= λ y. Some (y, a.1)) (split_text 32 (text x) back (f.lacks x g))
    ∙ ap (λ (o : Option A). o >>= λ y. Some (y, back)) (f.whole x g)

-- the value in front, and what was read behind it
pub follows : {A : Type 0} {text : A → List ℕ} {good : A → Type 0} {rest : List ℕ} {x : A} {back more : List ℕ} → IsFirst text good rest x back → back ≡ more → rest ≡ text x ++ 32 ∷ more
follows {A} {text} {good} {rest} {x} {back} {more} f e = f.joined ∙ ap (λ (xs : List ℕ). text x ++ 32 ∷ xs) e

-- ---- numbers

pub number_field : IsField number_of decimal (λ n. n < 2 ^ 64)
number_field = record {
  sound = number_of-some;
  whole = number_of-decimal;
  lacks = λ n fits. lacks_low 32 n (omega arith) fits;
}

pub short_field : IsField (number_below (2 ^ 32)) decimal (λ n. n < 2 ^ 32)
short_field = record {
  sound = number_below-some (2 ^ 32);
  whole = λ n small. number_below-decimal (2 ^ 32) n (omega arith) small;
  lacks = λ n small. lacks_low 32 n (omega arith) (omega arith);
}

-- ---- bytes in digits

if_some : {A : Type 0} (test : Bool) (x : Option A) (z : A) → (if test then x else None) ≡ Some z → (test ≡ true) × (x ≡ Some z)
if_some true x z h = (refl, h)
if_some false x z h = absurd (cc)

half : (n m : ℕ) → 2 * n ≡ 2 * m → n ≡ m
half n m e = omega (arith, e)

pub of_digits-some : (count : ℕ) (word bytes : List ℕ) → of_digits (2 * count) word ≡ Some bytes → (word ≡ encode_lower bytes) × IsBytesOf count bytes
unfolding of_digits
of_digits-some count word bytes h =
    let a = if_some (length word == 2 * count) (digits_of word) bytes h in
    let found = digits_of-some word bytes a.1 in
    let long : 2 * length bytes ≡ 2 * count = sym (length-encoded bytes) ∙ ap length (sym found.0) ∙ eqb-true (length word) (2 * count) a.0 in
    (found.0, record { many = half (length bytes) count long; each = found.1 })

pub of_digits-text : (count : ℕ) (bytes : List ℕ) → IsBytesOf count bytes → of_digits (2 * count) (encode_lower bytes) ≡ Some bytes
unfolding of_digits
of_digits-text count bytes are =
    let long : length (encode_lower bytes) ≡ 2 * count = length-encoded bytes ∙ ap (λ n. 2 * n) are.many in
    ap (λ (b : Bool). if b then digits_of (encode_lower bytes) else None) (eq-eqb (length (encode_lower bytes)) (2 * count) long)
    ∙ digits_of-encoded bytes are.each

pub print_field : IsField (of_digits 64) encode_lower (IsBytesOf 32)
print_field = record {
  sound = of_digits-some 32;
  whole = of_digits-text 32;
  lacks = λ bytes is. lacks_encoded 32 bytes refl is.each;
}

pub nonce_field : IsField (of_digits 32) encode_lower (IsBytesOf 16)
nonce_field = record {
  sound = of_digits-some 16;
  whole = of_digits-text 16;
  lacks = λ bytes is. lacks_encoded 32 bytes refl is.each;
}

-- ---- service names and certificates

ascii_bytes : (bytes : List ℕ) → list_all (λ b. nat_lt b 0x80) bytes ≡ true → list_all (λ b. nat_lt b 256) bytes ≡ true
ascii_bytes [] h = refl
ascii_bytes (b ∷ bytes) h =
    let parts = and_parts (nat_lt b 0x80) (list_all (λ b. nat_lt b 0x80) bytes) h in
    let small : b < 128 = grind (arith, nat_tests, parts.0) in
    and_from _ _ (lt-ltb b 256 (omega arith)) (ascii_bytes bytes parts.1)

service_is : (bytes name : List ℕ) → service_name_of bytes ≡ Some name → (bytes ≡ name) × IsServiceName name
service_is bytes name h =
    let a = if_some (nat_lt 0 (length bytes) && (nat_lt (length bytes) 65 && list_all (λ b. nat_lt b 0x80) bytes)) (Some bytes) name h in
    let first = and_parts (nat_lt 0 (length bytes)) (nat_lt (length bytes) 65 && list_all (λ b. nat_lt b 0x80) bytes) a.0 in
    let second = and_parts (nat_lt (length bytes) 65) (list_all (λ b. nat_lt b 0x80) bytes) first.1 in
    let some : 1 ≤ length bytes = grind (arith, nat_tests, first.0) in
    let few : length bytes ≤ 64 = grind (arith, nat_tests, second.0) in
    let same : bytes ≡ name = some_some bytes name a.1 in
    (same, subst IsServiceName same (record { some = some; few = few; ascii = second.1 }))

service_read : (name : List ℕ) → IsServiceName name → service_name_of name ≡ Some name
service_read name is =
    let test : (nat_lt 0 (length name) && (nat_lt (length name) 65 && list_all (λ b. nat_lt b 0x80) name)) ≡ true =
    and_from _ _ (lt-ltb 0 (length name) (omega (arith, is.some))) (and_from _ _ (lt-ltb (length name) 65 (omega (arith, is.few))) is.ascii) in
    ap (λ (b : Bool). if b then Some name else None) test

pub service_of-some : (word name : List ℕ) → service_of word ≡ Some name → (word ≡ encode_lower name) × IsServiceName name
unfolding service_of
service_of-some word name h =
    let a = if_some (nat_le (length word) 128) (digits_of word >>= service_name_of) name h in
    let b = bind_some (digits_of word) service_name_of name a.1 in
    let digits = digits_of-some word b.0 b.1 in
    let is = service_is b.0 name b.2 in
    (digits.0 ∙ ap encode_lower is.0, is.1)

short_enough : (most : ℕ) (bytes : List ℕ) → length bytes ≤ most → nat_le (length (encode_lower bytes)) (2 * most) ≡ true
short_enough most bytes few = le-leb _ _ (omega (arith, few, length-encoded bytes))

pub service_of-text : (name : List ℕ) → IsServiceName name → service_of (encode_lower name) ≡ Some name
unfolding service_of
service_of-text name is =
    ap (λ (b : Bool). if b then (digits_of (encode_lower name) >>= service_name_of) else None) (short_enough 64 name is.few)
    ∙ ap (λ (o : Option (List ℕ)). o >>= service_name_of) (digits_of-encoded name (ascii_bytes name is.ascii))
    ∙ service_read name is

pub service_field : IsField service_of encode_lower IsServiceName
service_field = record {
  sound = service_of-some;
  whole = service_of-text;
  lacks = λ name is. lacks_encoded 32 name refl (ascii_bytes name is.ascii);
}

-- bytes in which there is no fault
record IsSound (bytes : List ℕ) : Type 0 where
  long : nat_lt (length bytes) 17 ≡ false
  short : nat_lt 80 (length bytes) ≡ false
  ascii : has_ascii_name bytes ≡ true

sound_by : (a b c : Bool) (bytes cert : List ℕ) → sound_bytes (if a then Some Short else (if b then Some LongName else (if c then None else Some NotAscii))) bytes ≡ Some cert →
    (a ≡ false) × (b ≡ false) × (c ≡ true) × (bytes ≡ cert)
sound_by true b c bytes cert h = absurd (cc)
sound_by false true c bytes cert h = absurd (cc)
sound_by false false false bytes cert h = absurd (cc)
sound_by false false true bytes cert h = (refl, refl, refl, some_some bytes cert h)

certificate_is : (bytes cert : List ℕ) → certificate_in bytes ≡ Some cert → (bytes ≡ cert) × IsCertificate cert
unfolding certificate_in
certificate_is bytes cert h =
    let s = sound_by (nat_lt (length bytes) 17) (nat_lt 80 (length bytes)) (has_ascii_name bytes) bytes cert h in
    let named : 17 ≤ length bytes = grind (arith, nat_tests, s.0) in
    let few : length bytes ≤ 80 = grind (arith, nat_tests, s.1) in
    (s.3, subst IsCertificate s.3 (record { named = omega (arith, named); short_named = omega (arith, few); ascii = s.2 }))

not_short : (n : ℕ) → 16 + 1 ≤ n → nat_lt n 17 ≡ false
not_short n h = grind (arith, nat_tests)

not_long : (n : ℕ) → n ≤ 16 + 64 → nat_lt 80 n ≡ false
not_long n h = grind (arith, nat_tests)

certificate_read : (cert : List ℕ) → IsCertificate cert → certificate_in cert ≡ Some cert
unfolding certificate_in
certificate_read cert is =
    ap (λ (b : Bool). sound_bytes (if b then Some Short else (if nat_lt 80 (length cert) then Some LongName else (if has_ascii_name cert then None else Some NotAscii))) cert) (not_short (length cert) is.named)
    ∙ ap (λ (b : Bool). sound_bytes (if b then Some LongName else (if has_ascii_name cert then None else Some NotAscii)) cert) (not_long (length cert) is.short_named)
    ∙ ap (λ (b : Bool). sound_bytes (if b then None else Some NotAscii) cert) is.ascii

-- a certificate of bytes
pub record IsCert (cert : List ℕ) : Type 0 where
  pub form : IsCertificate cert
  pub bytes : AreBytes cert

pub certificate_of-some : (word cert : List ℕ) → certificate_of word ≡ Some cert → (word ≡ encode_lower cert) × IsCert cert
unfolding certificate_of
certificate_of-some word cert h =
    let a = if_some (nat_le (length word) 160) (digits_of word >>= certificate_in) cert h in
    let b = bind_some (digits_of word) certificate_in cert a.1 in
    let digits = digits_of-some word b.0 b.1 in
    let is = certificate_is b.0 cert b.2 in
    (digits.0 ∙ ap encode_lower is.0, record { form = is.1; bytes = subst AreBytes is.0 digits.1 })

pub certificate_of-text : (cert : List ℕ) → IsCert cert → certificate_of (encode_lower cert) ≡ Some cert
unfolding certificate_of
certificate_of-text cert is =
    ap (λ (b : Bool). if b then (digits_of (encode_lower cert) >>= certificate_in) else None) (short_enough 80 cert is.form.short_named)
    ∙ ap (λ (o : Option (List ℕ)). o >>= certificate_in) (digits_of-encoded cert is.bytes)
    ∙ certificate_read cert is.form

-- ---- names, addresses and bytes

pub name_field : IsField name_of (λ name. name) IsName
name_field = record { sound = name_of-some; whole = name_of-name; lacks = lacks_name }

pub address_field : IsField address_of address_text IsPlainAddress
address_field = record { sound = address_of-some; whole = address_of-text; lacks = lacks_address }

pub bytes_field : IsField hexadecimal_of bytes_text AreBytes
bytes_field = record {
  sound = hexadecimal_of-some;
  whole = hexadecimal_of-text;
  lacks = λ bytes are. (no_space_bytes bytes are).lacks;
}

-- ---- words of a list

pub is_word : (word key : List ℕ) → bytes_eq word key ≡ true → word ≡ key
is_word word key h = grind (arith, bytes_eq-Decides)

-- the word spells this
pub record IsSpelled {S : Type 0} (text : S → List ℕ) (good : S → Type 0) (word : List ℕ) (said : S) : Type 0 where
  pub spelled : word ≡ text said
  pub within : good said

-- one word more of a list
pub choose : {S : Type 0} (text : S → List ℕ) (good : S → Type 0) (word key : List ℕ) (here : S) (other : Option S) (said : S) → IsSpelled text good key here →
    (other ≡ Some said → IsSpelled text good word said) → (if bytes_eq word key then Some here else other) ≡ Some said → IsSpelled text good word said
choose {S} text good word key here other said is later h = elim (cases_Bool (bytes_eq word key)) [
  | inl same ↦
      let e : here ≡ said = some_some here said (rw same at h) in
      subst (IsSpelled text good word) e (subst (λ (w : List ℕ). IsSpelled text good w here) (sym (is_word word key same)) is)
  | inr not ↦ later (rw not at h)
]

-- no word is left
pub no_word : {S : Type 0} (text : S → List ℕ) (good : S → Type 0) (word : List ℕ) (said : S) → None ≡ Some said → IsSpelled text good word said
no_word text good word said h = absurd (cc h)

abbrev IsWhy : Why → Type 0
IsWhy why = Unit {0}

why_is : (why : Why) → IsSpelled why_text IsWhy (why_text why) why
why_is why = record { spelled = refl; within = tt }

why_sound : (word : List ℕ) (why : Why) → why_of word ≡ Some why → IsSpelled why_text IsWhy word why
unfolding why_of why_text
why_sound word why =
    choose why_text IsWhy word (codes "cancelled") Cancelled _ why (why_is Cancelled)
    (choose why_text IsWhy word (codes "expired") Expired _ why (why_is Expired)
    (choose why_text IsWhy word (codes "glare") Glare _ why (why_is Glare)
    (choose why_text IsWhy word (codes "override") Override _ why (why_is Override)
    (choose why_text IsWhy word (codes "unconfirmed") Unconfirmed _ why (why_is Unconfirmed)
    (choose why_text IsWhy word (codes "near") Near _ why (why_is Near)
    (choose why_text IsWhy word (codes "far") Far _ why (why_is Far)
    (choose why_text IsWhy word (codes "idle") Idle None why (why_is Idle)
    (no_word why_text IsWhy word why))))))))

pub why_of-some : (word : List ℕ) (why : Why) → why_of word ≡ Some why → word ≡ why_text why
why_of-some word why h = (why_sound word why h).spelled

pub why_of-text : (why : Why) → why_of (why_text why) ≡ Some why
unfolding why_of why_text
why_of-text Cancelled = refl
why_of-text Expired = refl
why_of-text Glare = refl
why_of-text Override = refl
why_of-text Unconfirmed = refl
why_of-text Near = refl
why_of-text Far = refl
why_of-text Idle = refl

abbrev pub IsBit : Bool → Type 0
IsBit bit = Unit {0}

sender_is : (bit : Bool) → IsSpelled sender_text IsBit (sender_text bit) bit
sender_is bit = record { spelled = refl; within = tt }

sender_sound : (word : List ℕ) (bit : Bool) → sender_of word ≡ Some bit → IsSpelled sender_text IsBit word bit
unfolding sender_of sender_text
sender_sound word bit =
    choose sender_text IsBit word (codes "i") true _ bit (sender_is true)
    (choose sender_text IsBit word (codes "r") false None bit (sender_is false)
    (no_word sender_text IsBit word bit))

sender_whole : (bit : Bool) → IsBit bit → sender_of (sender_text bit) ≡ Some bit
unfolding sender_of sender_text
sender_whole true is = refl
sender_whole false is = refl

lacks_letters : (word : List ℕ) → list_all is_name_byte word ≡ true → Lacks 32 word
lacks_letters word is = each_is (λ x. is_name_byte x ≡ true) (λ x. x ≢ 32) not_space word (each_passes is_name_byte word is)

lacks_sender : (bit : Bool) → IsBit bit → Lacks 32 (sender_text bit)
unfolding sender_text
lacks_sender true is = lacks_letters (codes "i") refl
lacks_sender false is = lacks_letters (codes "r") refl

pub sender_field : IsField sender_of sender_text IsBit
sender_field = record {
  sound = λ word bit h. ((sender_sound word bit h).spelled, tt);
  whole = sender_whole;
  lacks = lacks_sender;
}

-- ---- each of them in front of others

pub first_number : (rest : List ℕ) (p : ℕ × List ℕ) → first_by number_of rest ≡ Some p → IsFirst decimal (λ n. n < 2 ^ 64) rest p.0 p.1
first_number = first_sound number_of decimal (λ n. n < 2 ^ 64) number_field

pub number_first : (n : ℕ) (back : List ℕ) → n < 2 ^ 64 → first_by number_of (decimal n ++ 32 ∷ back) ≡ Some (n, back)
number_first = first_whole number_of decimal (λ n. n < 2 ^ 64) number_field

pub first_short : (rest : List ℕ) (p : ℕ × List ℕ) → first_by (number_below (2 ^ 32)) rest ≡ Some p → IsFirst decimal (λ n. n < 2 ^ 32) rest p.0 p.1
first_short = first_sound (number_below (2 ^ 32)) decimal (λ n. n < 2 ^ 32) short_field

pub short_first : (n : ℕ) (back : List ℕ) → n < 2 ^ 32 → first_by (number_below (2 ^ 32)) (decimal n ++ 32 ∷ back) ≡ Some (n, back)
short_first = first_whole (number_below (2 ^ 32)) decimal (λ n. n < 2 ^ 32) short_field

pub first_print : (rest : List ℕ) (p : List ℕ × List ℕ) → first_by (of_digits 64) rest ≡ Some p → IsFirst encode_lower (IsBytesOf 32) rest p.0 p.1
first_print = first_sound (of_digits 64) encode_lower (IsBytesOf 32) print_field

pub print_first : (bytes back : List ℕ) → IsBytesOf 32 bytes → first_by (of_digits 64) (encode_lower bytes ++ 32 ∷ back) ≡ Some (bytes, back)
print_first = first_whole (of_digits 64) encode_lower (IsBytesOf 32) print_field

pub first_nonce : (rest : List ℕ) (p : List ℕ × List ℕ) → first_by (of_digits 32) rest ≡ Some p → IsFirst encode_lower (IsBytesOf 16) rest p.0 p.1
first_nonce = first_sound (of_digits 32) encode_lower (IsBytesOf 16) nonce_field

pub nonce_first : (bytes back : List ℕ) → IsBytesOf 16 bytes → first_by (of_digits 32) (encode_lower bytes ++ 32 ∷ back) ≡ Some (bytes, back)
nonce_first = first_whole (of_digits 32) encode_lower (IsBytesOf 16) nonce_field

pub first_service : (rest : List ℕ) (p : List ℕ × List ℕ) → first_by service_of rest ≡ Some p → IsFirst encode_lower IsServiceName rest p.0 p.1
first_service = first_sound service_of encode_lower IsServiceName service_field

pub service_first : (name back : List ℕ) → IsServiceName name → first_by service_of (encode_lower name ++ 32 ∷ back) ≡ Some (name, back)
service_first = first_whole service_of encode_lower IsServiceName service_field

pub first_name : (rest : List ℕ) (p : List ℕ × List ℕ) → first_by name_of rest ≡ Some p → IsFirst (λ name. name) IsName rest p.0 p.1
first_name = first_sound name_of (λ name. name) IsName name_field

pub name_first : (name back : List ℕ) → IsName name → first_by name_of (name ++ 32 ∷ back) ≡ Some (name, back)
name_first = first_whole name_of (λ name. name) IsName name_field

pub first_address : (rest : List ℕ) (p : AddressParts × List ℕ) → first_by address_of rest ≡ Some p → IsFirst address_text IsPlainAddress rest p.0 p.1
first_address = first_sound address_of address_text IsPlainAddress address_field

pub address_first : (address : AddressParts) (back : List ℕ) → IsPlainAddress address → first_by address_of (address_text address ++ 32 ∷ back) ≡ Some (address, back)
address_first = first_whole address_of address_text IsPlainAddress address_field

pub first_sender : (rest : List ℕ) (p : Bool × List ℕ) → first_by sender_of rest ≡ Some p → IsFirst sender_text IsBit rest p.0 p.1
first_sender = first_sound sender_of sender_text IsBit sender_field

pub sender_first : (bit : Bool) (back : List ℕ) → first_by sender_of (sender_text bit ++ 32 ∷ back) ≡ Some (bit, back)
sender_first bit back = first_whole sender_of sender_text IsBit sender_field bit back tt

-- ---- by a word and what stands behind its space

-- a word, and what stands behind its space, say this
pub record IsSaid {S : Type 0} (text : S → List ℕ) (good : S → Type 0) (word rest : List ℕ) (said : S) : Type 0 where
  pub spelled : word ++ 32 ∷ rest ≡ text said
  pub within : good said

-- one key more
pub by : {S : Type 0} (text : S → List ℕ) (good : S → Type 0) (word rest : List ℕ) (said : S) (key : List ℕ) (here other : Option S) →
    (here ≡ Some said → IsSaid text good key rest said) → (other ≡ Some said → IsSaid text good word rest said) →
    (if bytes_eq word key then here else other) ≡ Some said → IsSaid text good word rest said
by {S} text good word rest said key here other sound later h = elim (cases_Bool (bytes_eq word key)) [
  | inl is ↦ subst (λ (w : List ℕ). IsSaid text good w rest said) (sym (is_word word key is)) (sound (rw is at h))
  | inr not ↦ later (rw not at h)
]

pub no_key : {S : Type 0} (text : S → List ℕ) (good : S → Type 0) (word rest : List ℕ) (said : S) → None ≡ Some said → IsSaid text good word rest said
no_key text good word rest said h = absurd (cc h)

-- the word in front
pub after : (word rest behind : List ℕ) → rest ≡ behind → word ++ 32 ∷ rest ≡ word ++ 32 ∷ behind
after word rest behind e = ap (λ (xs : List ℕ). word ++ 32 ∷ xs) e
