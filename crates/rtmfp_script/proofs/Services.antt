-- The names of services in digits.
use Rattle.std.proofs.Common.{◌≡◌, ℕ, ◌<◌, ◌≤◌, ◌*◌, ◌&&◌, Bool, true, false, List, [], ◌∷◌, length, Option, Some, None, refl, sym, ap, ◌∙◌, subst, arith, inl, inr}
use Rattle.std.specs.Prelude.{nat_lt}
use Rattle.std.specs.List.{list_all}
use Rattle.std.proofs.lemmas.Bool.{and_parts, and_from, cases_Bool, lt-ltb}
use Rattle.std.proofs.lemmas.Bool.Decides.{nat_tests}
use Rattle.hex.specs.Hex.{encode_lower}
use Rattle.identity.specs.ServiceNames.{IsServiceName, service_name_of}
use Rattle.rtmfp_text.specs.Words.{bytes_text}
use Rattle.rtmfp_script.specs.Grammar.{AreBytes}
use Rattle.rtmfp_script.specs.Fields.{digits_of, service_of, ◌>>=◌}
use Rattle.rtmfp_script.proofs.Splits.{some_some, bind_some, Lacks}
use Rattle.rtmfp_script.proofs.Digits.{digits_of-some, digits_of-encoded, length-encoded}
use Rattle.rtmfp_script.proofs.Contents.{no_space_bytes}

-- ---- what bytes are a name

abbrev is_fit : List ℕ → Bool
is_fit bytes = nat_lt 0 (length bytes) && (nat_lt (length bytes) 65 && list_all (λ b. nat_lt b 0x80) bytes)

service_fits : (bytes name : List ℕ) → service_name_of bytes ≡ Some name → (bytes ≡ name) × IsServiceName name
service_fits bytes name h = elim (cases_Bool (is_fit bytes)) [
  | inl good ↦
      let same : bytes ≡ name = some_some bytes name (rw good at h) in
      let first = and_parts (nat_lt 0 (length bytes)) (nat_lt (length bytes) 65 && list_all (λ b. nat_lt b 0x80) bytes) good in
      let second = and_parts (nat_lt (length bytes) 65) (list_all (λ b. nat_lt b 0x80) bytes) first.1 in
      let some : 1 ≤ length bytes = grind (arith, nat_tests, first.0) in
      let few : length bytes ≤ 64 = grind (arith, nat_tests, second.0) in
      (same, subst IsServiceName same (record { some = some; few = few; ascii = second.1 }))
  | inr bad ↦ absurd (let none : None ≡ Some name = rw bad at h in cc)
]

fits_service : (name : List ℕ) → IsServiceName name → service_name_of name ≡ Some name
fits_service name is =
    let some : 0 < length name = (let e = is.some in omega arith) in
    let few : length name < 65 = (let e = is.few in omega arith) in
    let good : is_fit name ≡ true = and_from _ _ (lt-ltb 0 (length name) some) (and_from _ _ (lt-ltb (length name) 65 few) is.ascii) in
    rw good refl

too_many : (bytes : List ℕ) → 64 < length bytes → service_name_of bytes ≡ None
too_many bytes many =
    let test : nat_lt (length bytes) 65 ≡ false = grind (arith, nat_tests) in
    grind (arith, nat_tests)

-- ---- its bytes are bytes

ascii_byte : (b : ℕ) → nat_lt b 0x80 ≡ true → nat_lt b 256 ≡ true
ascii_byte b h = grind (arith, nat_tests)

pub ascii_bytes : (bytes : List ℕ) → list_all (λ b. nat_lt b 0x80) bytes ≡ true → AreBytes bytes
ascii_bytes [] h = refl
ascii_bytes (b ∷ bytes) h =
    let parts = and_parts (nat_lt b 0x80) (list_all (λ x. nat_lt x 0x80) bytes) h in
    and_from _ _ (ascii_byte b parts.0) (ascii_bytes bytes parts.1)

-- digits of bytes that are some
some_digits : (name : List ℕ) → 1 ≤ length name → bytes_text name ≡ encode_lower name
some_digits [] h = absurd (omega arith)
some_digits (b ∷ name) h = refl

-- ---- read, and as a text

pub service_of-some : (word name : List ℕ) → service_of word ≡ Some name → (word ≡ bytes_text name) × IsServiceName name
unfolding service_of
service_of-some word name h =
    let bytes = bind_some (digits_of word) (λ bytes. service_name_of bytes) name h in
    let d = digits_of-some word bytes.0 bytes.1 in
    let s = service_fits bytes.0 name bytes.2 in
    (d.0 ∙ ap encode_lower s.0 ∙ sym (some_digits name s.1.some), s.1)

pub service_of-text : (name : List ℕ) → IsServiceName name → service_of (bytes_text name) ≡ Some name
unfolding service_of
service_of-text name is = rw (some_digits name is.some, digits_of-encoded name (ascii_bytes name is.ascii)) (fits_service name is)

pub lacks_service : (name : List ℕ) → IsServiceName name → Lacks 32 (bytes_text name)
lacks_service name is = (no_space_bytes name (ascii_bytes name is.ascii)).lacks

-- digits of more bytes than a name has
no_service : (word : List ℕ) (o : Option (List ℕ)) → digits_of word ≡ o → 128 < length word → (o >>= λ bytes. service_name_of bytes) ≡ None
no_service word None e long = refl
no_service word (Some bytes) e long =
    let d = digits_of-some word bytes e in
    let size : length word ≡ 2 * length bytes = ap length d.0 ∙ length-encoded bytes in
    too_many bytes (omega arith)

pub long_service : (word : List ℕ) → 128 < length word → service_of word ≡ None
unfolding service_of
long_service word long = no_service word (digits_of word) refl long
