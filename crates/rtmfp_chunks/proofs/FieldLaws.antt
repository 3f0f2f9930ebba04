-- A field that is read is the one that is spelled, and each fault is where it breaks.
use Rattle.std.proofs.Common.{◌≡◌, ℕ, ◌-◌, ◌^◌, ◌<◌, ◌≤◌, Bool, false, ltb, List, [], ◌∷◌, ◌++◌, length, take, drop, Result, Ok, Err, refl, sym, ap, subst, ◌∙◌, append_assoc, inl, inr, arith}
use Rattle.std.specs.Int.{w32, to_be_bytes, from_be_bytes}
use Rattle.std.proofs.lemmas.Bool.{cases_lt, lt-ltb, le-ltb}
use Rattle.std.proofs.lemmas.List.{take_at, drop_at, length-append, length-take-le, take-append-drop}
use Rattle.std.proofs.lemmas.Nat.{be_bytes_4, from_be_bytes-to_be_bytes_4}
use Rattle.rtmfp_vlu.specs.declared.reading.VluFault.{VluFault}
use Rattle.rtmfp_vlu.specs.declared.reading.VluFault.TheVariants as vlu
use Rattle.rtmfp_vlu.specs.Vlu.{VluSpells}
use Rattle.rtmfp_vlu.specs.Reading.{number_at}
use Rattle.rtmfp_vlu.specs.Decoding.{Decodes}
use Rattle.rtmfp_vlu.proofs.Bytes.{IsBytes, IsBytes-take}
use Rattle.rtmfp_vlu.proofs.Fields.{stands}
use Rattle.rtmfp_vlu.proofs.Decoded.{decodes_number, reads_number, reads_cut, reads_large}
use Rattle.rtmfp_forms.specs.declared.fault.FormFault.{FormFault}
use Rattle.rtmfp_forms.specs.declared.fault.FormFault.TheVariants.{Short, Large, NoMarker}
use Rattle.rtmfp_forms.specs.Address.{AddressParts, AddressSpells, IsCutAddress}
use Rattle.rtmfp_forms.specs.AddressReading.{address_at}
use Rattle.rtmfp_forms.specs.OptionReading.{◌>>=◌}
use Rattle.rtmfp_forms.proofs.Addresses.{address_takes, address_again, address_short, address_only_short}
use Rattle.rtmfp_chunks.specs.Fields.{Field, Counted, Number, SessionId, More, OneAddress, FieldSpells, CountedSpells, NoVlu, FieldBreaks, form_of}
use Rattle.rtmfp_chunks.specs.Fields.{Form, CountedForm, NumberForm, SessionIdForm, MoreForm, AddressForm}
use Rattle.rtmfp_chunks.specs.FieldReading.{split_number, number_then, bytes_then, counted_then, id_then, more_then, split_address, address_then, field_then}

-- what was read, made a field of this form, is spelled in front; or it breaks
abbrev pub Is : {X : Type 0} → Form → (X → Field) → List ℕ → Result (X × List ℕ) ℕ → Type 0
Is form make b (Ok found) = (front : List ℕ) × (b ≡ front ++ found.1) × FieldSpells (make found.0) front
Is form make b (Err left) = (left ≤ length b) × FieldBreaks form b (length b - left)

-- ---- numbers

split_is : (b : List ℕ) (r : Result (ℕ × ℕ) VluFault) → Decodes b r → Is NumberForm Number b (split_number b r)
split_is b (Ok found) d = (take found.1 b, sym (take-append-drop found.1 b), d.1)
split_is b (Err vlu.Short) d = (omega arith, (inl d, omega arith))
split_is b (Err vlu.Large) d = (omega arith, (inr d, omega arith))

number_is : (b : List ℕ) → IsBytes b → Is NumberForm Number b (number_then b)
unfolding number_then
number_is b fits = split_is b (number_at b) (decodes_number b fits)

number_again : (v : ℕ) (s rest : List ℕ) → VluSpells v s → number_then (s ++ rest) ≡ Ok (v, rest)
unfolding number_then
number_again v s rest h =
    let at = stands v (s ++ rest) s rest refl h in
    rw (reads_number (s ++ rest) v (length s) at.0 at.1, drop_at s rest (length s) refl) refl

number_broken : (b : List ℕ) → NoVlu b → number_then b ≡ Err (length b)
unfolding number_then
number_broken b (inl cut) = rw (reads_cut b cut) refl
number_broken b (inr large) = rw (reads_large b large) refl

-- ---- bytes behind their length

counted_from : (b : List ℕ) (size : ℕ) (count rest : List ℕ) → b ≡ count ++ rest → VluSpells size count → Is CountedForm Counted b (bytes_then size rest)
unfolding bytes_then
counted_from b size count rest e h =
    elim (cases_lt (length rest) size) [
      | inl lt ↦ rw (lt-ltb (length rest) size lt) (
        omega (arith, ap length e, length-append count rest),
        inr record { size = size; count = count; rest = rest; spells = h; joined = e; cut = lt; begins = omega (arith, ap length e, length-append count rest) },
      )
      | inr fits ↦ rw (le-ltb (length rest) size fits) (
          let P : ℕ → Type 0 = λ n. VluSpells n count in (
            count ++ take size rest,
            e ∙ ap (λ (xs : List ℕ). count ++ xs) (sym (take-append-drop size rest)) ∙ sym (append_assoc count (take size rest) (drop size rest)),
            record { count = count; spells = subst P (sym (length-take-le size rest fits)) h; joined = refl },
          ))
    ]

counted_size : (b : List ℕ) (r : Result (ℕ × List ℕ) ℕ) → Is NumberForm Number b r → Is CountedForm Counted b (r >>= λ size. bytes_then size.0 size.1)
counted_size b (Ok size) h = counted_from b size.0 h.0 size.1 h.1 h.2
counted_size b (Err left) h = (h.0, inl h.1)

counted_is : (b : List ℕ) → IsBytes b → Is CountedForm Counted b (counted_then b)
unfolding counted_then
counted_is b fits = counted_size b (number_then b) (number_is b fits)

counted_again : (bytes s rest : List ℕ) → CountedSpells bytes s → counted_then (s ++ rest) ≡ Ok (bytes, rest)
unfolding counted_then bytes_then
counted_again bytes s rest h =
    let whole : s ++ rest ≡ h.count ++ (bytes ++ rest) = ap (λ (xs : List ℕ). xs ++ rest) h.joined ∙ append_assoc h.count bytes rest in
    let long : ltb (length (bytes ++ rest)) (length bytes) ≡ false = le-ltb _ _ (omega (arith, length-append bytes rest)) in
    rw (whole, number_again (length bytes) h.count (bytes ++ rest) h.spells, long, take_at bytes rest (length bytes) refl, drop_at bytes rest (length bytes) refl) refl

counted_broken : (b : List ℕ) (at : ℕ) → FieldBreaks CountedForm b at → counted_then b ≡ Err (length b - at)
unfolding counted_then bytes_then
counted_broken b at (inl none) = let left : length b ≡ length b - at = omega (arith, none.1) in rw (number_broken b none.0) (ap (λ (n : ℕ). Err n) left)
counted_broken b at (inr h) =
    let left : length h.rest ≡ length b - at = omega (arith, ap length h.joined, length-append h.count h.rest, h.begins) in
    let read : number_then b ≡ Ok (h.size, h.rest) = ap number_then h.joined ∙ number_again h.size h.count h.rest h.spells in
    rw (read, lt-ltb (length h.rest) h.size h.cut) (ap (λ (n : ℕ). Err n) left)

-- ---- session IDs

id_is : (b : List ℕ) → IsBytes b → Is SessionIdForm SessionId b (id_then b)
unfolding id_then
id_is b fits =
    elim (cases_lt (length b) 4) [
      | inl lt ↦ rw (lt-ltb (length b) 4 lt) (omega arith, (lt, omega arith))
      | inr ge ↦ rw (le-ltb (length b) 4 ge) (
          let four : length (take 4 b) ≡ 4 = length-take-le 4 b ge in
          let bytes = IsBytes-take 4 b fits in (
            take 4 b,
            sym (take-append-drop 4 b),
            (omega (arith, bytes 0, bytes 1, bytes 2, bytes 3), sym (be_bytes_4 (take 4 b) (from_be_bytes w32 (take 4 b)) four bytes refl)),
          ))
    ]

id_again : (id : ℕ) (s rest : List ℕ) → id < 2 ^ 32 → s ≡ to_be_bytes w32 id → id_then (s ++ rest) ≡ Ok (id, rest)
unfolding id_then
id_again id s rest h e =
    let four : length s ≡ 4 = ap length e in
    let long : ltb (length (s ++ rest)) 4 ≡ false = le-ltb _ _ (omega (arith, length-append s rest)) in
    let read : from_be_bytes w32 s ≡ id = ap (from_be_bytes w32) e ∙ from_be_bytes-to_be_bytes_4 id h in
    rw (long, take_at s rest 4 four, drop_at s rest 4 four, read) refl

id_broken : (b : List ℕ) (at : ℕ) → FieldBreaks SessionIdForm b at → id_then b ≡ Err (length b - at)
unfolding id_then
id_broken b at h = let left : length b ≡ length b - at = omega (arith, h.1) in rw (lt-ltb (length b) 4 h.0) (ap (λ (n : ℕ). Err n) left)

-- ---- flags

more_is : (b : List ℕ) → IsBytes b → Is MoreForm More b (more_then b)
unfolding more_then
more_is [] fits = (omega arith, (refl, refl))
more_is (flags ∷ rest) fits = (flags ∷ [], refl, record { flags = flags; fits = fits 0; highest = refl; whole = refl })

more_again : (more : Bool) (s rest : List ℕ) → FieldSpells (More more) s → more_then (s ++ rest) ≡ Ok (more, rest)
unfolding more_then
more_again more s rest h = rw (h.whole, h.highest) refl

more_broken : (b : List ℕ) (at : ℕ) → FieldBreaks MoreForm b at → more_then b ≡ Err (length b - at)
unfolding more_then
more_broken b at h = let left : 0 ≡ length b - at = omega (arith, ap length h.0) in rw h.0 (ap (λ (n : ℕ). Err n) (omega arith))

-- ---- addresses

located : (b : List ℕ) (r : Result (AddressParts × ℕ) FormFault) → IsBytes b → r ≡ address_at b → Is AddressForm OneAddress b (split_address b r)
located b (Ok found) fits e = let h = address_takes b (Ok found) fits e in (take found.1 b, sym (take-append-drop found.1 b), h.1)
located b (Err Short) fits e = (omega arith, ((address_short b).0 (sym e), omega arith))
located b (Err Large) fits e = absurd (cc (rw (← e) at (address_only_short b)))
located b (Err NoMarker) fits e = absurd (cc (rw (← e) at (address_only_short b)))

pub address_is : (b : List ℕ) → IsBytes b → Is AddressForm OneAddress b (address_then b)
unfolding address_then
address_is b fits = located b (address_at b) fits refl

pub address_then-again : (a : AddressParts) (s rest : List ℕ) → AddressSpells a s → address_then (s ++ rest) ≡ Ok (a, rest)
unfolding address_then
address_then-again a s rest h = rw (address_again a s rest h, drop_at s rest (length s) refl) refl

pub address_then-cut : (b : List ℕ) → IsCutAddress b → address_then b ≡ Err (length b)
unfolding address_then
address_then-cut b h = rw ((address_short b).1 h) refl

-- ---- any field

abbrev pub FieldIs : Form → List ℕ → Result (Field × List ℕ) ℕ → Type 0
FieldIs form b (Ok found) = (front : List ℕ) × (form_of found.0 ≡ form) × (b ≡ front ++ found.1) × FieldSpells found.0 front
FieldIs form b (Err left) = (left ≤ length b) × FieldBreaks form b (length b - left)

made : {X : Type 0} (form : Form) (make : X → Field) (b : List ℕ) (r : Result (X × List ℕ) ℕ) → ((x : X) → form_of (make x) ≡ form) → Is form make b r → FieldIs form b (r >>= λ found. Ok (make found.0, found.1))
made form make b (Ok found) is h = (h.0, is found.0, h.1, h.2)
made form make b (Err left) is h = h

-- what is read is spelled, and what can't be read breaks there
pub field_is : (form : Form) (b : List ℕ) → IsBytes b → FieldIs form b (field_then form b)
unfolding field_then
field_is CountedForm b fits = made CountedForm Counted b (counted_then b) (λ x. refl) (counted_is b fits)
field_is NumberForm b fits = made NumberForm Number b (number_then b) (λ x. refl) (number_is b fits)
field_is SessionIdForm b fits = made SessionIdForm SessionId b (id_then b) (λ x. refl) (id_is b fits)
field_is MoreForm b fits = made MoreForm More b (more_then b) (λ x. refl) (more_is b fits)
field_is AddressForm b fits = made AddressForm OneAddress b (address_then b) (λ x. refl) (address_is b fits)

-- what is spelled is read, whatever follows it
pub field_again : (field : Field) (s rest : List ℕ) → FieldSpells field s → field_then (form_of field) (s ++ rest) ≡ Ok (field, rest)
unfolding field_then
field_again (Counted bytes) s rest h = rw (counted_again bytes s rest h) refl
field_again (Number number) s rest h = rw (number_again number s rest h) refl
field_again (SessionId id) s rest h = rw (id_again id s rest h.0 h.1) refl
field_again (More more) s rest h = rw (more_again more s rest h) refl
field_again (OneAddress address) s rest h = rw (address_then-again address s rest h) refl

-- what breaks isn't read
pub field_broken : (form : Form) (b : List ℕ) (at : ℕ) → FieldBreaks form b at → field_then form b ≡ Err (length b - at)
unfolding field_then
field_broken CountedForm b at h = rw (counted_broken b at h) refl
field_broken NumberForm b at h = let left : length b ≡ length b - at = omega (arith, h.1) in rw (number_broken b h.0) (ap (λ (n : ℕ). Err n) left)
field_broken SessionIdForm b at h = rw (id_broken b at h) refl
field_broken MoreForm b at h = rw (more_broken b at h) refl
field_broken AddressForm b at h = let left : length b ≡ length b - at = omega (arith, h.1) in rw (address_then-cut b h.0) (ap (λ (n : ℕ). Err n) left)

pub breaks_within : (form : Form) (b : List ℕ) (at : ℕ) → FieldBreaks form b at → at ≤ length b
breaks_within CountedForm b at (inl none) = omega (arith, none.1)
breaks_within CountedForm b at (inr h) = omega (arith, ap length h.joined, length-append h.count h.rest, h.begins)
breaks_within NumberForm b at h = omega (arith, h.1)
breaks_within SessionIdForm b at h = omega (arith, h.1)
breaks_within MoreForm b at h = omega (arith, h.1)
breaks_within AddressForm b at h = omega (arith, h.1)
