-- Addresses up to the end: the list that is read is the one that is spelled, and each fault is where it breaks.
use Rattle.std.proofs.Common.{◌≡◌, ℕ, zero, suc, ◌+◌, ◌-◌, ◌<◌, ◌≤◌, leb, List, [], ◌∷◌, ◌++◌, length, take, drop, Result, Ok, Err, refl, sym, ap, subst, ◌∙◌, append_assoc, append-nil, inl, inr, arith}
use Rattle.std.proofs.lemmas.List.{length-append, length-drop, take_all}
use Rattle.rtmfp_vlu.proofs.Bytes.{IsBytes, IsBytes-drop}
use Rattle.rtmfp_vlu.proofs.Fields.{behind}
use Rattle.rtmfp_forms.specs.Address.{AddressParts, AddressSpells, IsCutAddress}
use Rattle.rtmfp_forms.specs.declared.fault.FormFault.{FormFault}
use Rattle.rtmfp_forms.specs.declared.fault.FormFault.TheVariants.{Short}
use Rattle.rtmfp_forms.specs.Address.{host_len}
use Rattle.rtmfp_forms.specs.AddressReading.{address_at}
use Rattle.rtmfp_forms.proofs.Addresses.{parts, short_address, whole_address}
use Rattle.std.proofs.lemmas.Bool.{cases_lt}
use Rattle.rtmfp_forms.specs.OptionReading.{◌>>=◌}
use Rattle.rtmfp_chunks.specs.Fields.{AddressesSpell, AreAddresses, AddressesBreak, AddressForm, OneAddress}
use Rattle.rtmfp_chunks.specs.FieldReading.{split_address, address_then, addresses_within, addresses_at, list_at, found_or_none, first_addresses, addresses_in}
use Rattle.rtmfp_chunks.proofs.FieldLaws.{Is, address_is, address_then-again, address_then-cut}

-- an address has at least a byte
address-some : (a : AddressParts) (s : List ℕ) → AddressSpells a s → 0 < length s
address-some a s h = omega (arith, ap length h.whole)

-- one more address
pub addresses-push : (addresses : List AddressParts) (b : List ℕ) (a : AddressParts) (s : List ℕ) → AddressesSpell addresses b → AddressSpells a s → AddressesSpell (addresses ++ a ∷ []) (b ++ s)
addresses-push [] b a s h one = (s, [], ap (λ (xs : List ℕ). xs ++ s) h ∙ sym (append-nil s), one, refl)
addresses-push (x ∷ addresses) b a s (front, rest, e, first, others) one =
    (front, rest ++ s, ap (λ (xs : List ℕ). xs ++ s) e ∙ append_assoc front rest s, first, addresses-push addresses rest a s others one)

-- ---- what is spelled is read, and what breaks isn't

again_within : (addresses : List AddressParts) (b : List ℕ) (steps : ℕ) → AddressesSpell addresses b → length b < steps → addresses_within steps b ≡ Ok addresses
unfolding addresses_within
again_within addresses b zero h lt = absurd (omega (arith, lt))
again_within [] [] (suc steps) h lt = refl
again_within [] (x ∷ xs) (suc steps) h lt = absurd (cc)
again_within (a ∷ addresses) [] (suc steps) (front, rest, e, first, others) lt = absurd (omega (arith, ap length e, length-append front rest, address-some a front first))
again_within (a ∷ addresses) (x ∷ xs) (suc steps) (front, rest, e, first, others) lt =
    let read : address_then (x ∷ xs) ≡ Ok (a, rest) = ap address_then e ∙ address_then-again a front rest first in
    let fewer : length rest < steps = omega (arith, lt, ap length e, length-append front rest, address-some a front first) in
    rw (read, again_within addresses rest steps others fewer) refl

broken_within : (addresses : List AddressParts) (front rest : List ℕ) (steps : ℕ) → AddressesSpell addresses front → 0 < length rest → IsCutAddress rest → length front < steps
    → addresses_within steps (front ++ rest) ≡ Err (length rest)
unfolding addresses_within
broken_within addresses front rest zero h some cut lt = absurd (omega (arith, lt))
broken_within [] front [] (suc steps) h some cut lt = absurd (omega (arith, some))
broken_within [] front (x ∷ xs) (suc steps) h some cut lt = rw (h, address_then-cut (x ∷ xs) cut) refl
broken_within (a ∷ addresses) [] rest (suc steps) (s, others, e, first, h) some cut lt = absurd (omega (arith, ap length e, length-append s others, address-some a s first))
broken_within (a ∷ addresses) (x ∷ xs) rest (suc steps) (s, others, e, first, h) some cut lt =
    let whole : (x ∷ xs) ++ rest ≡ s ++ (others ++ rest) = ap (λ (l : List ℕ). l ++ rest) e ∙ append_assoc s others rest in
    let read : address_then ((x ∷ xs) ++ rest) ≡ Ok (a, others ++ rest) = ap address_then whole ∙ address_then-again a s (others ++ rest) first in
    let fewer : length others < steps = omega (arith, lt, ap length e, length-append s others, address-some a s first) in
    rw (read, broken_within addresses others rest steps h some cut fewer) refl

pub addresses_again : (addresses : List AddressParts) (b : List ℕ) → AddressesSpell addresses b → addresses_at b ≡ Ok addresses
unfolding addresses_at
addresses_again addresses b h = again_within addresses b (suc (length b)) h (omega arith)

pub list_again : (b : List ℕ) → AreAddresses b → list_at b ≡ Ok b
unfolding list_at
list_again b h = rw (addresses_again h.0 b h.1) refl

pub list_broken : (b : List ℕ) (at : ℕ) → AddressesBreak b at → list_at b ≡ Err (length b - at)
unfolding list_at addresses_at
list_broken b at h =
    let enough : length h.front < suc (length b) = omega (arith, ap length h.joined, length-append h.front h.rest) in
    let read : addresses_within (suc (length b)) b ≡ Err (length h.rest) = ap (addresses_within (suc (length b))) h.joined ∙ broken_within h.addresses h.front h.rest (suc (length b)) h.whole h.some h.cut enough in
    let left : length h.rest ≡ length b - at = omega (arith, ap length h.joined, length-append h.front h.rest, h.begins) in
    rw read (ap (λ (n : ℕ). Err n) left)

-- ---- the walk over the list

-- whole addresses up to the rest
abbrev pub Walked : List ℕ → List ℕ → Type 0
Walked bytes rest = (addresses : List AddressParts) × (front : List ℕ) × (bytes ≡ front ++ rest) × AddressesSpell addresses front

walked_bytes : (bytes rest : List ℕ) → IsBytes bytes → Walked bytes rest → IsBytes rest
walked_bytes bytes rest fits w = subst IsBytes (behind bytes w.1 rest w.2) (IsBytes-drop (length w.1) bytes fits)

pub walked_on : (bytes rest : List ℕ) (a : AddressParts) (after : List ℕ) → IsBytes bytes → Walked bytes rest → address_then rest ≡ Ok (a, after) → Walked bytes after × (length after < length rest)
walked_on bytes rest a after fits w e =
    let one : Is AddressForm OneAddress rest (Ok (a, after)) = rw e at (address_is rest (walked_bytes bytes rest fits w)) in (
      (w.0 ++ a ∷ [], w.1 ++ one.0, w.2 ∙ ap (λ (xs : List ℕ). w.1 ++ xs) one.1 ∙ sym (append_assoc w.1 one.0 after), addresses-push w.0 w.1 a one.0 w.3 one.2),
      omega (arith, address-some a one.0 one.2, ap length one.1, length-append one.0 after),
    )

pub walked_end : (bytes rest : List ℕ) → Walked bytes rest → length rest ≡ 0 → list_at bytes ≡ Ok bytes
walked_end bytes [] w e = list_again bytes (w.0, subst (AddressesSpell w.0) (sym (w.2 ∙ append-nil w.1)) w.3)
walked_end bytes (x ∷ xs) w e = absurd (omega (arith, e))

pub walked_fault : (bytes rest : List ℕ) (left : ℕ) → IsBytes bytes → Walked bytes rest → 0 < length rest → address_then rest ≡ Err left → list_at bytes ≡ Err left
walked_fault bytes rest left fits w some e =
    let one : Is AddressForm OneAddress rest (Err left) = rw e at (address_is rest (walked_bytes bytes rest fits w)) in
    let broken : AddressesBreak bytes (length bytes - left) = record {
      addresses = w.0;
      front = w.1;
      rest = rest;
      joined = w.2;
      whole = w.3;
      some = some;
      cut = one.1.0;
      begins = omega (arith, ap length w.2, length-append w.1 rest, one.0, one.1.1);
    } in
    let same : length bytes - (length bytes - left) ≡ left = omega (arith, ap length w.2, length-append w.1 rest, one.0) in
    list_broken bytes (length bytes - left) broken ∙ ap (λ (n : ℕ). Err n) same

-- ---- what is read is spelled

abbrev pub ListIs : List ℕ → Result (List AddressParts) ℕ → Type 0
ListIs b (Ok addresses) = AddressesSpell addresses b
ListIs b (Err left) = (left ≤ length b) × AddressesBreak b (length b - left)

list_more : (b front rest : List ℕ) (a : AddressParts) (r : Result (List AddressParts) ℕ) → b ≡ front ++ rest → AddressSpells a front → ListIs rest r → ListIs b (r >>= λ others. Ok (a ∷ others))
list_more b front rest a (Ok others) e first h = (front, rest, e, first, h)
list_more b front rest a (Err left) e first h =
    let broken = h.1 in (
      omega (arith, ap length e, length-append front rest, h.0),
      record {
        addresses = a ∷ broken.addresses;
        front = front ++ broken.front;
        rest = broken.rest;
        joined = e ∙ ap (λ (xs : List ℕ). front ++ xs) broken.joined ∙ sym (append_assoc front broken.front broken.rest);
        whole = (front, broken.front, refl, first, broken.whole);
        some = broken.some;
        cut = broken.cut;
        begins = omega (arith, ap length e, length-append front rest, h.0, broken.begins, length-append front broken.front);
      },
    )

list_first : (steps x : ℕ) (xs : List ℕ) (r : Result (AddressParts × List ℕ) ℕ) → Is AddressForm OneAddress (x ∷ xs) r → ((rest : List ℕ) → IsBytes rest → length rest < steps → ListIs rest (addresses_within steps rest)) → IsBytes (x ∷ xs)
    → length (x ∷ xs) < suc steps → ListIs (x ∷ xs) (r >>= λ first. (addresses_within steps first.1 >>= λ others. Ok (first.0 ∷ others)))
list_first steps x xs (Ok first) h later fits lt =
    let bytes : IsBytes first.1 = subst IsBytes (behind (x ∷ xs) h.0 first.1 h.1) (IsBytes-drop (length h.0) (x ∷ xs) fits) in
    let fewer : length first.1 < steps = omega (arith, lt, ap length h.1, length-append h.0 first.1, address-some first.0 h.0 h.2) in
    list_more (x ∷ xs) h.0 first.1 first.0 (addresses_within steps first.1) h.1 h.2 (later first.1 bytes fewer)
list_first steps x xs (Err left) h later fits lt =
    (h.0, record { addresses = []; front = []; rest = x ∷ xs; joined = refl; whole = refl; some = omega arith; cut = h.1.0; begins = h.1.1 })

list_within : (steps : ℕ) (b : List ℕ) → IsBytes b → length b < steps → ListIs b (addresses_within steps b)
unfolding addresses_within
list_within zero b fits lt = absurd (omega (arith, lt))
list_within (suc steps) [] fits lt = refl
list_within (suc steps) (x ∷ xs) fits lt = list_first steps x xs (address_then (x ∷ xs)) (address_is (x ∷ xs) fits) (λ rest bytes fewer. list_within steps rest bytes fewer) fits lt

pub list_is : (b : List ℕ) → IsBytes b → ListIs b (addresses_at b)
unfolding addresses_at
list_is b fits = list_within (suc (length b)) b fits (omega arith)

pub addresses_within_length : (b : List ℕ) (at : ℕ) → AddressesBreak b at → at ≤ length b
addresses_within_length b at h = omega (arith, ap length h.joined, length-append h.front h.rest, h.begins)

-- ---- one after another

ok_same : {A : Type 0} (x y : A) → let read : Result A ℕ = Ok x in read ≡ Ok y → x ≡ y
ok_same x y e = cc

address-shorter : (b : List ℕ) (a : AddressParts) (after : List ℕ) → address_then b ≡ Ok (a, after) → length after < length b
unfolding address_then address_at
address-shorter [] a after e = absurd (cc)
address-shorter (flags ∷ rest) a after e =
    let n = host_len (leb 128 flags) in
    elim (cases_lt (length rest) (n + 2)) [
      | inl lt ↦ (let cut : split_address (flags ∷ rest) (Err Short) ≡ Ok (a, after) = sym (ap (split_address (flags ∷ rest)) (short_address flags rest lt)) ∙ e in absurd (cc))
      | inr le ↦ (
          let whole : split_address (flags ∷ rest) (Ok (parts flags rest, n + 3)) ≡ Ok (a, after) = sym (ap (split_address (flags ∷ rest)) (whole_address flags rest le)) ∙ e in
          let same = ok_same (parts flags rest, drop (n + 3) (flags ∷ rest)) (a, after) whole in
          omega (arith, ap (λ (x : AddressParts × List ℕ). length x.1) same, length-drop (n + 3) (flags ∷ rest)))
    ]

same_first : (m n : ℕ) (b : List ℕ) (r : Result (AddressParts × List ℕ) ℕ) → address_then b ≡ r → ((rest : List ℕ) → length rest ≤ m → length rest ≤ n → first_addresses m rest ≡ first_addresses n rest)
    → length b ≤ suc m → length b ≤ suc n
    → found_or_none (r >>= λ first. Ok (first.0 ∷ first_addresses m first.1)) ≡ found_or_none (r >>= λ first. Ok (first.0 ∷ first_addresses n first.1))
same_first m n b (Ok first) e later few less =
    let shorter = address-shorter b first.0 first.1 e in
    ap (λ (xs : List AddressParts). first.0 ∷ xs) (later first.1 (omega (arith, few, shorter)) (omega (arith, less, shorter)))
same_first m n b (Err left) e later few less = refl

none_first : (n : ℕ) (b : List ℕ) → length b ≤ 0 → first_addresses n b ≡ []
unfolding first_addresses
none_first zero b few = refl
none_first (suc n) [] few = rw (address_then-cut [] tt) refl
none_first (suc n) (x ∷ xs) few = absurd (omega (arith, few))

-- so many steps as there are bytes suffice
enough_first : (m n : ℕ) (b : List ℕ) → length b ≤ m → length b ≤ n → first_addresses m b ≡ first_addresses n b
unfolding first_addresses
enough_first zero n b few less = sym (none_first n b few)
enough_first (suc m) zero b few less = none_first (suc m) b less
enough_first (suc m) (suc n) b few less = same_first m n b (address_then b) refl (λ rest f l. enough_first m n rest f l) few less

first_whole : (n : ℕ) (b : List ℕ) (a : AddressParts) (after : List ℕ) → address_then b ≡ Ok (a, after) → first_addresses (suc n) b ≡ a ∷ first_addresses n after
unfolding first_addresses
first_whole n b a after e = rw e refl

next_address : (b : List ℕ) (a : AddressParts) (after : List ℕ) → address_then b ≡ Ok (a, after) → addresses_in b ≡ a ∷ addresses_in after
unfolding addresses_in
next_address b a after e =
    let shorter = address-shorter b a after e in
    enough_first (length b) (suc (length b)) b (omega arith) (omega arith) ∙ first_whole (length b) b a after e
    ∙ ap (λ (xs : List AddressParts). a ∷ xs) (enough_first (length b) (length after) after (omega (arith, shorter)) (omega arith))

none_within : (n : ℕ) (b : List ℕ) (left : ℕ) → address_then b ≡ Err left → first_addresses n b ≡ []
unfolding first_addresses
none_within zero b left e = refl
none_within (suc n) b left e = rw e refl

no_address : (b : List ℕ) (left : ℕ) → address_then b ≡ Err left → addresses_in b ≡ []
unfolding addresses_in
no_address b left e = none_within (length b) b left e

all_within : (addresses : List AddressParts) (b : List ℕ) (n : ℕ) → AddressesSpell addresses b → length b ≤ n → first_addresses n b ≡ addresses
unfolding first_addresses
all_within [] b n h le = none_first n b (omega (arith, ap length h))
all_within (a ∷ addresses) b zero (front, rest, e, first, others) le = absurd (omega (arith, le, ap length e, length-append front rest, address-some a front first))
all_within (a ∷ addresses) b (suc n) (front, rest, e, first, others) le =
    let read : address_then b ≡ Ok (a, rest) = ap address_then e ∙ address_then-again a front rest first in
    let fewer : length rest ≤ n = omega (arith, le, ap length e, length-append front rest, address-some a front first) in
    rw (read, all_within addresses rest n others fewer) refl

pub addresses_in-whole : (addresses : List AddressParts) (b : List ℕ) → AddressesSpell addresses b → addresses_in b ≡ addresses
unfolding addresses_in
addresses_in-whole addresses b h = all_within addresses b (length b) h (omega arith)

-- what the reader of one address found
pub address_read : (b : List ℕ) (found : AddressParts × ℕ) → address_at b ≡ Ok found → addresses_in b ≡ found.0 ∷ addresses_in (take (length b - found.1) (drop found.1 b))
unfolding address_then
address_read b found e =
    let all : take (length b - found.1) (drop found.1 b) ≡ drop found.1 b = take_all (length b - found.1) (drop found.1 b) (omega (arith, length-drop found.1 b)) in
    rw all (next_address b found.0 (drop found.1 b) (ap (split_address b) e))

pub address_unread : (b : List ℕ) (fault : FormFault) → address_at b ≡ Err fault → addresses_in b ≡ []
unfolding address_then
address_unread b fault e = no_address b (length b) (ap (split_address b) e)
