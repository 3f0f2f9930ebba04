-- The address that is read is the one that is spelled, and each fault is a cut.
use Rattle.std.proofs.Common.{◌≡◌, ℕ, suc, ◌+◌, ◌-◌, ◌%◌, ◌<◌, ◌≤◌, Bool, true, false, cond, leb, List, [], ◌∷◌, ◌++◌, length, take, drop, set, replicate, Result, Ok, Err, refl, sym, ap, subst, ◌∙◌, append_assoc, inl, inr, arith}
use Rattle.std.specs.Prelude.{IfOk, IfErr}
use Rattle.std.specs.Int.{w16, to_be_bytes, from_be_bytes}
use Rattle.std.specs.Prelude.{bit_or}
use Rattle.std.proofs.lemmas.Bool.{cases_lt, lt-ltb, le-ltb, le-leb, lt-leb}
use Rattle.std.proofs.lemmas.List.{take_at, drop_at, length-append, length-take, length-drop, length-replicate, length-take-le, take-append-drop}
use Rattle.std.proofs.lemmas.Nat.{or_shifted, be_bytes_2, from_be_bytes-to_be_bytes_2}
use Rattle.std.proofs.lemmas.Slice.{take-put_mid, drop-put_mid}
use borrow.Rule.Slice.PartMut.{put_mid, same_len_mid}
use Rattle.rtmfp_forms.specs.declared.fault.FormFault.{FormFault}
use Rattle.rtmfp_forms.specs.declared.fault.FormFault.TheVariants.{Short}
use Rattle.rtmfp_forms.specs.Address.{AddressParts, host_len, IsAddress, AddressSpells, IsCutAddress, address_bytes}
use Rattle.rtmfp_forms.specs.AddressReading.{address_at}
use Rattle.rtmfp_vlu.proofs.Fields.{front}
use Rattle.rtmfp_vlu.proofs.Bytes.{IsBytes, IsBytes-drop, IsBytes-take, IsBytes-tail, take-add}

-- what is read after the flags
abbrev pub parts : ℕ → List ℕ → AddressParts
parts flags rest =
    let n = host_len (leb 128 flags) in
    record {
      v6 = leb 128 flags;
      origin = flags % 4;
      host = take n rest ++ replicate (16 - n) 0;
      port = from_be_bytes w16 (take 2 (drop n rest));
    }

pub short_address : (flags : ℕ) (rest : List ℕ) → length rest < host_len (leb 128 flags) + 2 → address_at (flags ∷ rest) ≡ Err Short
unfolding address_at
short_address flags rest lt = rw (lt-ltb (length rest) (host_len (leb 128 flags) + 2) lt) refl

pub whole_address : (flags : ℕ) (rest : List ℕ) → host_len (leb 128 flags) + 2 ≤ length rest → address_at (flags ∷ rest) ≡ Ok (parts flags rest, host_len (leb 128 flags) + 3)
unfolding address_at
whole_address flags rest le = rw (le-ltb (length rest) (host_len (leb 128 flags) + 2) le) refl

pub host_len_fits : (v6 : Bool) → host_len v6 ≤ 16
host_len_fits true = omega arith
host_len_fits false = omega arith

pub same_parts : (v w : Bool) (o p : ℕ) (h k : List ℕ) (q r : ℕ) → v ≡ w → o ≡ p → h ≡ k → q ≡ r
    → let one : AddressParts = record { v6 = v; origin = o; host = h; port = q } in one ≡ record { v6 = w; origin = p; host = k; port = r }
same_parts v w o p h k q r a b c d = rw (a, b, c, d) refl

-- an address and its n bytes of host, in a list
spelled : (flags n : ℕ) (rest : List ℕ) → IsBytes (flags ∷ rest) → n + 2 ≤ length rest
    → take (n + 3) (flags ∷ rest) ≡ flags ∷ take n (take n rest ++ replicate (16 - n) 0) ++ to_be_bytes w16 (from_be_bytes w16 (take 2 (drop n rest)))
spelled flags n rest fits le =
    let more : n + 3 ≡ suc (n + 2) = omega arith in
    let host : take n (take n rest ++ replicate (16 - n) 0) ≡ take n rest = take_at (take n rest) (replicate (16 - n) 0) n (length-take-le n rest (omega arith)) in
    let two : length (take 2 (drop n rest)) ≡ 2 = omega (arith, length-take 2 (drop n rest), length-drop n rest) in
    let port : to_be_bytes w16 (from_be_bytes w16 (take 2 (drop n rest))) ≡ take 2 (drop n rest) =
    be_bytes_2 (take 2 (drop n rest)) _ two (IsBytes-take 2 (drop n rest) (IsBytes-drop n rest (IsBytes-tail flags rest fits))) refl in
    rw (more, host, port, take-add n 2 rest) refl

parts-is_address : (flags : ℕ) (rest : List ℕ) → IsBytes (flags ∷ rest) → host_len (leb 128 flags) + 2 ≤ length rest → IsAddress (parts flags rest)
parts-is_address flags rest fits le =
    let n = host_len (leb 128 flags) in
    let few : n ≤ 16 = host_len_fits (leb 128 flags) in
    let front : length (take n rest) ≡ n = length-take-le n rest (omega arith) in
    let bytes = IsBytes-take 2 (drop n rest) (IsBytes-drop n rest (IsBytes-tail flags rest fits)) in
    record {
      origin = omega arith;
      host = omega (arith, length-append (take n rest) (replicate (16 - n) 0), front, length-replicate {A = ℕ} (16 - n) 0);
      filled = drop_at (take n rest) (replicate (16 - n) 0) n front;
      port = omega (arith, bytes 0, bytes 1);
    }

-- what is read stands there
pub address_takes : (b : List ℕ) (r : Result (AddressParts × ℕ) FormFault) → IsBytes b → r ≡ address_at b
    → IfOk r (λ found. (found.1 ≤ length b) × AddressSpells found.0 (take found.1 b))
unfolding address_at
address_takes [] r fits e = rw e tt
address_takes (flags ∷ rest) r fits e =
    let n = host_len (leb 128 flags) in
    elim (cases_lt (length rest) (n + 2)) [
      | inl lt ↦ rw (e, short_address flags rest lt) tt
      | inr le ↦ rw (e, whole_address flags rest le) (
        omega arith,
        record {
          flags = flags;
          flags_fit = fits 0;
          family = refl;
          origin = refl;
          is_address = parts-is_address flags rest fits le;
          whole = spelled flags n rest fits le;
        },
      )
    ]

-- what stands there is read, whatever follows it
pub address_again : (a : AddressParts) (s rest : List ℕ) → AddressSpells a s → address_at (s ++ rest) ≡ Ok (a, length s)
address_again a s rest h =
    let n = host_len (leb 128 h.flags) in
    let same : host_len a.v6 ≡ n = ap host_len h.family in
    let few : n ≤ 16 = host_len_fits (leb 128 h.flags) in
    let host = take n a.host in
    let port = to_be_bytes w16 a.port in
    let tail = host ++ (port ++ rest) in
    let front : length host ≡ n = length-take-le n a.host (omega (arith, h.is_address.host)) in
    let whole : s ≡ h.flags ∷ host ++ port = h.whole ∙ ap (λ (k : ℕ). h.flags ∷ take k a.host ++ port) same in
    let bytes : s ++ rest ≡ h.flags ∷ tail = rw whole (ap (λ (t : List ℕ). h.flags ∷ t) (append_assoc host port rest)) in
    let long : n + 2 ≤ length tail = omega (arith, front, length-append host (port ++ rest)) in
    let filled : replicate (16 - n) 0 ≡ drop n a.host = sym (subst (λ (k : ℕ). drop k a.host ≡ replicate (16 - k) 0) same h.is_address.filled) in
    let all_host : take n tail ++ replicate (16 - n) 0 ≡ a.host = rw (take_at host (port ++ rest) n front, filled) (take-append-drop n a.host) in
    let all_port : from_be_bytes w16 (take 2 (drop n tail)) ≡ a.port = rw (drop_at host (port ++ rest) n front) (from_be_bytes-to_be_bytes_2 a.port h.is_address.port) in
    let address : parts h.flags tail ≡ a = same_parts _ _ _ _ _ _ _ _ (sym h.family) (sym h.origin) all_host all_port in
    let len : n + 3 ≡ length s = omega (arith, ap length whole, front, length-append host port) in
    rw (bytes, whole_address h.flags tail long, address, len) refl

pub ok_or_err : {A : Type 0} (x : A) (fault : FormFault) → let read : Result A FormFault = Ok x in read ≡ Err fault → ⊥
ok_or_err x fault e = absurd cc

pub address_complete : (b : List ℕ) (a : AddressParts) (n : ℕ) → n ≤ length b → AddressSpells a (take n b) → address_at b ≡ Ok (a, n)
address_complete b a n le h =
    let again = address_again a (take n b) (drop n b) h in
    let len : length (take n b) ≡ n = length-take-le n b le in
    rw (take-append-drop n b, len) at again

pub address_short : (b : List ℕ) → (address_at b ≡ Err Short → IsCutAddress b) × (IsCutAddress b → address_at b ≡ Err Short)
unfolding address_at
address_short [] = (λ e. tt, λ cut. refl)
address_short (flags ∷ rest) =
    elim (cases_lt (length rest) (host_len (leb 128 flags) + 2)) [
      | inl lt ↦ (λ e. lt, λ cut. short_address flags rest lt)
      | inr le ↦ (λ e. absurd (ok_or_err (parts flags rest, host_len (leb 128 flags) + 3) Short (sym (whole_address flags rest le) ∙ e)), λ cut. absurd (omega (arith, cut)))
    ]

pub address_only_short : (b : List ℕ) → IfErr (address_at b) (λ fault. fault ≡ Short)
unfolding address_at
address_only_short [] = refl
address_only_short (flags ∷ rest) =
    elim (cases_lt (length rest) (host_len (leb 128 flags) + 2)) [
      | inl lt ↦ rw (lt-ltb (length rest) (host_len (leb 128 flags) + 2) lt) refl
      | inr le ↦ rw (le-ltb (length rest) (host_len (leb 128 flags) + 2) le) tt
    ]

-- ---- writing

written_parts : (b : ℕ) (out host port : List ℕ) (h f : ℕ) → length (b ∷ out) ≡ 19 → h ≤ 16 → length host ≡ h → length port ≡ 2
    → put_mid (h + 1) (h + 3 - (h + 1)) (put_mid 1 (h + 1 - 1) (set (b ∷ out) 0 f) host) port ≡ (f ∷ host ++ port) ++ drop (h + 3) (b ∷ out)
written_parts b out host port h f len few host_is port_is =
    let first = f ∷ out in
    let second = put_mid 1 (h + 1 - 1) first host in
    let third = put_mid (h + 1) (h + 3 - (h + 1)) second port in
    let long : length first ≡ 19 = len in
    let second_is : length second ≡ 19 = same_len_mid 1 (h + 1 - 1) first host (omega (arith, host_is, length-take (h + 1 - 1) out, len)) ∙ long in
    let front : take (h + 1) second ≡ f ∷ host = take-put_mid 1 (h + 1 - 1) first host (h + 1) (omega arith) (omega arith) in
    let more : take (h + 3) third ≡ f ∷ host ++ port = take-put_mid (h + 1) (h + 3 - (h + 1)) second port (h + 3) (omega arith) (omega arith) ∙ ap (λ (t : List ℕ). t ++ port) front in
    let rest : drop (h + 3) third ≡ drop (h + 3) first =
    drop-put_mid (h + 1) (h + 3 - (h + 1)) second port (h + 3) (omega arith) (omega arith) (omega arith) ∙ drop-put_mid 1 (h + 1 - 1) first host (h + 3) (omega arith) (omega arith) (omega arith) in
    let same : drop (h + 3) first ≡ drop (h + 3) (b ∷ out) = let three : h + 3 ≡ suc (h + 2) = omega arith in rw three refl in
    sym (take-append-drop (h + 3) third) ∙ rw (more, rest, same) refl

flags_byte : (v6 : Bool) (origin : ℕ) → origin ≤ 3 → bit_or (cond v6 128 0) origin ≡ cond v6 128 0 + origin
flags_byte true origin few = or_shifted 1 7 origin (omega arith)
flags_byte false origin few = or_shifted 0 7 origin (omega arith)

flags_fit : (v6 : Bool) (origin : ℕ) → origin ≤ 3 → cond v6 128 0 + origin < 256
flags_fit true origin few = omega arith
flags_fit false origin few = omega arith

flags_family : (v6 : Bool) (origin : ℕ) → origin ≤ 3 → v6 ≡ leb 128 (cond v6 128 0 + origin)
flags_family true origin few = sym (le-leb 128 (128 + origin) (omega arith))
flags_family false origin few = sym (lt-leb 128 (0 + origin) (omega arith))

flags_origin : (v6 : Bool) (origin : ℕ) → origin ≤ 3 → origin ≡ (cond v6 128 0 + origin) % 4
flags_origin true origin few = omega arith
flags_origin false origin few = omega arith

-- what is written spells the address
pub address_bytes-spell : (a : AddressParts) → IsAddress a → AddressSpells a (address_bytes a)
address_bytes-spell a h = record {
  flags = cond a.v6 128 0 + a.origin;
  flags_fit = flags_fit a.v6 a.origin h.origin;
  family = flags_family a.v6 a.origin h.origin;
  origin = flags_origin a.v6 a.origin h.origin;
  is_address = h;
  whole = refl;
}

pub length-address_bytes : (a : AddressParts) → IsAddress a → length (address_bytes a) ≡ host_len a.v6 + 3
length-address_bytes a h =
    let n = host_len a.v6 in
    let front : length (take n a.host) ≡ n = length-take-le n a.host (omega (arith, host_len_fits a.v6, h.host)) in
    omega (arith, front, length-append (take n a.host) (to_be_bytes w16 a.port))

pub address_written : (a : AddressParts) (out host port : List ℕ) (h family : ℕ) → IsAddress a → length out ≡ 19
    → h ≡ host_len a.v6 → family ≡ cond a.v6 128 0 → host ≡ take h a.host → port ≡ to_be_bytes w16 a.port
    → put_mid (h + 1) (h + 3 - (h + 1)) (put_mid 1 (h + 1 - 1) (set out 0 (bit_or family a.origin)) host) port ≡ address_bytes a ++ drop (h + 3) out
address_written a [] host port h family is len e f g p = absurd (omega (arith, len))
address_written a (b ∷ out) host port h family is len e f g p =
    let few : h ≤ 16 = omega (arith, e, host_len_fits a.v6) in
    let flags : bit_or family a.origin ≡ cond a.v6 128 0 + a.origin = rw f (flags_byte a.v6 a.origin is.origin) in
    let host_is : length host ≡ h = ap length g ∙ length-take-le h a.host (omega (arith, is.host)) in
    let port_is : length port ≡ 2 = ap length p in
    let bytes : (cond a.v6 128 0 + a.origin) ∷ host ++ port ≡ address_bytes a = rw (g, p, e) refl in
    rw (flags) (written_parts b out host port h (cond a.v6 128 0 + a.origin) len few host_is port_is) ∙ ap (λ (t : List ℕ). t ++ drop (h + 3) (b ∷ out)) bytes

pub spelled_in_front : (a : AddressParts) (n : ℕ) (x rest : List ℕ) → IsAddress a → x ≡ address_bytes a ++ rest → n ≡ length (address_bytes a) → AddressSpells a (take n x)
spelled_in_front a n x rest is e len = rw (len, front x (address_bytes a) rest e) (address_bytes-spell a is)
