-- Numbers that are read are of 64 bits.
use Prim.Native.Nat.{suc}
use Rattle.std.proofs.Common.{◌≡◌, ℕ, ◌+◌, ◌-◌, ◌^◌, ◌<◌, ◌≤◌, ◌==◌, Bool, true, false, cond, not}
use Rattle.std.proofs.Common.{nat_lt, List, [], ◌∷◌, Option, Some, None, Result, Ok, Err}
use Rattle.std.proofs.Common.{length, get_or, take, refl, ap, subst, arith}
use Rattle.std.proofs.lemmas.Bool.{ltb-true, ltb-false, eq-eqb}
use Rattle.rtmfp_vlu.specs.declared.reading.VluFault.{VluFault}
use Rattle.rtmfp_vlu.specs.declared.reading.VluFault.TheVariants.{Large}
use Rattle.rtmfp_vlu.specs.Vlu.{value}
use Rattle.rtmfp_vlu.specs.Reading.{end_within, fitting, number_at}
use Rattle.rtmfp_forms.specs.OptionReading.{◌>>=◌}
use Rattle.rtmfp_data_chunks.specs.declared.user_data.Numbers.{Numbers}
use Rattle.rtmfp_data_chunks.specs.declared.view.DataFault.{DataFault}
use Rattle.rtmfp_data_chunks.specs.declared.view.DataFault.TheVariants.{Malformed, BadOffset}
use Rattle.rtmfp_data_chunks.specs.Chunk.{UserParts, DataChunk, Data, Next, AckBitmap}
use Rattle.rtmfp_data_chunks.specs.Fields.{flag}
use Rattle.rtmfp_data_chunks.specs.Reader.{read_at, number_then, numbers_then, options_at}
use Rattle.rtmfp_data_chunks.specs.Reader.{user_then, is_bad_offset, data_then, next_body}
use Rattle.rtmfp_data_chunks.specs.Reader.{next_then, bits_checked, bitmap_then, pairs_then}
use Rattle.rtmfp_data_chunks.specs.Reader.{ack_ranges_then, probe_then, exception_then}
use Rattle.rtmfp_data_chunks.specs.Reader.{data_reading}
use Rattle.rtmfp_data_chunks.specs.Spelling.{IsBehind, before_next}
use Rattle.rtmfp_data_chunks.specs.Fitting.{IsReadable, FitsIn, AreSmall}

-- ---- one number after another

ok_is : {A E : Type 0} {x y : A} → ◌≡◌ {A = Result A E} (Ok x) (Ok y) → x ≡ y
ok_is e = cc

-- what a reading goes on from
bound : {A B E : Type 0} (x : Result A E) (f : A → Result B E) (y : B) → (x >>= f) ≡ Ok y →
    (a : A) × (x ≡ Ok a) × (f a ≡ Ok y)
bound (Ok a) f y e = (a, refl, e)
bound (Err fault) f y e = absurd cc

small_if : (at n v : ℕ) (b : List ℕ) (found : ℕ × List ℕ) (t : Bool) → nat_lt v (2 ^ 64) ≡ t →
    read_at at b (cond t (Ok (v, n)) (Err Large)) ≡ Ok found → found.0 < 2 ^ 64
small_if at n v b found true e h = let same : v ≡ found.0 =
    ap (λ (p : ℕ × List ℕ). p.0) (ok_is h) in let low : v < 2 ^ 64 =
    ltb-true v (2 ^ 64) e in omega arith
small_if at n v b found false e h = absurd cc

small_by : (at : ℕ) (b : List ℕ) (found : ℕ × List ℕ) (r : Result ℕ VluFault) →
    read_at at b (fitting b r) ≡ Ok found → found.0 < 2 ^ 64
small_by at b found (Ok n) h =
    small_if at n (value (take n b)) b found (nat_lt (value (take n b)) (2 ^ 64)) refl h
small_by at b found (Err fault) h = absurd cc

small : (size : ℕ) (b : List ℕ) (found : ℕ × List ℕ) → number_then size b ≡ Ok found →
    found.0 < 2 ^ 64
unfolding number_then number_at
small size b found h = small_by (size - length b) b found (end_within 10 b) h

one_small : (size : ℕ) (b : List ℕ) (found : List ℕ × List ℕ) → numbers_then 1 size b ≡ Ok found →
    get_or found.0 0 0 < 2 ^ 64
unfolding numbers_then
one_small size b found h =
    let first = bound (number_then size b) _ found h in
    let is : first.0.0 ∷ [] ≡ found.0 =
    ap (λ (p : List ℕ × List ℕ). p.0)
    (ok_is {x = (first.0.0 ∷ [], first.0.1)} {y = found} first.2) in
    subst (λ (l : List ℕ). get_or l 0 0 < 2 ^ 64) is (small size b first.0 first.1)

two_small : (size : ℕ) (b : List ℕ) (found : List ℕ × List ℕ) → numbers_then 2 size b ≡ Ok found →
    (get_or found.0 0 0 < 2 ^ 64) × (get_or found.0 1 0 < 2 ^ 64)
unfolding numbers_then
two_small size b found h =
    let first = bound (number_then size b) _ found h in
    let others = bound (numbers_then 1 size first.0.1) _ found first.2 in
    let is : first.0.0 ∷ others.0.0 ≡ found.0 =
    ap (λ (p : List ℕ × List ℕ). p.0)
    (ok_is {x = (first.0.0 ∷ others.0.0, others.0.1)} {y = found} others.2) in
    subst (λ (l : List ℕ). (get_or l 0 0 < 2 ^ 64) × (get_or l 1 0 < 2 ^ 64)) is
    (small size b first.0 first.1, one_small size first.0.1 others.0 others.1)

-- ---- user data

-- what follows the numbers
record HasNumbers (flags : ℕ) (numbers : Numbers) (user : UserParts) : Type 0 where
  flow : numbers.flow ≡ user.flow
  seq : numbers.seq ≡ user.seq
  forward : numbers.forward ≡ user.forward
  abandon : flag flags 1 ≡ user.abandon

has_numbers : (flags : ℕ) (numbers : Numbers) (size : ℕ) (b : List ℕ) (user : UserParts) →
    user_then flags numbers size b ≡ Ok user → HasNumbers flags numbers user
unfolding user_then
has_numbers flags numbers size b user h =
    let found = bound (options_at (flag flags 7) size b) _ user h in
    let is = ok_is found.2 in
    record {
      flow = ap (λ (u : UserParts). u.flow) is;
      seq = ap (λ (u : UserParts). u.seq) is;
      forward = ap (λ (u : UserParts). u.forward) is;
      abandon = ap (λ (u : UserParts). u.abandon) is;
    }

-- an offset that isn't a bad one
behind_by : (flags seq behind : ℕ) (long none : Bool) → nat_lt seq behind ≡ long →
    (behind == 0) ≡ none → cond long true (cond none (not (flag flags 1)) false) ≡ false →
    IsBehind (seq - behind) seq (flag flags 1)
behind_by flags seq behind true none p q h = absurd cc
behind_by flags seq behind false true p q h = (omega arith, λ same. set (flag flags 1) h)
  where
    set : (b : Bool) → not b ≡ false → b ≡ true
    set true e = refl
    set false e = absurd cc
behind_by flags seq behind false false p q h =
    let le : behind ≤ seq = ltb-false seq behind p in
    (omega arith, λ same. absurd (zero_not (behind == 0) q (eq-eqb behind 0 (omega (arith, le)))))
  where
    zero_not : (b : Bool) → b ≡ false → b ≡ true → ⊥
    zero_not true e f = absurd cc
    zero_not false e f = absurd cc

readable : (flags flow seq forward : ℕ) (user : UserParts) → flow < 2 ^ 64 → seq < 2 ^ 64 →
    IsBehind forward seq (flag flags 1) →
    HasNumbers flags (record { flow = flow; seq = seq; forward = forward }) user → IsReadable user
readable flags flow seq forward user a b c h = record {
  flow = subst (λ (n : ℕ). n < 2 ^ 64) h.flow a;
  seq = subst (λ (n : ℕ). n < 2 ^ 64) h.seq b;
  behind = subst (λ (n : ℕ). IsBehind n user.seq user.abandon) h.forward
      (subst (λ (n : ℕ). IsBehind forward n user.abandon) h.seq
      (subst (λ (x : Bool). IsBehind forward seq x) h.abandon c));
}

data_if : (flags size seq flow behind at : ℕ) (rest : List ℕ) (user : UserParts) (bad : Bool) →
    is_bad_offset flags seq behind ≡ bad → flow < 2 ^ 64 → seq < 2 ^ 64 →
    cond bad (Err (BadOffset at))
    (user_then flags (record { flow = flow; seq = seq; forward = seq - behind }) size rest) ≡ Ok
    user → IsReadable user
data_if flags size seq flow behind at rest user true e a b h = absurd cc
data_if flags size seq flow behind at rest user false e a b h =
    readable flags flow seq (seq - behind) user a b
    (behind_by flags seq behind (nat_lt seq behind) (behind == 0) refl refl e)
    (has_numbers flags
    (record { flow = flow; seq = seq; forward = seq - behind }) size rest user h)

data_fits : (b : List ℕ) (user : UserParts) → data_then b ≡ Ok user → IsReadable user
unfolding data_then
data_fits [] user h = absurd cc
data_fits (flags ∷ b) user h =
    let numbers = bound (numbers_then 2 (suc (length b)) b) _ user h in
    let behind = bound
    (number_then (suc (length b)) numbers.0.1) _ user numbers.2 in
    let two = two_small (suc (length b)) b numbers.0 numbers.1 in
    data_if flags (suc (length b)) (get_or numbers.0.0 1 0)
    (get_or numbers.0.0 0 0) behind.0.0 _ behind.0.1 user
    (is_bad_offset flags (get_or numbers.0.0 1 0) behind.0.0) refl two.0 two.1 behind.2

next_body_fits : (numbers before : Numbers) (b : List ℕ) (user : UserParts) →
    AreSmall (Some before) → before.seq + 1 < 2 ^ 64 →
    numbers ≡ record { flow = before.flow; seq = before.seq + 1; forward = before.forward } →
    next_body numbers b ≡ Ok user → IsReadable user
next_body_fits numbers before [] user s few e h = absurd cc
next_body_fits numbers before (flags ∷ b) user s few e h =
    let made = subst (λ (n : Numbers). HasNumbers flags n user) e
    (has_numbers flags numbers (suc (length b)) b user h) in
    readable flags before.flow (before.seq + 1) before.forward user s.0 few
    (omega (arith, s.2), λ same. absurd (omega (arith, s.2))) made

next_if : (before : Numbers) (b : List ℕ) (user : UserParts) (t : Bool) → AreSmall (Some before) →
    nat_lt (before.seq + 1) (2 ^ 64) ≡ t →
    cond t (next_body
    (record { flow = before.flow; seq = before.seq + 1; forward = before.forward }) b)
    (Err (Malformed 0)) ≡ Ok user → IsReadable user
next_if before b user true s e h =
    next_body_fits _ before b user s (ltb-true (before.seq + 1) (2 ^ 64) e) refl h
next_if before b user false s e h = absurd cc

next_fits : (last : Option Numbers) (b : List ℕ) (user : UserParts) → AreSmall last →
    next_then last b ≡ Ok user → IsReadable user
unfolding next_then
next_fits None b user s h = absurd cc
next_fits (Some before) b user s h =
    next_if before b user (nat_lt (before.seq + 1) (2 ^ 64)) s refl h

-- ---- any chunk

abbrev Fits : DataChunk → Type 0
Fits chunk = FitsIn chunk × AreSmall (before_next (Ok chunk))

-- all that a reading may give
abbrev AllFit : Result DataChunk DataFault → Type 0
AllFit r = (chunk : DataChunk) → r ≡ Ok chunk → Fits chunk

either : (t : Bool) (x y : Result DataChunk DataFault) → AllFit x → AllFit y → AllFit (cond t x y)
either true x y h k = h
either false x y h k = k

user_fits : (user : UserParts) → IsReadable user →
    AreSmall (Some (record { flow = user.flow; seq = user.seq; forward = user.forward }))
user_fits user h = (h.flow, h.seq, h.behind.0)

all_data : (b : List ℕ) → AllFit (data_then b >>= λ user. Ok (Data user))
all_data b chunk h =
    let found = bound (data_then b) (λ user. Ok (Data user)) chunk h in
    let fits = data_fits b found.0 found.1 in
    subst Fits (ok_is found.2) (fits, user_fits found.0 fits)

all_next : (last : Option Numbers) (b : List ℕ) → AreSmall last →
    AllFit (next_then last b >>= λ user. Ok (Next user))
all_next last b s chunk h =
    let found = bound (next_then last b) (λ user. Ok (Next user)) chunk h in
    let fits = next_fits last b found.0 s found.1 in
    subst Fits (ok_is found.2) (fits, user_fits found.0 fits)

checked : (at flow blocks upto : ℕ) (bits : List ℕ) (o : Option ℕ) →
    AllFit (bits_checked at (AckBitmap flow blocks upto bits) o)
checked at flow blocks upto bits None chunk h = subst Fits (ok_is h) (tt, tt)
checked at flow blocks upto bits (Some byte) chunk h = absurd cc

all_bitmap : (b : List ℕ) → AllFit (bitmap_then b)
unfolding bitmap_then
all_bitmap b chunk h = let numbers =
    bound (numbers_then 3 (length b) b) _ chunk h in checked _ _ _ _ _ _ chunk numbers.2

all_ranges : (b : List ℕ) → AllFit (ack_ranges_then b)
unfolding ack_ranges_then
all_ranges b chunk h =
    let numbers = bound (numbers_then 3 (length b) b) _ chunk h in
    let end = bound (pairs_then (length b) (get_or numbers.0.0 2 0) numbers.0.1) _ chunk numbers.2
    in
    subst Fits (ok_is end.2) (tt, tt)

all_probe : (b : List ℕ) → AllFit (probe_then b)
unfolding probe_then
all_probe b chunk h = let numbers =
    bound (numbers_then 1 (length b) b) _ chunk h in subst Fits (ok_is numbers.2) (tt, tt)

all_exception : (b : List ℕ) → AllFit (exception_then b)
unfolding exception_then
all_exception b chunk h = let numbers =
    bound (numbers_then 2 (length b) b) _ chunk h in subst Fits (ok_is numbers.2) (tt, tt)

none_fits : (fault : DataFault) → AllFit (Err fault)
none_fits fault chunk h = absurd cc

pub what_is_read_fits : (before : Option Numbers) (kind : ℕ) (b : List ℕ) (chunk : DataChunk) →
    AreSmall before → data_reading before kind b ≡ Ok chunk →
    FitsIn chunk × AreSmall (before_next (Ok chunk))
unfolding data_reading
what_is_read_fits before kind b chunk s h =
    either (kind == 0x10) _ _ (all_data b)
    (either (kind == 0x11) _ _ (all_next before b s)
    (either (kind == 0x50) _ _ (all_bitmap b)
    (either (kind == 0x51) _ _ (all_ranges b)
    (either (kind == 0x18) _ _ (all_probe b)
    (either (kind == 0x5e) _ _ (all_exception b) (none_fits _)))))) chunk h

-- so are those that the next chunk stands behind
pub small_next : (before : Option Numbers) (kind : ℕ) (b : List ℕ) → AreSmall before →
    AreSmall (before_next (data_reading before kind b))
small_next before kind b small = by (data_reading before kind b) refl
  where
    by : (r : Result DataChunk DataFault) → data_reading before kind b ≡ r →
        AreSmall (before_next r)
    by (Ok chunk) is = (what_is_read_fits before kind b chunk small is).1
    by (Err fault) is = tt
