-- Rows that wait to be sent, by marks of their blocks.
use Rattle.std.proofs.Common.{◌≡◌, ◌≢◌, ℕ, zero, suc, ◌+◌, ◌-◌, ◌*◌, ◌/◌, ◌%◌, ◌^◌, ◌<◌, ◌≤◌, min, cond, Bool, true, false, ◌&&◌, nat_lt, List, [], ◌∷◌, ◌++◌, Some, Option, length, length-set, get_or, set, drop, refl, ap, sym, ◌∙◌, arith, inl, inr, bit_and, bit_or}
use Rattle.std.specs.Int.{w64, bit_at, bit_not, trailing_zeros}
use Rattle.std.proofs.lemmas.Bool.{cases_eq, cases_lt}
use Rattle.std.proofs.lemmas.List.{get_or-set_same, get_or-set_other}
use Rattle.std.proofs.lemmas.Nat.{shr-shr, shr_le}
use Rattle.std.proofs.lemmas.Nat.Bits.{bit_at_set_same, bit_at_set_other, bit_at_clear_other, bit_at-trailing_zeros, bit_at-zero}
use Rattle.flow_send.specs.declared.finder.Finder.{Finder}
use Rattle.flow_send.specs.declared.finder.Pending.{Pending}
use Rattle.flow_send.specs.declared.state.State.{State}
use Rattle.flow_send.specs.declared.state.State.TheVariants.{Unsent, Flying, Lost, Acknowledged, Abandoned}
use Rattle.flow_send.specs.Rows.{Row, row_at, end_row, first_index, let_go, is_unsent, is_lost, is_flying, is_acknowledged}
use Rattle.flow_send.specs.Sender.{give_up_row, is_late, lost_if_late}
use Rattle.flow_send.specs.Acks.{acknowledge_row, count_ack, is_third}
use Rattle.flow_send.proofs.Summing.{default_row}
use Rattle.flow_send.specs.Finder.{is_pending, bit_of, block_at, Finds, NoneIn}

-- ---- one mark

abbrev slot_of : ℕ → ℕ
slot_of block = block / 64 % 34

abbrev marked : List ℕ → ℕ → List ℕ
marked words block = set words (slot_of block) (bit_or (get_or words (slot_of block) 0) (1 * 2 ^ (block % 64) % 2 ^ 64))

abbrev unmarked : List ℕ → ℕ → List ℕ
unmarked words block = set words (slot_of block) (bit_and (get_or words (slot_of block) 0) (bit_not w64 (1 * 2 ^ (block % 64) % 2 ^ 64)))

pub marked_own : (words : List ℕ) (block : ℕ) → length words ≡ 34 → bit_of (marked words block) block ≡ 1
marked_own words block len =
    ap (λ x. bit_at x (block % 64)) (get_or-set_same words (slot_of block) (bit_or (get_or words (slot_of block) 0) (1 * 2 ^ (block % 64) % 2 ^ 64)) 0 (omega (arith, len)))
    ∙ bit_at_set_same w64 (get_or words (slot_of block) 0) (block % 64) (omega arith)

pub marked_others : (words : List ℕ) (block b : ℕ) → length words ≡ 34 → bit_of words b ≡ 1 → bit_of (marked words block) b ≡ 1
marked_others words block b len e =
    let word : ℕ = bit_or (get_or words (slot_of block) 0) (1 * 2 ^ (block % 64) % 2 ^ 64) in
    elim (cases_eq (slot_of b) (slot_of block)) [
      | inl same ↦
          let here : get_or (marked words block) (slot_of b) 0 ≡ word = ap (λ s. get_or (marked words block) s 0) same ∙ get_or-set_same words (slot_of block) word 0 (omega (arith, len)) in
          elim (cases_eq (b % 64) (block % 64)) [
            | inl bit ↦ ap (λ x. bit_at x (b % 64)) here ∙ (ap (λ i. bit_at word i) bit ∙ bit_at_set_same w64 (get_or words (slot_of block) 0) (block % 64) (omega arith))
            | inr other ↦ ap (λ x. bit_at x (b % 64)) here ∙ (bit_at_set_other w64 (get_or words (slot_of block) 0) (block % 64) (omega arith) (b % 64) other ∙ (ap (λ s. bit_at (get_or words s 0) (b % 64)) (sym same) ∙ e))
          ]
      | inr other ↦ ap (λ x. bit_at x (b % 64)) (get_or-set_other words (slot_of block) (slot_of b) word 0 other) ∙ e
    ]

pub unmarked_others : (words : List ℕ) (block b : ℕ) → length words ≡ 34 → b % 2176 ≢ block % 2176 → bit_of (unmarked words block) b ≡ bit_of words b
unmarked_others words block b len differ =
    let word : ℕ = bit_and (get_or words (slot_of block) 0) (bit_not w64 (1 * 2 ^ (block % 64) % 2 ^ 64)) in
    elim (cases_eq (slot_of b) (slot_of block)) [
      | inl same ↦
          let other : b % 64 ≢ block % 64 = λ e. differ (omega (arith, same, e)) in
          let here : get_or (unmarked words block) (slot_of b) 0 ≡ word = ap (λ s. get_or (unmarked words block) s 0) same ∙ get_or-set_same words (slot_of block) word 0 (omega (arith, len)) in
          ap (λ x. bit_at x (b % 64)) here ∙ (bit_at_clear_other w64 (get_or words (slot_of block) 0) (block % 64) (omega arith) (b % 64) (omega arith) other ∙ ap (λ s. bit_at (get_or words s 0) (b % 64)) (sym same))
      | inr other ↦ ap (λ x. bit_at x (b % 64)) (get_or-set_other words (slot_of block) (slot_of b) word 0 other)
    ]

-- ---- blocks without a mark

zeros_below : (n j : ℕ) → n < 2 ^ 64 → j < trailing_zeros w64 n → bit_at n j ≡ 0
zeros_below n j small lt = elim (cases_eq n 0) [
  | inl z ↦ ap (λ x. bit_at x j) z ∙ bit_at-zero j
  | inr nz ↦ (bit_at-trailing_zeros w64 n (let k : 0 < n = omega (arith, nz) in k) small).2 j lt
]

pub quiet_bits : (words : List ℕ) (block b : ℕ) → get_or words (block / 64 % 34) 0 < 2 ^ 64 → block ≤ b → b < block + min (trailing_zeros w64 (get_or words (block / 64 % 34) 0 / 2 ^ (block % 64))) (64 - block % 64)
    → bit_of words b ≡ 0
quiet_bits words block b fits lo hi =
    let word = get_or words (slot_of block) 0 in
    let k = block % 64 in
    let j = b - block in
    let rest = word / 2 ^ k in
    let slot : slot_of b ≡ slot_of block = let h : b / 64 ≡ block / 64 = omega (arith, lo, hi) in ap (λ x. x % 34) h in
    let bit : b % 64 ≡ k + j = omega (arith, lo, hi) in
    ap (λ s. bit_at (get_or words s 0) (b % 64)) slot
    ∙ (ap (λ i. bit_at word i) bit
    ∙ (ap (λ n. n % 2) (sym (shr-shr word k j))
    ∙ zeros_below rest j (omega (arith, fits, shr_le word k)) (omega (arith, lo, hi))))

drop_all : (rows : List Row) → drop 0 rows ≡ rows
drop_all [] = refl
drop_all (r ∷ rows) = refl

-- ---- rows that change

row_set : (rows : List Row) (at : ℕ) (y : Row) (i : ℕ) → i < length rows → (i ≡ at → ⊥) → row_at (set rows at y) i ≡ row_at rows i
row_set rows at y i lt ne = get_or-set_other rows at i y end_row ne

row_own : (rows : List Row) (at : ℕ) (y : Row) → at < length rows → row_at (set rows at y) at ≡ y
row_own rows at y lt = get_or-set_same rows at y end_row lt

-- a row that changes, whose block is marked where it waits
pub found_set : (pending : Pending) (old new : Finder) (rows : List Row) (at : ℕ) (y : Row) → new.base ≡ old.base → ((b : ℕ) → bit_of old.words b ≡ 1 → bit_of new.words b ≡ 1)
    → (is_pending pending y.state ≡ true → bit_of new.words (block_at old at) ≡ 1) → Finds pending old rows → Finds pending new (set rows at y)
found_set pending old new rows at y base grows own h = λ i lt p.
    let inside : i < length rows = omega (arith, lt, length-set rows at y) in
    ap (λ n. bit_of new.words ((n + i) / 64)) base ∙ elim (cases_eq i at) [
      | inl same ↦ ap (λ n. bit_of new.words (block_at old n)) same ∙ own (sym (ap (λ (r : Row). is_pending pending r.state) (ap (λ n. row_at (set rows at y) n) same ∙ row_own rows at y (omega (arith, same, inside)))) ∙ p)
      | inr other ↦ grows (block_at old i) (h i inside (sym (ap (λ (r : Row). is_pending pending r.state) (row_set rows at y i inside other)) ∙ p))
    ]

-- one that doesn't wait so
pub found_settled : (pending : Pending) (f : Finder) (rows : List Row) (at : ℕ) (y : Row) → is_pending pending y.state ≡ false → Finds pending f rows → Finds pending f (set rows at y)
found_settled pending f rows at y e h = found_set pending f f rows at y refl (λ b s. s) (λ s. absurd (let no : true ≡ false = sym s ∙ e in cc)) h

-- one that waits so only where it did before
pub found_kept : (pending : Pending) (f : Finder) (rows : List Row) (at : ℕ) (x y : Row) → x ≡ get_or rows at x → at < length rows → (is_pending pending y.state ≡ true → is_pending pending x.state ≡ true)
    → Finds pending f rows → Finds pending f (set rows at y)
found_kept pending f rows at x y is lt keeps h = found_set pending f f rows at y refl (λ b s. s) (λ s. h at lt (sym (ap (λ (r : Row). is_pending pending r.state) (is ∙ default_row rows at x end_row lt)) ∙ keeps s)) h

row_front : (rows more : List Row) (i : ℕ) → i < length rows → row_at (rows ++ more) i ≡ row_at rows i
row_front [] more i lt = absurd (omega (arith, lt))
row_front (r ∷ rows) more zero lt = refl
row_front (r ∷ rows) more (suc i) lt = row_front rows more i (omega (arith, lt))

row_last : (rows : List Row) (y : Row) → row_at (rows ++ y ∷ []) (length rows) ≡ y
row_last [] y = refl
row_last (r ∷ rows) y = row_last rows y

length_more : (rows : List Row) (y : Row) → length (rows ++ y ∷ []) ≡ length rows + 1
length_more [] y = refl
length_more (r ∷ rows) y = let e = length_more rows y in omega (arith, e)

pub found_push : (pending : Pending) (old new : Finder) (rows : List Row) (at : ℕ) (y : Row) → at ≡ length rows → new.base ≡ old.base → ((b : ℕ) → bit_of old.words b ≡ 1 → bit_of new.words b ≡ 1)
    → (is_pending pending y.state ≡ true → bit_of new.words (block_at old at) ≡ 1) → Finds pending old rows → Finds pending new (rows ++ y ∷ [])
found_push pending old new rows at y end base grows own h = λ i lt p.
    ap (λ n. bit_of new.words ((n + i) / 64)) base ∙ elim (cases_lt i (length rows)) [
      | inl inside ↦ grows (block_at old i) (h i inside (sym (ap (λ (r : Row). is_pending pending r.state) (row_front rows (y ∷ []) i inside)) ∙ p))
      | inr ge ↦
          let same : i ≡ length rows = omega (arith, ge, lt, length_more rows y) in
          ap (λ n. bit_of new.words (block_at old n)) (same ∙ sym end) ∙ own (sym (ap (λ (r : Row). is_pending pending r.state) (ap (λ n. row_at (rows ++ y ∷ []) n) same ∙ row_last rows y)) ∙ p)
    ]

-- ---- a mark that goes

pub none_in_block : (pending : Pending) (f : Finder) (rows : List Row) (at before to from : ℕ) → before ≡ (f.base + at) % 64 → ((i : ℕ) → i < length rows → i < at + (64 - before) → i < to) → from ≡ at - before
    → NoneIn pending at to rows → NoneIn pending from at rows
    → (i : ℕ) → i < length rows → block_at f i ≡ block_at f at → is_pending pending (row_at rows i).state ≡ false
none_in_block pending f rows at before to from b near g behind front i lt same = elim (cases_lt i at) [
  | inl less ↦ front i (omega (arith, b, g, same)) less
  | inr ge ↦ behind i (omega (arith, ge)) (near i lt (omega (arith, b, same)))
]

pub found_clear : (pending : Pending) (old new : Finder) (rows : List Row) (at : ℕ) → new.base ≡ old.base
    → ((b : ℕ) → b % 2176 ≢ block_at old at % 2176 → bit_of new.words b ≡ bit_of old.words b)
    → ((i : ℕ) → i < length rows → block_at old i % 2176 ≡ block_at old at % 2176 → is_pending pending (row_at rows i).state ≡ false)
    → Finds pending old rows → Finds pending new rows
found_clear pending old new rows at base others none h = λ i lt p.
    ap (λ n. bit_of new.words ((n + i) / 64)) base
    ∙ (others (block_at old i) (λ e. let no : true ≡ false = sym p ∙ none i lt e in cc) ∙ h i lt p)

-- ---- the first that waits

drop_none : (n : ℕ) → drop n (let xs : List Row = [] in xs) ≡ []
drop_none zero = refl
drop_none (suc n) = refl

index_if : (t : Bool) (n : ℕ) (rest : Option ℕ) → t ≡ false → cond t (Some n) rest ≡ rest
index_if true n rest e = absurd cc
index_if false n rest e = refl

step_by : (test : State → Bool) (n at : ℕ) (rows : List Row) → (at < length rows → test (row_at rows at).state ≡ false) → first_index test n (drop at rows) ≡ first_index test (n + 1) (drop (at + 1) rows)
step_by test n at [] h = ap (λ xs. first_index test n xs) (drop_none at) ∙ sym (ap (λ xs. first_index test (n + 1) xs) (drop_none (at + 1)))
step_by test n zero (r ∷ rows) h = index_if (test r.state) n (first_index test (n + 1) rows) (h (omega arith)) ∙ ap (λ xs. first_index test (n + 1) xs) (sym (drop_all rows))
step_by test n (suc at) (r ∷ rows) h = let e : suc at + 1 ≡ suc (at + 1) = omega arith in step_by test n at rows (λ lt. h (omega (arith, lt))) ∙ ap (λ i. first_index test (n + 1) (drop i (r ∷ rows))) (sym e)

skip_by : (test : State → Bool) (at k : ℕ) (rows : List Row) → ((i : ℕ) → at ≤ i → i < at + k → i < length rows → test (row_at rows i).state ≡ false) → first_index test at (drop at rows) ≡ first_index test (at + k) (drop (at + k) rows)
skip_by test at zero rows h = let e : at + zero ≡ at = omega arith in ap (λ i. first_index test i (drop i rows)) (sym e)
skip_by test at (suc k) rows h =
    let e : at + suc k ≡ at + 1 + k = omega arith in
    step_by test at at rows (λ lt. h at (omega arith) (omega arith) lt)
    ∙ (skip_by test (at + 1) k rows (λ i lo hi lt. h i (omega (arith, lo)) (omega (arith, hi)) lt) ∙ ap (λ i. first_index test i (drop i rows)) (sym e))

no_bit : (n : ℕ) (t : Bool) → n ≡ 0 → (t ≡ true → n ≡ 1) → t ≡ false
no_bit n true z h = let o = h refl in absurd (omega (arith, z, o))
no_bit n false z h = refl

-- rows of blocks without a mark are passed over
pub passed_by : (pending : Pending) (f : Finder) (rows : List Row) (at to : ℕ) → at ≤ to → ((i : ℕ) → at ≤ i → i < to → bit_of f.words (block_at f i) ≡ 0) → Finds pending f rows
    → first_index (is_pending pending) at (drop at rows) ≡ first_index (is_pending pending) to (drop to rows)
passed_by pending f rows at to le quiet h =
    let sum : at + (to - at) ≡ to = omega (arith, le) in
    skip_by (is_pending pending) at (to - at) rows (λ i lo hi lt. no_bit (bit_of f.words (block_at f i)) (is_pending pending (row_at rows i).state) (quiet i lo (omega (arith, hi, sum))) (h i lt))
    ∙ ap (λ i. first_index (is_pending pending) i (drop i rows)) sum

pub first_whole : (rows : List Row) → first_index is_lost 0 (drop 0 rows) ≡ first_index is_lost 0 rows
first_whole rows = ap (λ xs. first_index is_lost 0 xs) (drop_all rows)

-- ---- what becomes of one row

counted_if : (r : Row) (t u : Bool) → is_unsent (cond t (record r { state = Lost }) (cond u (record r { acks = r.acks + 1 }) r)).state ≡ true → is_unsent r.state ≡ true
counted_if r true u e = absurd cc
counted_if r false true e = e
counted_if r false false e = e

pub counted_unsent : (ordinal : ℕ) (r : Row) → is_unsent (count_ack ordinal r).state ≡ true → is_unsent r.state ≡ true
counted_unsent ordinal r = counted_if r (is_third ordinal r) (is_flying r.state && nat_lt r.ordinal ordinal)

late_if : (r : Row) (t : Bool) → is_unsent (cond t (record r { state = Lost }) r).state ≡ true → is_unsent r.state ≡ true
late_if r true e = absurd cc
late_if r false e = e

pub late_unsent : (moment resend : ℕ) (r : Row) → is_unsent (lost_if_late moment resend r).state ≡ true → is_unsent r.state ≡ true
late_unsent moment resend r = late_if r (is_late moment resend r)

acked_not : (t : State) → is_acknowledged t ≡ true → is_unsent t ≡ false
acked_not Unsent e = absurd cc
acked_not Flying e = refl
acked_not Lost e = refl
acked_not Acknowledged e = refl
acked_not Abandoned e = refl

gone_if : (r : Row) (state : State) (t : Bool) → is_unsent state ≡ false → is_acknowledged r.state ≡ t → is_unsent (cond t r (let_go state r)).state ≡ false
gone_if r state true s e = acked_not r.state e
gone_if r state false s e = s

pub acked_sent : (r : Row) → is_unsent (acknowledge_row r).state ≡ false
acked_sent r = gone_if r Acknowledged (is_acknowledged r.state) refl refl

pub given_sent : (r : Row) → is_unsent (give_up_row r).state ≡ false
given_sent r = gone_if r Abandoned (is_acknowledged r.state) refl refl
