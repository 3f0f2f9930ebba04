-- Sums of what runs give, and how they change with the runs.
use Rattle.std.proofs.Common.{◌≡◌, ℕ, zero, suc, ◌+◌, ◌-◌, ◌*◌, ◌/◌, ◌%◌, ◌<◌, ◌≤◌, ◌==◌, nat_lt, nat_le, cond, not, Bool, true, false, ◌||◌, ◌&&◌, List, [], ◌∷◌, length, Option, Some, None, refl, ap, sym, ◌∙◌, subst, arith, inl, inr, get_or, ◌++◌, replicate, length-append}
use Rattle.std.specs.Prelude.{max}
use Rattle.std.specs.Option.{option_map}
use Rattle.std.specs.List.{filter, sum_by}
use Rattle.std.proofs.lemmas.List.Sums.{sum_by-cons}
use Rattle.std.proofs.lemmas.Bool.{cases_Bool, cases_lt, eqb-true, ne_eqb, eq-eqb, lt-ltb, le-ltb, le-leb, lt-leb}
use Rattle.rtmfp_data_chunks.specs.HandsOver.{IsIn}
use Rattle.rtmfp_data_chunks.specs.Runs.{Run, is_whole}
use Rattle.flow_recv.specs.declared.spans.Span.{Span}
use Rattle.flow_recv.specs.Receiver.{span, held_in, is_alive, without_first, knows}
use Rattle.flow_recv.specs.Sound.{AllAlive}
use Rattle.flow_recv.specs.Order.{AllKnown}
use Rattle.flow_recv.specs.Keyed.{run_at, without_run, with_run, changed_run, is_between, stays, over}
use Rattle.flow_recv.specs.Sums.{open_bytes, place, open_of, open_at, share, given, AreSums, sum_from, before, open_before, AllEndNear}
use Rattle.flow_recv.specs.declared.sums.Open.{Open}
use Rattle.flow_recv.proofs.Bounds.{alive_is, is_alive_from}
use Rattle.flow_recv.proofs.Searching.{lacks_above}

-- what a run gives where there is one
abbrev pub of_some : (Run → ℕ) → Option Run → ℕ
of_some w None = 0
of_some w (Some y) = w y

pub sum_with : (w : Run → ℕ) (x : Run) (runs : List Run) → sum_by w (with_run x runs) ≡ w x + sum_by w runs
sum_with w x [] = sum_by-cons w x []
sum_with w x (y ∷ later) = with_if (nat_lt x.first y.first) (sum_with w x later)
  where
    with_if : (t : Bool) → sum_by w (with_run x later) ≡ w x + sum_by w later → sum_by w (cond t (x ∷ y ∷ later) (y ∷ with_run x later)) ≡ w x + sum_by w (y ∷ later)
    with_if true ih = sum_by-cons w x (y ∷ later)
    with_if false ih = let e : sum_by w (y ∷ with_run x later) ≡ w x + sum_by w (y ∷ later) = omega (arith, ih, sum_by-cons w y (with_run x later), sum_by-cons w y later) in e

pub sum_without : (w : Run → ℕ) (n : ℕ) (runs : List Run) → sum_by w (without_run n runs) + of_some w (run_at n runs) ≡ sum_by w runs
sum_without w n [] = refl
sum_without w n (y ∷ later) = without_if (y.first == n) (sum_without w n later)
  where
    without_if : (t : Bool) → sum_by w (without_run n later) + of_some w (run_at n later) ≡ sum_by w later → sum_by w (cond t later (y ∷ without_run n later)) + of_some w (cond t (Some y) (run_at n later)) ≡ sum_by w (y ∷ later)
    without_if true ih = let e : sum_by w later + w y ≡ sum_by w (y ∷ later) = omega (arith, sum_by-cons w y later) in e
    without_if false ih = let e : sum_by w (y ∷ without_run n later) + of_some w (run_at n later) ≡ sum_by w (y ∷ later) = omega (arith, ih, sum_by-cons w y (without_run n later), sum_by-cons w y later) in e

pub sum_changed : (w : Run → ℕ) (f : Run → Run) (n : ℕ) (runs : List Run) → ((y : Run) → (f y).first ≡ y.first)
    → sum_by w (changed_run f n runs) + of_some w (run_at n runs) ≡ sum_by w runs + of_some w (run_at n (changed_run f n runs))
sum_changed w f n [] h = refl
sum_changed w f n (y ∷ later) h = changed_if (y.first == n) refl (sum_changed w f n later h)
  where
    changed_if : (t : Bool) → (y.first == n) ≡ t → sum_by w (changed_run f n later) + of_some w (run_at n later) ≡ sum_by w later + of_some w (run_at n (changed_run f n later))
        → sum_by w (cond t (f y ∷ later) (y ∷ changed_run f n later)) + of_some w (cond t (Some y) (run_at n later)) ≡ sum_by w (y ∷ later) + of_some w (run_at n (cond t (f y ∷ later) (y ∷ changed_run f n later)))
    changed_if true e ih =
        let at : run_at n (f y ∷ later) ≡ Some (f y) = ap (λ t. cond t (Some (f y)) (run_at n later)) (ap (λ m. m == n) (h y) ∙ e) in
        let k = ap (of_some w) at in
        let g : sum_by w (f y ∷ later) + w y ≡ sum_by w (y ∷ later) + of_some w (run_at n (f y ∷ later)) = omega (arith, k, sum_by-cons w (f y) later, sum_by-cons w y later) in g
    changed_if false e ih =
        let at : run_at n (y ∷ changed_run f n later) ≡ run_at n (changed_run f n later) = ap (λ t. cond t (Some y) (run_at n (changed_run f n later))) e in
        let k = ap (of_some w) at in
        let g : sum_by w (y ∷ changed_run f n later) + of_some w (run_at n later) ≡ sum_by w (y ∷ later) + of_some w (run_at n (y ∷ changed_run f n later)) = omega (arith, ih, k, sum_by-cons w y (changed_run f n later), sum_by-cons w y later) in g

-- the run at another number is still there
pub at_other : (f : Run → Run) (n g : ℕ) (runs : List Run) → (n == g) ≡ false → ((y : Run) → (f y).first ≡ y.first) → run_at g (changed_run f n runs) ≡ run_at g runs
at_other f n g [] e h = refl
at_other f n g (y ∷ later) e h = other_if (y.first == n) refl (at_other f n g later e h)
  where
    other_if : (t : Bool) → (y.first == n) ≡ t → run_at g (changed_run f n later) ≡ run_at g later → run_at g (cond t (f y ∷ later) (y ∷ changed_run f n later)) ≡ run_at g (y ∷ later)
    other_if true s ih =
        let apart : (y.first == g) ≡ false = ap (λ m. m == g) (eqb-true y.first n s) ∙ e in
        ap (λ t. cond t (Some (f y)) (run_at g later)) (ap (λ m. m == g) (h y) ∙ apart) ∙ sym (ap (λ t. cond t (Some y) (run_at g later)) apart)
    other_if false s ih = ap (λ o. cond (y.first == g) (Some y) o) ih

pub at_without : (n g : ℕ) (runs : List Run) → (n == g) ≡ false → run_at n (without_run g runs) ≡ run_at n runs
at_without n g [] e = refl
at_without n g (y ∷ later) e = without_if (y.first == g) refl (at_without n g later e)
  where
    without_if : (t : Bool) → (y.first == g) ≡ t → run_at n (without_run g later) ≡ run_at n later → run_at n (cond t later (y ∷ without_run g later)) ≡ run_at n (y ∷ later)
    without_if true s ih =
        let m = eqb-true y.first g s in
        let apart : (y.first == n) ≡ false = ne_eqb y.first n (λ q. let c : true ≡ false = sym (eq-eqb n g (sym q ∙ m)) ∙ e in cc) in
        sym (ap (λ t. cond t (Some y) (run_at n later)) apart)
    without_if false s ih = ap (λ o. cond (y.first == n) (Some y) o) ih

-- the first whole run gives nothing
pub sum_first : (w : Run → ℕ) (test : Run → Bool) (runs : List Run) → ((y : Run) → test y ≡ true → w y ≡ 0) → sum_by w (without_first test runs) ≡ sum_by w runs
sum_first w test [] h = refl
sum_first w test (y ∷ later) h = first_if (test y) refl (sum_first w test later h)
  where
    first_if : (t : Bool) → test y ≡ t → sum_by w (without_first test later) ≡ sum_by w later → sum_by w (cond t later (y ∷ without_first test later)) ≡ sum_by w (y ∷ later)
    first_if true e ih = let g : sum_by w later ≡ sum_by w (y ∷ later) = omega (arith, h y e, sum_by-cons w y later) in g
    first_if false e ih = let g : sum_by w (y ∷ without_first test later) ≡ sum_by w (y ∷ later) = omega (arith, ih, sum_by-cons w y later, sum_by-cons w y (without_first test later)) in g

pub whole_gives : (i : ℕ) (y : Run) → is_whole y ≡ true → given i y ≡ 0
whole_gives i y e = gives_if (place y.last == i) (open_bytes y) (ap (λ b. cond b 0 (length y.bytes)) e)
  where
    gives_if : (t : Bool) (n : ℕ) → n ≡ 0 → cond t n 0 ≡ 0
    gives_if true n e = e
    gives_if false n e = refl

-- ---- bounds

pub sum_le : (v w : Run → ℕ) (runs : List Run) → ((y : Run) → v y ≤ w y) → sum_by v runs ≤ sum_by w runs
sum_le v w [] h = omega arith
sum_le v w (y ∷ later) h = omega (arith, h y, sum_le v w later h, sum_by-cons v y later, sum_by-cons w y later)

cond_le : (t : Bool) (n m : ℕ) → n ≤ m → cond t n 0 ≤ m
cond_le true n m h = h
cond_le false n m h = let e : 0 ≤ m = omega arith in e

open_le : (t : Bool) (n : ℕ) → cond t 0 n ≤ n
open_le true n = let e : 0 ≤ n = omega arith in e
open_le false n = let e : n ≤ n = omega arith in e

pub given_le : (i : ℕ) (runs : List Run) → sum_by (given i) runs ≤ held_in runs
given_le i runs = sum_le (given i) (λ (y : Run). length y.bytes) runs (λ y. cond_le (place y.last == i) (open_bytes y) (length y.bytes) (open_le (is_whole y) (length y.bytes)))

pub before_le : (block : ℕ) (runs : List Run) → open_before block runs ≤ held_in runs
before_le block runs = sum_le (before block) (λ (y : Run). length y.bytes) runs (λ y. cond_le (nat_lt (y.last / 64) block) (open_bytes y) (length y.bytes) (open_le (is_whole y) (length y.bytes)))

-- ---- shares

pub share_own : (last bytes : ℕ) → share (place last) (record { last = last; bytes = bytes }) ≡ bytes
share_own last bytes = ap (λ t. cond t bytes 0) (eq-eqb (place last) (place last) refl)

gives : (t : Bool) (n : ℕ) → n ≡ 0 → cond t n 0 ≡ 0
gives true n e = e
gives false n e = refl

pub share_at : (i : ℕ) (o : Option Run) → share i (open_at o) ≡ of_some (given i) o
share_at i None = gives (place 0 == i) 0 refl
share_at i (Some y) = refl

some_le : (w : Run → ℕ) (n : ℕ) (runs : List Run) → of_some w (run_at n runs) ≤ sum_by w runs
some_le w n runs = omega (arith, sum_without w n runs)

-- the bytes of a run are in the sum at its place
pub share_le : (sums : List ℕ) (n : ℕ) (runs : List Run) (o : Open) → AreSums sums runs → o ≡ open_at (run_at n runs) → o.bytes ≤ get_or sums (place o.last) 0
share_le sums n runs o h e =
    let i = place o.last in
    let own = share_own o.last o.bytes in
    let at = ap (share i) e ∙ share_at i (run_at n runs) in
    omega (arith, own, at, some_le (given i) n runs, h i)

-- a run's bytes are among those held
pub open_held : (n : ℕ) (runs : List Run) (o : Open) → o ≡ open_at (run_at n runs) → o.bytes ≤ held_in runs
open_held n runs o e =
    let i = place o.last in
    let own = share_own o.last o.bytes in
    let at = ap (share i) e ∙ share_at i (run_at n runs) in
    omega (arith, own, at, some_le (given i) n runs, given_le i runs)

pub one_open : (y : Run) (o : Open) → o ≡ open_of y → o.bytes ≤ length y.bytes
one_open y o e = omega (arith, ap (λ (p : Open). p.bytes) e, open_le (is_whole y) (length y.bytes))

-- ---- blocks in turn

sum_zero : (w : Run → ℕ) (runs : List Run) → ((y : Run) → IsIn y runs → w y ≡ 0) → sum_by w runs ≡ 0
sum_zero w [] h = refl
sum_zero w (y ∷ later) h = omega (arith, h y (inl refl), sum_zero w later (λ z i. h z (inr i)), sum_by-cons w y later)

sum_two : (u v w : Run → ℕ) (runs : List Run) → ((y : Run) → IsIn y runs → u y + v y ≡ w y) → sum_by u runs + sum_by v runs ≡ sum_by w runs
sum_two u v w [] h = refl
sum_two u v w (y ∷ later) h = omega (arith, h y (inl refl), sum_two u v w later (λ z i. h z (inr i)), sum_by-cons u y later, sum_by-cons v y later, sum_by-cons w y later)

-- one that gives something ends near
abbrev EndsNear : ℕ → Run → Type 0
EndsNear through y = is_whole y ≡ false → (through ≤ y.last) × (y.last ≤ through + 65537)

near_in : (through : ℕ) (runs : List Run) (y : Run) → AllEndNear through runs → IsIn y runs → EndsNear through y
near_in through [] y h i = absurd i
near_in through (x ∷ later) y h i = elim i [
  | inl e ↦ subst (EndsNear through) (sym e) h.0
  | inr j ↦ near_in through later y h.1 j
]

no_bytes : (y : Run) → is_whole y ≡ true → open_bytes y ≡ 0
no_bytes y e = ap (λ b. cond b 0 (length y.bytes)) e

none_first_if : (through : ℕ) (y : Run) (w : Bool) → is_whole y ≡ w → EndsNear through y → before (through / 64) y ≡ 0
none_first_if through y true e h = gives (nat_lt (y.last / 64) (through / 64)) (open_bytes y) (no_bytes y e)
none_first_if through y false e h = let k = (h e).0 in ap (λ t. cond t (open_bytes y) 0) (le-ltb (y.last / 64) (through / 64) (omega (arith, k)))

block_step_if : (through k : ℕ) (y : Run) (w : Bool) → is_whole y ≡ w → k < 1028 → EndsNear through y
    → given ((through / 64 + k) % 1028) y + before (through / 64 + k) y ≡ before (through / 64 + (k + 1)) y
block_step_if through k y true e lt h =
    let f = through / 64 in
    let o = no_bytes y e in
    let a = gives (place y.last == ((f + k) % 1028)) (open_bytes y) o in
    let b = gives (nat_lt (y.last / 64) (f + k)) (open_bytes y) o in
    let c = gives (nat_lt (y.last / 64) (f + (k + 1))) (open_bytes y) o in
    omega (arith, a, b, c)
block_step_if through k y false e lt h =
    let f = through / 64 in
    let lo = (h e).0 in
    let hi = (h e).1 in
    elim (cases_lt (y.last / 64) (f + k)) [
      | inl less ↦
          let p : (place y.last == ((f + k) % 1028)) ≡ false = ne_eqb (place y.last) ((f + k) % 1028) (λ q. omega (arith, q, lo, hi, less, lt)) in
          let b = lt-ltb (y.last / 64) (f + k) less in
          let c = lt-ltb (y.last / 64) (f + (k + 1)) (omega (arith, less)) in
          let x = ap (λ t. cond t (open_bytes y) 0) p in
          let v = ap (λ t. cond t (open_bytes y) 0) b in
          let z = ap (λ t. cond t (open_bytes y) 0) c in
          omega (arith, x, v, z)
      | inr more ↦
          let b = le-ltb (y.last / 64) (f + k) more in
          let v = ap (λ t. cond t (open_bytes y) 0) b in
          elim (cases_lt (f + k) (y.last / 64)) [
            | inl far ↦
                let p : (place y.last == ((f + k) % 1028)) ≡ false = ne_eqb (place y.last) ((f + k) % 1028) (λ q. omega (arith, q, lo, hi, far, lt)) in
                let c = le-ltb (y.last / 64) (f + (k + 1)) (omega (arith, far)) in
                let x = ap (λ t. cond t (open_bytes y) 0) p in
                let z = ap (λ t. cond t (open_bytes y) 0) c in
                omega (arith, x, v, z)
            | inr near ↦
                let same : y.last / 64 ≡ f + k = omega (arith, more, near) in
                let p : (place y.last == ((f + k) % 1028)) ≡ true = eq-eqb (place y.last) ((f + k) % 1028) (ap (λ n. n % 1028) same) in
                let c = lt-ltb (y.last / 64) (f + (k + 1)) (omega (arith, near)) in
                let x = ap (λ t. cond t (open_bytes y) 0) p in
                let z = ap (λ t. cond t (open_bytes y) 0) c in
                omega (arith, x, v, z)
          ]
    ]

-- the sums of the first blocks are the bytes of what ends in them
pub sum_is : (sums : List ℕ) (through k : ℕ) (runs : List Run) → AreSums sums runs → AllEndNear through runs → k ≤ 1028
    → sum_from sums (through / 64) k ≡ open_before (through / 64 + k) runs
sum_is sums through zero runs h near le =
    let z = sum_zero (before (through / 64)) runs (λ y i. none_first_if through y (is_whole y) refl (near_in through runs y near i)) in
    let e : through / 64 ≡ through / 64 + 0 = omega arith in
    sym z ∙ ap (λ b. open_before b runs) e
sum_is sums through (suc k) runs h near le =
    let ih = sum_is sums through k runs h near (omega (arith, le)) in
    let two = sum_two (given ((through / 64 + k) % 1028)) (before (through / 64 + k)) (before (through / 64 + (k + 1))) runs (λ y i. block_step_if through k y (is_whole y) refl (omega (arith, le)) (near_in through runs y near i)) in
    let s = h ((through / 64 + k) % 1028) in
    let e : through / 64 + (k + 1) ≡ through / 64 + suc k = omega arith in
    let f = ap (λ b. open_before b runs) e in
    omega (arith, ih, two, s, f)

-- blocks behind the last one have nothing more
far_if : (through block : ℕ) (y : Run) (w : Bool) → is_whole y ≡ w → through / 64 + 1028 ≤ block → EndsNear through y → before (through / 64 + 1028) y + 0 ≡ before block y
far_if through block y true e le h =
    let a = gives (nat_lt (y.last / 64) (through / 64 + 1028)) (open_bytes y) (no_bytes y e) in
    let b = gives (nat_lt (y.last / 64) block) (open_bytes y) (no_bytes y e) in
    omega (arith, a, b)
far_if through block y false e le h =
    let hi = (h e).1 in
    let a = ap (λ t. cond t (open_bytes y) 0) (lt-ltb (y.last / 64) (through / 64 + 1028) (omega (arith, hi))) in
    let b = ap (λ t. cond t (open_bytes y) 0) (lt-ltb (y.last / 64) block (omega (arith, hi, le))) in
    omega (arith, a, b)

sum_none : (runs : List Run) → sum_by (λ y. 0) runs ≡ 0
sum_none runs = sum_zero (λ y. 0) runs (λ y i. refl)

pub far_same : (through block : ℕ) (runs : List Run) → AllEndNear through runs → through / 64 + 1028 ≤ block → open_before (through / 64 + 1028) runs ≡ open_before block runs
far_same through block runs near le =
    let t = sum_two (before (through / 64 + 1028)) (λ y. 0) (before block) runs (λ y i. far_if through block y (is_whole y) refl le (near_in through runs y near i)) in
    omega (arith, t, sum_none runs)

early_if : (through block : ℕ) (y : Run) (w : Bool) → is_whole y ≡ w → block ≤ through / 64 → EndsNear through y → before block y ≡ 0
early_if through block y true e le h = gives (nat_lt (y.last / 64) block) (open_bytes y) (no_bytes y e)
early_if through block y false e le h = let k = (h e).0 in ap (λ t. cond t (open_bytes y) 0) (le-ltb (y.last / 64) block (omega (arith, k, le)))

-- blocks before the first one have nothing
pub early_none : (through block : ℕ) (runs : List Run) → AllEndNear through runs → block ≤ through / 64 → open_before block runs ≡ 0
early_none through block runs near le = sum_zero (before block) runs (λ y i. early_if through block y (is_whole y) refl le (near_in through runs y near i))

-- what so many blocks give, at most as many as there are places
pub open_is : (sums : List ℕ) (through block count : ℕ) (runs : List Run) → AreSums sums runs → AllEndNear through runs → (block - through / 64 ≤ 1028 → count ≡ block - through / 64) → (1028 < block - through / 64 → count ≡ 1028)
    → sum_from sums (through / 64) count ≡ open_before block runs
open_is sums through block count runs h near few many = elim (cases_lt 1028 (block - through / 64)) [
  | inl far ↦
      let c = many far in
      ap (sum_from sums (through / 64)) c ∙ (sum_is sums through 1028 runs h near (omega arith) ∙ far_same through block runs near (omega (arith, far)))
  | inr within ↦
      let c = few within in
      ap (sum_from sums (through / 64)) c ∙ (sum_is sums through (block - through / 64) runs h near within ∙ elim (cases_lt block (through / 64)) [
        | inl less ↦ early_none through (through / 64 + (block - through / 64)) runs near (omega (arith, less)) ∙ sym (early_none through block runs near (omega (arith, less)))
        | inr more ↦ ap (λ b. open_before b runs) (let e : through / 64 + (block - through / 64) ≡ block = omega (arith, more) in e)
      ])
]

-- ---- what a forward number drops

or_yes : (a b : Bool) → b ≡ true → (a || b) ≡ true
or_yes true b e = refl
or_yes false b e = e

and_no : (a b : Bool) → b ≡ false → (a && b) ≡ false
and_no true b e = e
and_no false b e = refl

held_filter : (test : Run → Bool) (runs : List Run) → held_in (filter test runs) ≡ sum_by (λ y. cond (test y) (length y.bytes) 0) runs
held_filter test [] = refl
held_filter test (y ∷ later) = filter_if (test y) refl (held_filter test later)
  where
    filter_if : (t : Bool) → test y ≡ t → held_in (filter test later) ≡ sum_by (λ z. cond (test z) (length z.bytes) 0) later → held_in (cond t (y ∷ filter test later) (filter test later)) ≡ sum_by (λ z. cond (test z) (length z.bytes) 0) (y ∷ later)
    filter_if true e ih =
        let c = ap (λ b. cond b (length y.bytes) 0) e in
        let g : held_in (y ∷ filter test later) ≡ sum_by (λ (z : Run). cond (test z) (length z.bytes) 0) (y ∷ later) = omega (arith, ih, c, sum_by-cons (λ (z : Run). length z.bytes) y (filter test later), sum_by-cons (λ (z : Run). cond (test z) (length z.bytes) 0) y later) in g
    filter_if false e ih =
        let c = ap (λ b. cond b (length y.bytes) 0) e in
        let g : held_in (filter test later) ≡ sum_by (λ (z : Run). cond (test z) (length z.bytes) 0) (y ∷ later) = omega (arith, ih, c, sum_by-cons (λ (z : Run). cond (test z) (length z.bytes) 0) y later) in g

whole_alive : (spans : List Span) (y : Run) → is_whole y ≡ true → is_alive spans y ≡ true
whole_alive spans y e = is_alive_from spans y (record { before = λ f. absurd (front_if y.front y.rear e f); after = λ f. absurd (rear_if y.front y.rear e f) })
  where
    front_if : (f r : Bool) → cond f r false ≡ true → f ≡ false → ⊥
    front_if true r e f = cc
    front_if false r e f = cc

    rear_if : (f r : Bool) → cond f r false ≡ true → r ≡ false → ⊥
    rear_if true true e f = cc
    rear_if true false e f = cc
    rear_if false r e f = cc

-- one that isn't whole and ends below a forward number is dead after it
dead_below : (f : ℕ) (above : List Span) (y : Run) → is_whole y ≡ false → y.first ≤ y.last → y.last < f → is_alive (span 0 f ∷ above) y ≡ false
dead_below f above y e up lt = elim (cases_Bool (is_alive (span 0 f ∷ above) y)) [
  | inl a ↦
      let l = alive_is (span 0 f ∷ above) y a in
      absurd (end_if y.front y.rear e (λ g. let k = lacks_above f (y.first - 1) above (l.before g) in omega (arith, k, up, lt)) (λ g. let k = lacks_above f (y.last + 1) above (l.after g) in omega (arith, k, lt)))
  | inr d ↦ d
]
  where
    end_if : (f r : Bool) → cond f r false ≡ false → (f ≡ false → ⊥) → (r ≡ false → ⊥) → ⊥
    end_if true true e g h = absurd cc
    end_if true false e g h = h refl
    end_if false r e g h = g refl

drops_if : (t f low : ℕ) (above : List Span) (y : Run) (w : Bool) → is_whole y ≡ w → t < f → low ≡ max (f / 64 * 64) t + 1 → y.first ≤ y.last → EndsNear t y
    → cond (stays (span 0 f ∷ above) (t + 1) f y) (length y.bytes) 0 + before (f / 64) y ≡ cond (stays (span 0 f ∷ above) low f y) (length y.bytes) 0
drops_if t f low above y true e lt l up h =
    let b = span 0 f ∷ above in
    let a = whole_alive b y e in
    let s = ap (λ x. cond x (length y.bytes) 0) (or_yes (not (is_between (t + 1) f y)) (is_alive b y) a) in
    let u = ap (λ x. cond x (length y.bytes) 0) (or_yes (not (is_between low f y)) (is_alive b y) a) in
    let o = gives (nat_lt (y.last / 64) (f / 64)) (open_bytes y) (no_bytes y e) in
    omega (arith, s, u, o)
drops_if t f low above y false e lt l up h = elim (cases_lt (y.last / 64) (f / 64)) [
  | inl less ↦
      let b = span 0 f ∷ above in
      let k = (h e).0 in
      let d = dead_below f above y e up (omega (arith, less)) in
      let in_t : is_between (t + 1) f y ≡ true = rw (le-leb (y.first - 1) f (omega (arith, up, less)), le-leb (t + 1) (y.last + 1) (omega (arith, k))) refl in
      let out : is_between low f y ≡ false = and_no (nat_le (y.first - 1) f) (nat_le low (y.last + 1)) (lt-leb low (y.last + 1) (omega (arith, l, less))) in
      let s = ap (λ x. cond (not x || is_alive b y) (length y.bytes) 0) in_t ∙ ap (λ x. cond x (length y.bytes) 0) d in
      let u = ap (λ x. cond (not x || is_alive b y) (length y.bytes) 0) out in
      let o = ap (λ x. cond x (open_bytes y) 0) (lt-ltb (y.last / 64) (f / 64) less) ∙ ap (λ x. cond x 0 (length y.bytes)) e in
      omega (arith, s, u, o)
  | inr more ↦
      let b = span 0 f ∷ above in
      let k = (h e).0 in
      let o = ap (λ x. cond x (open_bytes y) 0) (le-ltb (y.last / 64) (f / 64) more) in
      let p = le-leb (t + 1) (y.last + 1) (omega (arith, k)) in
      let q = le-leb low (y.last + 1) (omega (arith, l, k, more)) in
      let same : is_between (t + 1) f y ≡ is_between low f y = ap (λ x. nat_le (y.first - 1) f && x) (p ∙ sym q) in
      let s = ap (λ x. cond (not x || is_alive b y) (length y.bytes) 0) same in
      omega (arith, s, o)
]

run_in : (spans : List Span) (runs : List Run) (y : Run) → AllAlive spans runs → IsIn y runs → y.first ≤ y.last
run_in spans [] y h i = absurd i
run_in spans (x ∷ later) y h i = elim i [
  | inl e ↦ subst (λ (z : Run). z.first ≤ z.last) (sym e) h.0
  | inr j ↦ run_in spans later y h.2 j
]

-- the bytes that stay, by the blocks and by what is looked at
pub drops : (t f low : ℕ) (above : List Span) (runs : List Run) → t < f → low ≡ max (f / 64 * 64) t + 1 → AllAlive (span 0 t ∷ above) runs → AllEndNear t runs
    → held_in (filter (stays (span 0 f ∷ above) (t + 1) f) runs) + open_before (f / 64) runs ≡ held_in (filter (stays (span 0 f ∷ above) low f) runs)
drops t f low above runs lt l alive near =
    let b = span 0 f ∷ above in
    let p = held_filter (stays b (t + 1) f) runs in
    let q = held_filter (stays b low f) runs in
    let two = sum_two (λ (y : Run). cond (stays b (t + 1) f y) (length y.bytes) 0) (before (f / 64)) (λ (y : Run). cond (stays b low f y) (length y.bytes) 0) runs
    (λ y i. drops_if t f low above y (is_whole y) refl lt l (run_in (span 0 t ∷ above) runs y alive i) (near_in t runs y near i)) in
    omega (arith, p, q, two)

-- ---- every receiver's runs end near

pub ends_near : (t : ℕ) (above : List Span) (runs : List Run) → AllAlive (span 0 t ∷ above) runs → AllKnown (span 0 t ∷ above) runs → ((n : ℕ) → knows (span 0 t ∷ above) n ≡ true → n ≤ t + 1 + 65536) → AllEndNear t runs
ends_near t above [] alive known within = tt
ends_near t above (y ∷ later) alive known within =
    let l = alive_is (span 0 t ∷ above) y alive.1 in
    let top = within y.last (known.0 y.last alive.0 (omega arith)) in (
      λ e. (open_if y.front y.rear e (λ g. let k = lacks_above t (y.first - 1) above (l.before g) in let up = alive.0 in omega (arith, k, up)) (λ g. let k = lacks_above t (y.last + 1) above (l.after g) in omega (arith, k)), omega (arith, top)),
      ends_near t above later alive.2 known.1 within,
    )
  where
    open_if : (f r : Bool) → cond f r false ≡ false → (f ≡ false → t ≤ y.last) → (r ≡ false → t ≤ y.last) → t ≤ y.last
    open_if true true e g h = absurd cc
    open_if true false e g h = h refl
    open_if false r e g h = g refl

-- ---- places that are made

zeros : (z k i : ℕ) → get_or (replicate k z) i z ≡ z
zeros z zero i = refl
zeros z (suc k) zero = refl
zeros z (suc k) (suc i) = zeros z k i

empty : (xs : List ℕ) (z i : ℕ) → length xs ≡ 0 → get_or xs i z ≡ z
empty [] z i e = refl
empty (x ∷ xs) z i e = absurd (omega (arith, e))

pub made : (xs ys : List ℕ) (i : ℕ) → length xs ≡ 0 → ys ≡ replicate 1028 0 → get_or ys i 0 ≡ get_or xs i 0
made xs ys i e f = ap (λ (zs : List ℕ). get_or zs i 0) f ∙ (zeros 0 1028 i ∙ sym (empty xs 0 i e))

pub sum_from_le : (sums : List ℕ) (block j k : ℕ) → j ≤ k → sum_from sums block j ≤ sum_from sums block k
sum_from_le sums block j zero le = let e : j ≡ 0 = omega (arith, le) in let f = ap (λ n. sum_from sums block n) e in omega (arith, f)
sum_from_le sums block j (suc k) le = elim (cases_lt k j) [
  | inl lt ↦ let e : j ≡ suc k = omega (arith, le, lt) in let f = ap (λ n. sum_from sums block n) e in omega (arith, f)
  | inr ge ↦ let ih = sum_from_le sums block j k ge in let g : sum_from sums block j ≤ sum_from sums block k + get_or sums ((block + k) % 1028) 0 = omega (arith, ih) in g
]

-- ---- a run that is changed, and one that is joined to it

-- the bytes of a run after a fragment
pub bytes_after : (f : Run → Run) (n more : ℕ) (runs : List Run) (o : Open) → ((y : Run) → (f y).first ≡ y.first) → ((y : Run) → length (f y).bytes ≤ length y.bytes + more)
    → o ≡ open_at (run_at n (changed_run f n runs)) → o.bytes ≤ held_in runs + more
bytes_after f n more runs o h l e =
    let s = held_changed f n more runs h l in
    let k = open_held n (changed_run f n runs) o e in
    omega (arith, s, k)
  where
    held_changed : (f : Run → Run) (n more : ℕ) (runs : List Run) → ((y : Run) → (f y).first ≡ y.first) → ((y : Run) → length (f y).bytes ≤ length y.bytes + more) → held_in (changed_run f n runs) ≤ held_in runs + more
    held_changed f n more [] h l = let g : 0 ≤ 0 + more = omega arith in g
    held_changed f n more (y ∷ later) h l = changed_if (y.first == n) (held_changed f n more later h l)
      where
        changed_if : (t : Bool) → held_in (changed_run f n later) ≤ held_in later + more → held_in (cond t (f y ∷ later) (y ∷ changed_run f n later)) ≤ held_in (y ∷ later) + more
        changed_if true ih = let g : held_in (f y ∷ later) ≤ held_in (y ∷ later) + more = omega (arith, l y, sum_by-cons (λ (z : Run). length z.bytes) y later, sum_by-cons (λ (z : Run). length z.bytes) (f y) later) in g
        changed_if false ih = let g : held_in (y ∷ changed_run f n later) ≤ held_in (y ∷ later) + more = omega (arith, ih, sum_by-cons (λ (z : Run). length z.bytes) y later, sum_by-cons (λ (z : Run). length z.bytes) y (changed_run f n later)) in g

-- the sums after a change
pub sums_changed : (i : ℕ) (f : Run → Run) (n a b d : ℕ) (runs new : List Run) (o p : Open) → ((y : Run) → (f y).first ≡ y.first) → o ≡ open_at (run_at n runs) → p ≡ open_at (run_at n new) → new ≡ changed_run f n runs
    → a ≡ sum_by (given i) runs → b + share i o ≡ a → d ≡ b + share i p → d ≡ sum_by (given i) new
sums_changed i f n a b d runs new o p h e g s inv t k =
    let c = sum_changed (given i) f n runs h in
    let u = ap (share i) e ∙ share_at i (run_at n runs) in
    let v = ap (share i) (g ∙ ap (λ (ys : List Run). open_at (run_at n ys)) s) ∙ share_at i (run_at n (changed_run f n runs)) in
    let w = ap (λ (ys : List Run). sum_by (given i) ys) s in
    omega (arith, c, u, v, w, inv, t, k)

-- the sums after a run was changed and another one taken out
pub sums_joined : (i : ℕ) (f : Run → Run) (n m a b c d : ℕ) (runs new : List Run) (o q p : Open) → ((y : Run) → (f y).first ≡ y.first) → (n == m) ≡ false
    → o ≡ open_at (run_at n runs) → q ≡ open_at (run_at m runs) → p ≡ open_at (run_at n new) → new ≡ without_run m (changed_run f n runs)
    → a ≡ sum_by (given i) runs → b + share i o ≡ a → c + share i q ≡ b → d ≡ c + share i p → d ≡ sum_by (given i) new
sums_joined i f n m a b c d runs new o q p h apart e g j s inv t k l =
    let mid = changed_run f n runs in
    let x = sum_changed (given i) f n runs h in
    let y = sum_without (given i) m mid in
    let u = ap (share i) e ∙ share_at i (run_at n runs) in
    let r = ap (share i) g ∙ share_at i (run_at m runs) in
    let z = ap (of_some (given i)) (at_other f n m runs apart h) in
    let v = ap (share i) (j ∙ ap (λ (ys : List Run). open_at (run_at n ys)) s) ∙ (share_at i (run_at n (without_run m mid)) ∙ ap (of_some (given i)) (at_without n m mid apart)) in
    let w = ap (λ (ys : List Run). sum_by (given i) ys) s in
    omega (arith, x, y, u, r, z, v, w, inv, t, k, l)

-- both runs' bytes are in the sums
pub two_le : (i : ℕ) (n m : ℕ) (runs : List Run) → (n == m) ≡ false → of_some (given i) (run_at n runs) + of_some (given i) (run_at m runs) ≤ sum_by (given i) runs
two_le i n m runs apart =
    let a = sum_without (given i) m runs in
    let b = some_le (given i) n (without_run m runs) in
    let c = ap (of_some (given i)) (at_without n m runs apart) in
    omega (arith, a, b, c)

pub share_left : (sums left : List ℕ) (n m : ℕ) (runs : List Run) (o q : Open) → (n == m) ≡ false → AreSums sums runs → o ≡ open_at (run_at n runs) → q ≡ open_at (run_at m runs)
    → ((i : ℕ) → get_or left i 0 + share i o ≡ get_or sums i 0) → q.bytes ≤ get_or left (place q.last) 0
share_left sums left n m runs o q apart h e g t =
    let i = place q.last in
    let own = share_own q.last q.bytes in
    let a = ap (share i) g ∙ share_at i (run_at m runs) in
    let b = ap (share i) e ∙ share_at i (run_at n runs) in
    omega (arith, own, a, b, two_le i n m runs apart, h i, t i)

-- the bytes of a run that was joined from two and a piece between them
pub joined_bytes : (n m : ℕ) (runs new : List Run) (piece : List ℕ) (z : Run) (p : Open) → (n == m) ≡ false → run_at m runs ≡ Some z → new ≡ without_run m (changed_run (λ y. over y piece z) n runs) → p ≡ open_at (run_at n new)
    → p.bytes ≤ held_in runs + length piece
joined_bytes n m runs new piece z p apart at s e =
    let to : Run → Run = λ y. over y piece z in
    let mid = changed_run to n runs in
    let g = e ∙ (ap (λ (ys : List Run). open_at (run_at n ys)) s ∙ ap (λ o. open_at o) (at_without n m mid apart)) in
    let k = open_le_at (run_at n mid) p g in
    let q = over_at (run_at n runs) piece z in
    let r = ap (of_some (λ (y : Run). length y.bytes)) (at_mapped to n runs (λ y. refl)) in
    let u = sum_without (λ (y : Run). length y.bytes) m runs in
    let t = ap (of_some (λ (y : Run). length y.bytes)) at in
    let f = some_le (λ (y : Run). length y.bytes) n (without_run m runs) in
    let h = ap (of_some (λ (y : Run). length y.bytes)) (at_without n m runs apart) in
    omega (arith, k, q, r, u, t, f, h)
  where
    open_le_at : (o : Option Run) (p : Open) → p ≡ open_at o → p.bytes ≤ of_some (λ (y : Run). length y.bytes) o
    open_le_at None p e = omega (arith, ap (λ (q : Open). q.bytes) e)
    open_le_at (Some y) p e = omega (arith, ap (λ (q : Open). q.bytes) e, open_le (is_whole y) (length y.bytes))

    over_at : (o : Option Run) (piece : List ℕ) (z : Run) → of_some (λ (y : Run). length y.bytes) (option_map (λ y. over y piece z) o) ≤ of_some (λ (y : Run). length y.bytes) o + length piece + length z.bytes
    over_at None piece z = omega arith
    over_at (Some y) piece z = omega (arith, length-append (y.bytes ++ piece) z.bytes, length-append y.bytes piece)

    at_mapped : (f : Run → Run) (n : ℕ) (runs : List Run) → ((y : Run) → (f y).first ≡ y.first) → run_at n (changed_run f n runs) ≡ option_map f (run_at n runs)
    at_mapped f n [] h = refl
    at_mapped f n (y ∷ later) h = mapped_if (y.first == n) refl (at_mapped f n later h)
      where
        mapped_if : (t : Bool) → (y.first == n) ≡ t → run_at n (changed_run f n later) ≡ option_map f (run_at n later) → run_at n (cond t (f y ∷ later) (y ∷ changed_run f n later)) ≡ option_map f (cond t (Some y) (run_at n later))
        mapped_if true e ih = ap (λ t. cond t (Some (f y)) (run_at n later)) (ap (λ m. m == n) (h y) ∙ e)
        mapped_if false e ih = ap (λ t. cond t (Some y) (run_at n (changed_run f n later))) e ∙ ih
