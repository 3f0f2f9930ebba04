-- The newest run among the older ones.
use Rattle.std.proofs.Common.{◌≡◌, ℕ, ◌+◌, ◌<◌, ◌≤◌, ◌^◌, length, ◌==◌, nat_lt, nat_le, cond, Bool, true, false, ◌&&◌, ◌||◌, List, [], ◌∷◌, Option, Some, None, refl, ap, sym, ◌∙◌, subst, arith, inl, inr}
use Rattle.std.specs.Prelude.{IsSome, min, max, Result, Ok, Err, OnOk, OnErr}
use Rattle.std.specs.List.{slice_get}
use Rattle.std.specs.Option.{is_some, option_map}
use Rattle.std.proofs.lemmas.Bool.{cases_Bool, cases_lt, cases_eq, eqb-true, eq-eqb, ne_eqb, lt-ltb, le-ltb, ltb-true, ltb-false, le-leb, lt-leb}
use Rattle.rtmfp_data_chunks.specs.Runs.{Run, is_whole}
use Rattle.flow_recv.specs.Receiver.{first_of, without_first, held_in}
use Rattle.flow_recv.specs.Order.{InOrder}
use Rattle.flow_recv.specs.Keyed.{whole_firsts, IsFree, AllWhole, run_at, without_run, with_run, changed_run, with_newest, IsNewest, IsFirstFrom, IsLastBelow, least, most, is_before, is_foremost, begins}
use Rattle.flow_recv.specs.Sums.{AllEndNear}
use Rattle.flow_recv.proofs.Putting.{absent, at_new, at_old, changed_with, without_new}
use Rattle.flow_recv.proofs.Summing.{at_other, at_without, sum_with}

-- ---- the order

lower : (a b : ℕ) (runs : List Run) → a ≤ b → InOrder b runs → InOrder a runs
lower a b [] le h = tt
lower a b (y ∷ later) le h = (omega (arith, le, h.0), h.1, h.2)

pub older_order : (x : Run) (low : ℕ) (runs : List Run) → InOrder low (with_run x runs) → InOrder low runs
older_order x low [] h = tt
older_order x low (y ∷ later) h = order_if (nat_lt x.first y.first) h (λ k. older_order x (y.last + 1) later k)
  where
    order_if : (t : Bool) → InOrder low (cond t (x ∷ y ∷ later) (y ∷ with_run x later)) → (InOrder (y.last + 1) (with_run x later) → InOrder (y.last + 1) later) → InOrder low (y ∷ later)
    order_if true h ih = lower low (x.last + 1) (y ∷ later) (omega (arith, h.0, h.1)) h.2
    order_if false h ih = (h.0, h.1, ih h.2)

with_low : (x : Run) (low : ℕ) (runs : List Run) → InOrder low runs → x.first < low → with_run x runs ≡ x ∷ runs
with_low x low [] h lt = refl
with_low x low (y ∷ later) h lt = ap (λ t. cond t (x ∷ y ∷ later) (y ∷ with_run x later)) (lt-ltb x.first y.first (omega (arith, h.0, lt)))

-- ---- the run at another number

pub without_old : (n low : ℕ) (x : Run) (runs : List Run) → InOrder low runs → (x.first == n) ≡ false → without_run n (with_run x runs) ≡ with_run x (without_run n runs)
without_old n low x [] h e = ap (λ (b : Bool). cond b [] (x ∷ [])) e
without_old n low x (y ∷ later) h e = elim (cases_Bool (nat_lt x.first y.first)) [
  | inl t ↦ elim (cases_Bool (y.first == n)) [
    | inl s ↦
        ap (λ b. without_run n (cond b (x ∷ y ∷ later) (y ∷ with_run x later))) t
        ∙ (ap (λ b. cond b (y ∷ later) (x ∷ without_run n (y ∷ later))) e
        ∙ (ap (λ b. x ∷ cond b later (y ∷ without_run n later)) s
        ∙ sym (ap (λ b. with_run x (cond b later (y ∷ without_run n later))) s ∙ with_low x (y.last + 1) later h.2 (let lt = ltb-true x.first y.first t in omega (arith, lt, h.1)))))
    | inr s ↦
        ap (λ b. without_run n (cond b (x ∷ y ∷ later) (y ∷ with_run x later))) t
        ∙ (ap (λ b. cond b (y ∷ later) (x ∷ without_run n (y ∷ later))) e
        ∙ (ap (λ b. x ∷ cond b later (y ∷ without_run n later)) s
        ∙ sym (ap (λ b. with_run x (cond b later (y ∷ without_run n later))) s ∙ ap (λ b. cond b (x ∷ y ∷ without_run n later) (y ∷ with_run x (without_run n later))) t)))
  ]
  | inr t ↦ elim (cases_Bool (y.first == n)) [
    | inl s ↦
        ap (λ b. without_run n (cond b (x ∷ y ∷ later) (y ∷ with_run x later))) t
        ∙ (ap (λ b. cond b (with_run x later) (y ∷ without_run n (with_run x later))) s
        ∙ sym (ap (λ b. with_run x (cond b later (y ∷ without_run n later))) s))
    | inr s ↦
        ap (λ b. without_run n (cond b (x ∷ y ∷ later) (y ∷ with_run x later))) t
        ∙ (ap (λ b. cond b (with_run x later) (y ∷ without_run n (with_run x later))) s
        ∙ (ap (λ (zs : List Run). y ∷ zs) (without_old n (y.last + 1) x later h.2 e)
        ∙ sym (ap (λ b. with_run x (cond b later (y ∷ without_run n later))) s ∙ ap (λ b. cond b (x ∷ y ∷ without_run n later) (y ∷ with_run x (without_run n later))) t)))
  ]
]

pub changed_old : (f : Run → Run) (n : ℕ) (x : Run) (runs : List Run) → ((y : Run) → (f y).first ≡ y.first) → (x.first == n) ≡ false → changed_run f n (with_run x runs) ≡ with_run x (changed_run f n runs)
changed_old f n x [] k e = ap (λ (b : Bool). cond b (f x ∷ []) (x ∷ [])) e
changed_old f n x (y ∷ later) k e = elim (cases_Bool (nat_lt x.first y.first)) [
  | inl t ↦ elim (cases_Bool (y.first == n)) [
    | inl s ↦
        let t' : nat_lt x.first (f y).first ≡ true = ap (λ i. nat_lt x.first i) (k y) ∙ t in
        ap (λ b. changed_run f n (cond b (x ∷ y ∷ later) (y ∷ with_run x later))) t
        ∙ (ap (λ b. cond b (f x ∷ y ∷ later) (x ∷ changed_run f n (y ∷ later))) e
        ∙ (ap (λ b. x ∷ cond b (f y ∷ later) (y ∷ changed_run f n later)) s
        ∙ sym (ap (λ b. with_run x (cond b (f y ∷ later) (y ∷ changed_run f n later))) s ∙ ap (λ b. cond b (x ∷ f y ∷ later) (f y ∷ with_run x later)) t')))
    | inr s ↦
        ap (λ b. changed_run f n (cond b (x ∷ y ∷ later) (y ∷ with_run x later))) t
        ∙ (ap (λ b. cond b (f x ∷ y ∷ later) (x ∷ changed_run f n (y ∷ later))) e
        ∙ (ap (λ b. x ∷ cond b (f y ∷ later) (y ∷ changed_run f n later)) s
        ∙ sym (ap (λ b. with_run x (cond b (f y ∷ later) (y ∷ changed_run f n later))) s ∙ ap (λ b. cond b (x ∷ y ∷ changed_run f n later) (y ∷ with_run x (changed_run f n later))) t)))
  ]
  | inr t ↦ elim (cases_Bool (y.first == n)) [
    | inl s ↦
        let t' : nat_lt x.first (f y).first ≡ false = ap (λ i. nat_lt x.first i) (k y) ∙ t in
        ap (λ b. changed_run f n (cond b (x ∷ y ∷ later) (y ∷ with_run x later))) t
        ∙ (ap (λ b. cond b (f y ∷ with_run x later) (y ∷ changed_run f n (with_run x later))) s
        ∙ sym (ap (λ b. with_run x (cond b (f y ∷ later) (y ∷ changed_run f n later))) s ∙ ap (λ b. cond b (x ∷ f y ∷ later) (f y ∷ with_run x later)) t'))
    | inr s ↦
        ap (λ b. changed_run f n (cond b (x ∷ y ∷ later) (y ∷ with_run x later))) t
        ∙ (ap (λ b. cond b (f y ∷ with_run x later) (y ∷ changed_run f n (with_run x later))) s
        ∙ (ap (λ (zs : List Run). y ∷ zs) (changed_old f n x later k e)
        ∙ sym (ap (λ b. with_run x (cond b (f y ∷ later) (y ∷ changed_run f n later))) s ∙ ap (λ b. cond b (x ∷ y ∷ changed_run f n later) (y ∷ with_run x (changed_run f n later))) t)))
  ]
]

-- ---- either of them, by the newest one's number

pub at_newest : (n : ℕ) (o : Option Run) (runs : List Run) → IsNewest o runs → begins n o ≡ true → run_at n (with_newest o runs) ≡ o
at_newest n None runs h e = absurd cc
at_newest n (Some x) runs h e = subst (λ m. run_at m (with_run x runs) ≡ Some x) (eqb-true x.first n e) (at_new x runs h)

pub at_older : (n : ℕ) (o : Option Run) (runs : List Run) → begins n o ≡ false → run_at n (with_newest o runs) ≡ run_at n runs
at_older n None runs e = refl
at_older n (Some x) runs e = at_old n x runs e

pub without_newest : (n : ℕ) (o : Option Run) (runs : List Run) → IsNewest o runs → begins n o ≡ true → without_run n (with_newest o runs) ≡ runs
without_newest n None runs h e = absurd cc
without_newest n (Some x) runs h e = subst (λ m. without_run m (with_run x runs) ≡ runs) (eqb-true x.first n e) (without_new x runs h)

pub without_older : (n : ℕ) (o : Option Run) (runs : List Run) → InOrder 0 (with_newest o runs) → begins n o ≡ false → without_run n (with_newest o runs) ≡ with_newest o (without_run n runs)
without_older n None runs h e = refl
without_older n (Some x) runs h e = without_old n 0 x runs (older_order x 0 runs h) e

pub newest_without : (n : ℕ) (o : Option Run) (runs : List Run) → IsNewest o runs → begins n o ≡ false → IsNewest o (without_run n runs)
newest_without n None runs h e = tt
newest_without n (Some x) runs h e = at_without x.first n runs e ∙ h

pub changed_newest : (f : Run → Run) (n : ℕ) (o : Option Run) (runs : List Run) → ((y : Run) → (f y).first ≡ y.first) → IsNewest o runs → begins n o ≡ true → changed_run f n (with_newest o runs) ≡ with_newest (option_map f o) runs
changed_newest f n None runs k h e = absurd cc
changed_newest f n (Some x) runs k h e = subst (λ m. changed_run f m (with_run x runs) ≡ with_run (f x) runs) (eqb-true x.first n e) (changed_with f x runs (k x) h)

pub changed_older : (f : Run → Run) (n : ℕ) (o : Option Run) (runs : List Run) → ((y : Run) → (f y).first ≡ y.first) → begins n o ≡ false → changed_run f n (with_newest o runs) ≡ with_newest o (changed_run f n runs)
changed_older f n None runs k e = refl
changed_older f n (Some x) runs k e = changed_old f n x runs k e

other_way : (a b : ℕ) → (a == b) ≡ false → (b == a) ≡ false
other_way a b e = ne_eqb b a (λ q. let c : true ≡ false = sym (eq-eqb a b (sym q)) ∙ e in cc)

pub older_changed : (f : Run → Run) (n : ℕ) (o : Option Run) (runs : List Run) → ((y : Run) → (f y).first ≡ y.first) → IsNewest o runs → begins n o ≡ false → IsNewest o (changed_run f n runs)
older_changed f n None runs k h e = tt
older_changed f n (Some x) runs k h e = at_other f n x.first runs (other_way x.first n e) k ∙ h

-- ---- the next one

some_at : (x : Run) (runs : List Run) → run_at x.first runs ≡ None → IsSome (run_at x.first (with_run x runs))
some_at x runs h = subst IsSome (sym (at_new x runs h)) refl

kept_at : (n : ℕ) (x : Run) (runs : List Run) → run_at x.first runs ≡ None → IsSome (run_at n runs) → IsSome (run_at n (with_run x runs))
kept_at n x runs h i = elim (cases_eq x.first n) [
  | inl e ↦ subst (λ m. IsSome (run_at m (with_run x runs))) e (some_at x runs h)
  | inr ne ↦ subst IsSome (sym (at_old n x runs (ne_eqb x.first n ne))) i
]

pub from_newest : (n : ℕ) (x : Run) (runs : List Run) (o : Option ℕ) → run_at x.first runs ≡ None → n ≤ x.first → IsFirstFrom n runs o → IsFirstFrom n (with_run x runs) (Some (least x.first o))
from_newest n x runs None h le b = (
  le,
  some_at x runs h,
  λ q lo i. elim (cases_eq x.first q) [
    | inl e ↦ omega (arith, e)
    | inr ne ↦ let g = subst IsSome (at_old q x runs (ne_eqb x.first q ne) ∙ b q lo) i in absurd cc
  ],
)
from_newest n x runs (Some g) h le b = (
  let lo = b.0 in omega (arith, le, lo),
  elim (cases_lt g x.first) [
    | inl lt ↦ let m : g ≡ min x.first g = omega (arith, lt) in subst (λ k. IsSome (run_at k (with_run x runs))) m (kept_at g x runs h b.1)
    | inr ge ↦ let m : x.first ≡ min x.first g = omega (arith, ge) in subst (λ k. IsSome (run_at k (with_run x runs))) m (some_at x runs h)
  ],
  λ q lo i. elim (cases_eq x.first q) [
    | inl e ↦ omega (arith, e)
    | inr ne ↦ let k = b.2 q lo (subst IsSome (at_old q x runs (ne_eqb x.first q ne)) i) in omega (arith, k)
  ],
)

pub from_older : (n : ℕ) (x : Run) (runs : List Run) (o : Option ℕ) → x.first < n → IsFirstFrom n runs o → IsFirstFrom n (with_run x runs) o
from_older n x runs None lt b = λ q lo. at_old q x runs (ne_eqb x.first q (λ e. omega (arith, e, lt, lo))) ∙ b q lo
from_older n x runs (Some g) lt b = (
  b.0,
  subst IsSome (sym (at_old g x runs (ne_eqb x.first g (λ e. let lo = b.0 in omega (arith, e, lt, lo))))) b.1,
  λ q lo i. b.2 q lo (subst IsSome (at_old q x runs (ne_eqb x.first q (λ e. omega (arith, e, lt, lo)))) i),
)

pub first_if : (n : ℕ) (x : Run) (runs : List Run) (o : Option ℕ) (t : Bool) → run_at x.first runs ≡ None → IsFirstFrom n runs o → t ≡ nat_le n x.first → IsFirstFrom n (with_run x runs) (cond t (Some (least x.first o)) o)
first_if n x runs o true h b e = elim (cases_lt x.first n) [
  | inl lt ↦ let c : true ≡ false = e ∙ lt-leb n x.first lt in absurd cc
  | inr ge ↦ from_newest n x runs o h ge b
]
first_if n x runs o false h b e = elim (cases_lt x.first n) [
  | inl lt ↦ from_older n x runs o lt b
  | inr ge ↦ let c : false ≡ true = e ∙ le-leb n x.first ge in absurd cc
]

pub below_newest : (n : ℕ) (x : Run) (runs : List Run) (o : Option ℕ) → run_at x.first runs ≡ None → x.first < n → IsLastBelow n runs o → IsLastBelow n (with_run x runs) (Some (most x.first o))
below_newest n x runs None h lt b = (
  lt,
  some_at x runs h,
  λ q hi i. elim (cases_eq x.first q) [
    | inl e ↦ omega (arith, e)
    | inr ne ↦ let g = subst IsSome (at_old q x runs (ne_eqb x.first q ne) ∙ b q hi) i in absurd cc
  ],
)
below_newest n x runs (Some g) h lt b = (
  let hi = b.0 in omega (arith, lt, hi),
  elim (cases_lt g x.first) [
    | inl le ↦ let m : x.first ≡ max x.first g = omega (arith, le) in subst (λ k. IsSome (run_at k (with_run x runs))) m (some_at x runs h)
    | inr ge ↦ let m : g ≡ max x.first g = omega (arith, ge) in subst (λ k. IsSome (run_at k (with_run x runs))) m (kept_at g x runs h b.1)
  ],
  λ q hi i. elim (cases_eq x.first q) [
    | inl e ↦ omega (arith, e)
    | inr ne ↦ let k = b.2 q hi (subst IsSome (at_old q x runs (ne_eqb x.first q ne)) i) in omega (arith, k)
  ],
)

pub below_older : (n : ℕ) (x : Run) (runs : List Run) (o : Option ℕ) → n ≤ x.first → IsLastBelow n runs o → IsLastBelow n (with_run x runs) o
below_older n x runs None le b = λ q hi. at_old q x runs (ne_eqb x.first q (λ e. omega (arith, e, le, hi))) ∙ b q hi
below_older n x runs (Some g) le b = (
  b.0,
  subst IsSome (sym (at_old g x runs (ne_eqb x.first g (λ e. let hi = b.0 in omega (arith, e, le, hi))))) b.1,
  λ q hi i. b.2 q hi (subst IsSome (at_old q x runs (ne_eqb x.first q (λ e. omega (arith, e, le, hi)))) i),
)

pub last_if : (n : ℕ) (x : Run) (runs : List Run) (o : Option ℕ) (t : Bool) → run_at x.first runs ≡ None → IsLastBelow n runs o → t ≡ nat_lt x.first n → IsLastBelow n (with_run x runs) (cond t (Some (most x.first o)) o)
last_if n x runs o true h b e = below_newest n x runs o h (ltb-true x.first n (sym e)) b
last_if n x runs o false h b e = below_older n x runs o (ltb-false x.first n (sym e)) b

-- ---- whole ones

pub all_whole_with : (x : Run) (runs : List Run) → is_whole x ≡ true → AllWhole runs → AllWhole (with_run x runs)
all_whole_with x [] e h = (e, tt)
all_whole_with x (y ∷ later) e h = whole_if (nat_lt x.first y.first) (all_whole_with x later e h.1)
  where
    whole_if : (t : Bool) → AllWhole (with_run x later) → AllWhole (cond t (x ∷ y ∷ later) (y ∷ with_run x later))
    whole_if true k = (e, h)
    whole_if false k = (h.0, k)

or_some : (w v : Bool) (y : Run) (o p : Option Run) → is_some o ≡ (w || is_some p) → is_some (cond v (Some y) o) ≡ (w || is_some (cond v (Some y) p))
or_some true true y o p e = refl
or_some false true y o p e = refl
or_some w false y o p e = e

or_front : (w : Bool) (x : Run) (o : Option Run) → is_some (cond w (Some x) o) ≡ (w || is_some o)
or_front true x o = refl
or_front false x o = refl

pub any_whole_with : (x : Run) (runs : List Run) → is_some (first_of is_whole (with_run x runs)) ≡ (is_whole x || is_some (first_of is_whole runs))
any_whole_with x [] = or_front (is_whole x) x None
any_whole_with x (y ∷ later) = any_if (nat_lt x.first y.first) (any_whole_with x later)
  where
    any_if : (t : Bool) → is_some (first_of is_whole (with_run x later)) ≡ (is_whole x || is_some (first_of is_whole later)) → is_some (first_of is_whole (cond t (x ∷ y ∷ later) (y ∷ with_run x later))) ≡ (is_whole x || is_some (first_of is_whole (y ∷ later)))
    any_if true ih = or_front (is_whole x) x (first_of is_whole (y ∷ later))
    any_if false ih = or_some (is_whole x) (is_whole y) y (first_of is_whole (with_run x later)) (first_of is_whole later) ih

-- one that is whole begins no lower than the runs do
first_low : (low : ℕ) (runs : List Run) (z : Run) → InOrder low runs → first_of is_whole runs ≡ Some z → low ≤ z.first
first_low low [] z h e = absurd cc
first_low low (y ∷ later) z h e = low_if (is_whole y) e (λ f. first_low (y.last + 1) later z h.2 f)
  where
    low_if : (v : Bool) → cond v (Some y) (first_of is_whole later) ≡ Some z → (first_of is_whole later ≡ Some z → y.last + 1 ≤ z.first) → low ≤ z.first
    low_if true f ih = let s : y ≡ z = cc in let k = ap (λ (a : Run). a.first) s in omega (arith, h.0, k)
    low_if false f ih = let k = ih f in omega (arith, h.0, h.1, k)

-- the newest one is the first whole one
pub foremost_one : (x : Run) (runs : List Run) → is_whole x ≡ true → is_before x.first (option_map (λ y. y.first) (first_of is_whole runs)) ≡ true
    → (first_of is_whole (with_run x runs) ≡ Some x) × (without_first is_whole (with_run x runs) ≡ runs)
foremost_one x [] w b = (ap (λ t. cond t (Some x) None) w, ap (λ t. cond t [] (x ∷ [])) w)
foremost_one x (y ∷ later) w b = elim (cases_Bool (nat_lt x.first y.first)) [
  | inl t ↦ (
    ap (λ c. first_of is_whole (cond c (x ∷ y ∷ later) (y ∷ with_run x later))) t ∙ ap (λ c. cond c (Some x) (first_of is_whole (y ∷ later))) w,
    ap (λ c. without_first is_whole (cond c (x ∷ y ∷ later) (y ∷ with_run x later))) t ∙ ap (λ c. cond c (y ∷ later) (x ∷ without_first is_whole (y ∷ later))) w,
  )
  | inr t ↦
      let v = other_if (is_whole y) t b in
      let r = foremost_one x later w v.1 in (
        ap (λ c. first_of is_whole (cond c (x ∷ y ∷ later) (y ∷ with_run x later))) t ∙ (ap (λ c. cond c (Some y) (first_of is_whole (with_run x later))) v.0 ∙ r.0),
        ap (λ c. without_first is_whole (cond c (x ∷ y ∷ later) (y ∷ with_run x later))) t ∙ (ap (λ c. cond c (with_run x later) (y ∷ without_first is_whole (with_run x later))) v.0 ∙ ap (λ (zs : List Run). y ∷ zs) r.1),
      )
]
  where
    other_if : (v : Bool) → nat_lt x.first y.first ≡ false → is_before x.first (option_map (λ y. y.first) (cond v (Some y) (first_of is_whole later))) ≡ true → (v ≡ false) × (is_before x.first (option_map (λ y. y.first) (first_of is_whole later)) ≡ true)
    other_if true t b = let c : true ≡ false = sym b ∙ t in absurd cc
    other_if false t b = (refl, b)

not_both : (w : Bool) (x : Run) (low : ℕ) (later : List Run) → InOrder low later → x.first < low → (w && is_before x.first (option_map (λ y. y.first) (first_of is_whole later))) ≡ false → w ≡ false
not_both false x low later h lt e = refl
not_both true x low later h lt e = before_if (first_of is_whole later) refl e
  where
    before_if : (o : Option Run) → first_of is_whole later ≡ o → is_before x.first (option_map (λ y. y.first) o) ≡ false → true ≡ false
    before_if None f b = b
    before_if (Some z) f b = sym (lt-ltb x.first z.first (let k = first_low low later z h f in omega (arith, k, lt))) ∙ b

-- it isn't
pub foremost_other : (x : Run) (low : ℕ) (runs : List Run) → InOrder low runs → (is_whole x && is_before x.first (option_map (λ y. y.first) (first_of is_whole runs))) ≡ false
    → (first_of is_whole (with_run x runs) ≡ first_of is_whole runs) × (without_first is_whole (with_run x runs) ≡ with_run x (without_first is_whole runs))
foremost_other x low [] h e = none_if (is_whole x) e
  where
    none_if : (w : Bool) → (w && true) ≡ false → (cond w (Some x) None ≡ None) × (cond w [] (x ∷ []) ≡ x ∷ [])
    none_if true e = absurd cc
    none_if false e = (refl, refl)
foremost_other x low (y ∷ later) h e = elim (cases_Bool (nat_lt x.first y.first)) [
  | inl t ↦
      let w = not_both (is_whole x) x y.first (y ∷ later) (omega arith, h.1, h.2) (ltb-true x.first y.first t) e in (
        ap (λ c. first_of is_whole (cond c (x ∷ y ∷ later) (y ∷ with_run x later))) t ∙ ap (λ c. cond c (Some x) (first_of is_whole (y ∷ later))) w,
        ap (λ c. without_first is_whole (cond c (x ∷ y ∷ later) (y ∷ with_run x later))) t ∙ (ap (λ c. cond c (y ∷ later) (x ∷ without_first is_whole (y ∷ later))) w ∙ sym (behind (is_whole y) t)),
      )
  | inr t ↦ later_if (is_whole y) refl t (λ f. foremost_other x (y.last + 1) later h.2 f)
]
  where
    behind : (v : Bool) → nat_lt x.first y.first ≡ true → with_run x (cond v later (y ∷ without_first is_whole later)) ≡ x ∷ cond v later (y ∷ without_first is_whole later)
    behind true t = with_low x (y.last + 1) later h.2 (let lt = ltb-true x.first y.first t in omega (arith, lt, h.1))
    behind false t = ap (λ b. cond b (x ∷ y ∷ without_first is_whole later) (y ∷ with_run x (without_first is_whole later))) t

    later_if : (v : Bool) → is_whole y ≡ v → nat_lt x.first y.first ≡ false
        → ((is_whole x && is_before x.first (option_map (λ y. y.first) (first_of is_whole later))) ≡ false → (first_of is_whole (with_run x later) ≡ first_of is_whole later) × (without_first is_whole (with_run x later) ≡ with_run x (without_first is_whole later)))
        → (first_of is_whole (cond (nat_lt x.first y.first) (x ∷ y ∷ later) (y ∷ with_run x later)) ≡ first_of is_whole (y ∷ later)) × (without_first is_whole (cond (nat_lt x.first y.first) (x ∷ y ∷ later) (y ∷ with_run x later)) ≡ with_run x (without_first is_whole (y ∷ later)))
    later_if true v t ih = (
      ap (λ c. first_of is_whole (cond c (x ∷ y ∷ later) (y ∷ with_run x later))) t ∙ (ap (λ c. cond c (Some y) (first_of is_whole (with_run x later))) v ∙ sym (ap (λ c. cond c (Some y) (first_of is_whole later)) v)),
      ap (λ c. without_first is_whole (cond c (x ∷ y ∷ later) (y ∷ with_run x later))) t ∙ (ap (λ c. cond c (with_run x later) (y ∷ without_first is_whole (with_run x later))) v ∙ sym (ap (λ c. with_run x (cond c later (y ∷ without_first is_whole later))) v)),
    )
    later_if false v t ih =
        let r = ih (sym (ap (λ c. is_whole x && is_before x.first (option_map (λ y. y.first) (cond c (Some y) (first_of is_whole later)))) v) ∙ e) in (
          ap (λ c. first_of is_whole (cond c (x ∷ y ∷ later) (y ∷ with_run x later))) t ∙ (ap (λ c. cond c (Some y) (first_of is_whole (with_run x later))) v ∙ (r.0 ∙ sym (ap (λ c. cond c (Some y) (first_of is_whole later)) v))),
          ap (λ c. without_first is_whole (cond c (x ∷ y ∷ later) (y ∷ with_run x later))) t ∙ (ap (λ c. cond c (with_run x later) (y ∷ without_first is_whole (with_run x later))) v
              ∙ (ap (λ (zs : List Run). y ∷ zs) r.1 ∙ sym (ap (λ c. with_run x (cond c later (y ∷ without_first is_whole later))) v ∙ ap (λ b. cond b (x ∷ y ∷ without_first is_whole later) (y ∷ with_run x (without_first is_whole later))) t))),
        )

pub take_newest : (o : Option Run) (runs : List Run) → is_foremost (option_map (λ y. y.first) (first_of is_whole runs)) o ≡ true → (first_of is_whole (with_newest o runs) ≡ o) × (without_first is_whole (with_newest o runs) ≡ runs)
take_newest None runs e = absurd cc
take_newest (Some x) runs e = let p = and_both (is_whole x) (is_before x.first (option_map (λ y. y.first) (first_of is_whole runs))) e in foremost_one x runs p.0 p.1
  where
    and_both : (a b : Bool) → (a && b) ≡ true → (a ≡ true) × (b ≡ true)
    and_both true b e = (refl, e)
    and_both false b e = absurd cc

pub take_older : (o : Option Run) (runs : List Run) → InOrder 0 (with_newest o runs) → is_foremost (option_map (λ y. y.first) (first_of is_whole runs)) o ≡ false
    → (first_of is_whole (with_newest o runs) ≡ first_of is_whole runs) × (without_first is_whole (with_newest o runs) ≡ with_newest o (without_first is_whole runs))
take_older None runs h e = (refl, refl)
take_older (Some x) runs h e = foremost_other x 0 runs (older_order x 0 runs h) e

none_first : (n : ℕ) (runs : List Run) → run_at n runs ≡ None → run_at n (without_first is_whole runs) ≡ None
none_first n [] h = refl
none_first n (y ∷ later) h =
    let a = absent (y.first == n) y (run_at n later) h in
    first_if (is_whole y) a.0 a.1 (none_first n later a.1)
  where
    first_if : (v : Bool) → (y.first == n) ≡ false → run_at n later ≡ None → run_at n (without_first is_whole later) ≡ None → run_at n (cond v later (y ∷ without_first is_whole later)) ≡ None
    first_if true s k ih = k
    first_if false s k ih = ap (λ b. cond b (Some y) (run_at n (without_first is_whole later))) s ∙ ih

pub newest_first : (o : Option Run) (runs : List Run) → IsNewest o runs → IsNewest o (without_first is_whole runs)
newest_first None runs h = tt
newest_first (Some x) runs h = none_first x.first runs h

-- ---- sums

pub near_older : (through : ℕ) (x : Run) (runs : List Run) → AllEndNear through (with_run x runs) → AllEndNear through runs
near_older through x [] h = tt
near_older through x (y ∷ later) h = near_if (nat_lt x.first y.first) h (λ k. near_older through x later k)
  where
    near_if : (t : Bool) → AllEndNear through (cond t (x ∷ y ∷ later) (y ∷ with_run x later)) → (AllEndNear through (with_run x later) → AllEndNear through later) → AllEndNear through (y ∷ later)
    near_if true h ih = h.1
    near_if false h ih = (h.0, ih h.1)

pub older_few : (more : ℕ) (o : Option Run) (runs : List Run) → held_in (with_newest o runs) + more < 2 ^ 32 → held_in runs + more < 2 ^ 32
older_few more None runs h = h
older_few more (Some x) runs h = omega (arith, h, sum_with (λ (y : Run). length y.bytes) x runs)

-- ---- what the calls ask

pub near_newest : (through : ℕ) (o : Option Run) (runs : List Run) → AllEndNear through (with_newest o runs) → AllEndNear through runs
near_newest through None runs h = h
near_newest through (Some x) runs h = near_older through x runs h

pub lt_le : (a b : ℕ) → nat_lt a b ≡ nat_le (a + 1) b
lt_le a b = elim (cases_lt a b) [
  | inl lt ↦ lt-ltb a b lt ∙ sym (le-leb (a + 1) b (omega (arith, lt)))
  | inr ge ↦ le-ltb a b ge ∙ sym (lt-leb (a + 1) b (omega (arith, ge)))
]

pub first_among : (n : ℕ) (o : Option Run) (x : Run) (older now : List Run) (r q : Option ℕ) (t : Bool) (k : ℕ) → o ≡ Some x → with_newest o older ≡ now → IsNewest o older → IsFirstFrom n older q → t ≡ nat_le n x.first → k ≡ x.first
    → r ≡ cond t (Some (least k q)) q → IsFirstFrom n now r
first_among n o x older now r q t k e v h b te ke re =
    let w : now ≡ with_run x older = sym v ∙ ap (λ (p : Option Run). with_newest p older) e in
    let g = first_if n x older q t (subst (λ (p : Option Run). IsNewest p older) e h) b te in
    subst (λ s. IsFirstFrom n now s) (sym (re ∙ ap (λ j. cond t (Some (least j q)) q) ke)) (subst (λ (rs : List Run). IsFirstFrom n rs (cond t (Some (least x.first q)) q)) (sym w) g)

pub last_among : (n : ℕ) (o : Option Run) (x : Run) (older now : List Run) (r q : Option ℕ) (t : Bool) (k : ℕ) → o ≡ Some x → with_newest o older ≡ now → IsNewest o older → IsLastBelow n older q → t ≡ nat_lt x.first n → k ≡ x.first
    → r ≡ cond t (Some (most k q)) q → IsLastBelow n now r
last_among n o x older now r q t k e v h b te ke re =
    let w : now ≡ with_run x older = sym v ∙ ap (λ (p : Option Run). with_newest p older) e in
    let g = last_if n x older q t (subst (λ (p : Option Run). IsNewest p older) e h) b te in
    subst (λ s. IsLastBelow n now s) (sym (re ∙ ap (λ j. cond t (Some (most j q)) q) ke)) (subst (λ (rs : List Run). IsLastBelow n rs (cond t (Some (most x.first q)) q)) (sym w) g)

-- whether an older run was appended to or not
pub either : {T E : Type 0} (r : Result T E) (f : Run → Run) (n : ℕ) (o : Option Run) (old new : List Run) → ((y : Run) → (f y).first ≡ y.first) → IsNewest o old → begins n o ≡ false → OnOk r (new ≡ changed_run f n old) → OnErr r (new ≡ old) → IsNewest o new
either (Ok v) f n o old new k h e a b = subst (IsNewest o) (sym a) (older_changed f n o old k h e)
either (Err v) f n o old new k h e a b = subst (IsNewest o) (sym b) h

-- a run whose number no other one has lies in their order
pub order_with : (x : Run) (low : ℕ) (runs : List Run) → x.first ≡ x.last → low ≤ x.first → IsFree x.first runs → InOrder low runs → InOrder low (with_run x runs)
order_with x low [] s le f h = (le, omega (arith, s), tt)
order_with x low (y ∷ later) s le f h = elim (cases_lt x.first y.first) [
  | inl lt ↦ subst (InOrder low) (sym (ap (λ t. cond t (x ∷ y ∷ later) (y ∷ with_run x later)) (lt-ltb x.first y.first lt))) (le, omega (arith, s), (omega (arith, s, lt), h.1, h.2))
  | inr ge ↦
      let up : y.last < x.first = elim (cases_lt y.last x.first) [ inl lt ↦ lt | inr k ↦ absurd (f.0 ge k) ] in
      subst (InOrder low) (sym (ap (λ t. cond t (x ∷ y ∷ later) (y ∷ with_run x later)) (le-ltb x.first y.first ge))) (h.0, h.1, order_with x (y.last + 1) later s (omega (arith, up)) f.1 h.2)
]

-- the number of the first whole run
pub whole_first : (runs : List Run) → slice_get (whole_firsts runs) 0 ≡ option_map (λ y. y.first) (first_of is_whole runs)
whole_first [] = refl
whole_first (y ∷ later) = number_if (is_whole y) (whole_first later)
  where
    number_if : (v : Bool) → slice_get (whole_firsts later) 0 ≡ option_map (λ y. y.first) (first_of is_whole later) → slice_get (cond v (y.first ∷ whole_firsts later) (whole_firsts later)) 0 ≡ option_map (λ y. y.first) (cond v (Some y) (first_of is_whole later))
    number_if true ih = refl
    number_if false ih = ih
