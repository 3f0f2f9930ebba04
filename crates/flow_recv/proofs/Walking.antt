-- A walk over the runs near some numbers.
use Rattle.std.proofs.Common.{◌≡◌, ℕ, ◌+◌, ◌-◌, ◌<◌, ◌≤◌, ◌^◌, nat_le, nat_lt, ◌==◌, cond, not, Bool, true, false, ◌&&◌, ◌||◌, List, [], ◌∷◌, length, Option, Some, None, refl, ap, sym, ◌∙◌, subst, arith, inl, inr}
use Rattle.std.specs.List.{filter}
use Rattle.std.proofs.lemmas.Bool.{cases_Bool, cases_lt, le-leb, lt-leb, le-ltb, lt-ltb, leb-false, ne_eqb, eqb-true, eq-eqb}
use Rattle.std.proofs.lemmas.List.Sums.{sum_by-cons}
use Rattle.rtmfp_data_chunks.specs.HandsOver.{IsIn}
use Rattle.rtmfp_data_chunks.proofs.Filtering.{filter_same, filter_all, filter_twice, in_filter}
use Rattle.flow_recv.specs.declared.spans.Span.{Span}
use Rattle.rtmfp_data_chunks.specs.Runs.{Run}
use Rattle.flow_recv.specs.Receiver.{held_in, is_alive}
use Rattle.flow_recv.specs.Order.{InOrder}
use Rattle.flow_recv.specs.Keyed.{run_at, without_run, IsFirstFrom, IsLastBelow, stays, stays_at, dead_bytes, is_left, Reaches}
use Rattle.flow_recv.proofs.Placing.{in_at, in_apart, in_low, at_in, at_eq, has_run, is_some, here_at, skip_at}

-- the numbers that a walk has before it
abbrev pub left_numbers : Option ℕ → ℕ
left_numbers None = 0
left_numbers (Some f) = 2 ^ 64 - f

-- ---- where it begins

pub reach_below : (low : ℕ) (runs : List Run) (f : ℕ) → InOrder 0 runs → IsLastBelow low runs (Some f) → Reaches low runs (Some f)
reach_below low runs f h b = λ y i e.
    let lt : y.first < f = leb-false f y.first e in
    let z = has_run (run_at f runs) b.1 in
    let g = at_in f runs z.0 z.1 in
    let q = in_apart 0 runs y z.0 h i g.0 (omega (arith, lt, g.1)) in
    let s = b.0 in omega (arith, q, g.1, s)

reach_none_if : (low : ℕ) (runs : List Run) (o : Option ℕ) (y : Run) → IsFirstFrom low runs o → low ≤ y.first → run_at y.first runs ≡ Some y → is_left o y ≡ true
reach_none_if low runs None y b le e = let n : None ≡ Some y = sym (b y.first le) ∙ e in absurd cc
reach_none_if low runs (Some g) y b le e = le-leb g y.first (b.2 y.first le (is_some (run_at y.first runs) y e))

pub reach_none : (low : ℕ) (runs : List Run) (o : Option ℕ) → InOrder 0 runs → IsLastBelow low runs None → IsFirstFrom low runs o → Reaches low runs o
reach_none low runs o h b c = λ y i e.
    let at = in_at 0 runs y h i in
    elim (cases_lt y.first low) [
      | inl lt ↦ let n : None ≡ Some y = sym (b y.first lt) ∙ at in absurd cc
      | inr le ↦ let t : true ≡ false = sym (reach_none_if low runs o y c le at) ∙ e in absurd cc
    ]

out_low : (spans : List Span) (low high : ℕ) (y : Run) → y.last + 1 < low → stays spans low high y ≡ true
out_low spans low high y lt = ap (λ t. not (nat_le (y.first - 1) high && t) || is_alive spans y) (lt-leb low (y.last + 1) lt) ∙ out_if (nat_le (y.first - 1) high)
  where
    out_if : (t : Bool) → (not (t && false) || is_alive spans y) ≡ true
    out_if true = refl
    out_if false = refl

or_left : (a b : Bool) → a ≡ true → (a || b) ≡ true
or_left true b e = refl
or_left false b e = absurd cc

or_right : (a b : Bool) → b ≡ true → (a || b) ≡ true
or_right true b e = refl
or_right false b e = e

-- a walk that has passed nothing yet
pub walk_begins : (spans : List Span) (low high : ℕ) (runs : List Run) (next : Option ℕ) → Reaches low runs next → filter (λ y. is_left next y || stays spans low high y) runs ≡ runs
walk_begins spans low high runs next r = filter_all (λ y. is_left next y || stays spans low high y) runs (λ y i. elim (cases_Bool (is_left next y)) [
  | inl t ↦ or_left (is_left next y) (stays spans low high y) t
  | inr f ↦ or_right (is_left next y) (stays spans low high y) (out_low spans low high y (r y i f))
])

-- ---- one step

-- what lies after a step
abbrev pub Goes : ℕ → (Run → Bool) → List Run → Option ℕ → Type 0
Goes f test runs next = (y : Run) → IsIn y runs → test y ≡ false → is_left next y ≡ nat_lt f y.first

goes_if : (f : ℕ) (runs : List Run) (next : Option ℕ) (y : Run) → IsFirstFrom (f + 1) runs next → (f < y.first → run_at y.first runs ≡ Some y) → is_left next y ≡ nat_lt f y.first
goes_if f runs None y b at = elim (cases_lt f y.first) [
  | inl lt ↦ let n : None ≡ Some y = sym (b y.first (omega (arith, lt))) ∙ at lt in absurd cc
  | inr ge ↦ sym (le-ltb f y.first ge)
]
goes_if f runs (Some g) y b at = elim (cases_lt f y.first) [
  | inl lt ↦ le-leb g y.first (b.2 y.first (omega (arith, lt)) (is_some (run_at y.first runs) y (at lt))) ∙ sym (lt-ltb f y.first lt)
  | inr ge ↦ let lo = b.0 in lt-leb g y.first (omega (arith, ge, lo)) ∙ sym (le-ltb f y.first ge)
]

pub goes_all : (f : ℕ) (test : Run → Bool) (runs : List Run) (next : Option ℕ) → InOrder 0 runs → IsFirstFrom (f + 1) runs next → Goes f test runs next
goes_all f test runs next h b = λ y i e. goes_if f runs next y b (λ lt. in_at 0 runs y h i)

and_true : (a b : Bool) → a ≡ true → b ≡ true → (a && b) ≡ true
and_true true b e f = f
and_true false b e f = absurd cc

step_if : (f : ℕ) (y : Run) (t n : Bool) → (t ≡ false → n ≡ nat_lt f y.first) → ((nat_le f y.first || t) && (not (y.first == f) || t)) ≡ (n || t)
step_if f y true n h = and_true (nat_le f y.first || true) (not (y.first == f) || true) (or_right (nat_le f y.first) true refl) (or_right (not (y.first == f)) true refl) ∙ sym (or_right n true refl)
step_if f y false n h = elim (cases_lt f y.first) [
  | inl lt ↦ rw (le-leb f y.first (omega (arith, lt)), ne_eqb y.first f (λ e. omega (arith, e, lt))) (sym (or_left n false (h refl ∙ lt-ltb f y.first lt)))
  | inr ge ↦ low_if ge
]
  where
    low_if : y.first ≤ f → ((nat_le f y.first || false) && (not (y.first == f) || false)) ≡ (n || false)
    low_if ge = elim (cases_lt y.first f) [
      | inl lt ↦ rw (lt-leb f y.first lt, h refl, le-ltb f y.first ge) refl
      | inr le ↦ rw (le-leb f y.first le, eq-eqb y.first f (omega (arith, ge, le)), h refl, le-ltb f y.first ge) refl
    ]

pub walk_step : (f : ℕ) (test : Run → Bool) (runs : List Run) (next : Option ℕ) → Goes f test runs next
    → filter (λ y. not (y.first == f) || test y) (filter (λ y. is_left (Some f) y || test y) runs) ≡ filter (λ y. is_left next y || test y) runs
walk_step f test runs next g =
    filter_twice (λ y. is_left (Some f) y || test y) (λ y. not (y.first == f) || test y) runs
    ∙ filter_same (λ y. (is_left (Some f) y || test y) && (not (y.first == f) || test y)) (λ y. is_left next y || test y) runs (λ y i. step_if f y (test y) (is_left next y) (g y i))

-- what lies after a step that has dropped the others
pub goes_left : (f : ℕ) (test : Run → Bool) (old new : List Run) (next : Option ℕ) → InOrder 0 old → InOrder 0 new → new ≡ filter (λ y. not (y.first == f) || test y) (filter (λ y. is_left (Some f) y || test y) old)
    → IsFirstFrom (f + 1) new next → Goes f test old next
goes_left f test old new next h k e b = λ y i t. goes_if f new next y b (λ lt.
    let p : (nat_le f y.first || test y) ≡ true = or_left (nat_le f y.first) (test y) (le-leb f y.first (omega (arith, lt))) in
    let q : (not (y.first == f) || test y) ≡ true = or_left (not (y.first == f)) (test y) (ap not (ne_eqb y.first f (λ s. omega (arith, s, lt)))) in
    let j = in_filter (λ z. not (z.first == f) || test z) (filter (λ z. is_left (Some f) z || test z) old) y (in_filter (λ z. is_left (Some f) z || test z) old y i p) q in
    in_at 0 new y k (subst (λ (zs : List Run). IsIn y zs) (sym e) j))

-- ---- one run

pub without_is : (test : Run → Bool) (f low : ℕ) (runs : List Run) (r : Run) → InOrder low runs → run_at f runs ≡ Some r → test r ≡ false → without_run f runs ≡ filter (λ y. not (y.first == f) || test y) runs
without_is test f low [] r h e t = absurd cc
without_is test f low (y ∷ later) r h e t = elim (cases_Bool (y.first == f)) [
  | inl s ↦
      let same : y ≡ r = here_at f y r later s e in
      let n : (not (y.first == f) || test y) ≡ false = rw s (ap test same ∙ t) in
      let m = eqb-true y.first f s in
      ap (λ b. cond b later (y ∷ without_run f later)) s
      ∙ (sym (filter_all (λ z. not (z.first == f) || test z) later (λ z i. let l = in_low (y.last + 1) later z h.2 i in or_left (not (z.first == f)) (test z) (ap not (ne_eqb z.first f (λ q. omega (arith, q, l.0, m, h.1))))))
      ∙ sym (ap (λ b. cond b (y ∷ filter (λ z. not (z.first == f) || test z) later) (filter (λ z. not (z.first == f) || test z) later)) n))
  | inr n ↦
      let k : (not (y.first == f) || test y) ≡ true = or_left (not (y.first == f)) (test y) (ap not n) in
      ap (λ b. cond b later (y ∷ without_run f later)) n
      ∙ (ap (λ zs. y ∷ zs) (without_is test f (y.last + 1) later r h.2 (sym (skip_at f y later n) ∙ e) t)
      ∙ sym (ap (λ b. cond b (y ∷ filter (λ z. not (z.first == f) || test z) later) (filter (λ z. not (z.first == f) || test z) later)) k))
]

pub held_without : (f : ℕ) (runs : List Run) (r : Run) → run_at f runs ≡ Some r → held_in (without_run f runs) + length r.bytes ≡ held_in runs
held_without f [] r e = absurd cc
held_without f (y ∷ later) r e = elim (cases_Bool (y.first == f)) [
  | inl s ↦
      let same = ap (λ (z : Run). length z.bytes) (here_at f y r later s e) in
      let w = ap (λ (zs : List Run). held_in zs) (ap (λ b. cond b later (y ∷ without_run f later)) s) in
      omega (arith, w, same, sum_by-cons (λ (z : Run). length z.bytes) y later)
  | inr n ↦
      let ih = held_without f later r (sym (skip_at f y later n) ∙ e) in
      let w = ap (λ (zs : List Run). held_in zs) (ap (λ b. cond b later (y ∷ without_run f later)) n) in
      omega (arith, w, ih, sum_by-cons (λ (z : Run). length z.bytes) y later, sum_by-cons (λ (z : Run). length z.bytes) y (without_run f later))
]

pub all_stay : (test : Run → Bool) (f : ℕ) (runs : List Run) → InOrder 0 runs → ((y : Run) → run_at f runs ≡ Some y → test y ≡ true) → filter (λ y. not (y.first == f) || test y) runs ≡ runs
all_stay test f runs h t = filter_all (λ y. not (y.first == f) || test y) runs (λ y i. elim (cases_Bool (y.first == f)) [
  | inl s ↦ or_right (not (y.first == f)) (test y) (t y (ap (λ m. run_at m runs) (sym (eqb-true y.first f s)) ∙ in_at 0 runs y h i))
  | inr n ↦ or_left (not (y.first == f)) (test y) (ap not n)
])

pub stays_there : (spans : List Span) (low high f : ℕ) (runs : List Run) → stays_at spans low high (run_at f runs) ≡ true → (y : Run) → run_at f runs ≡ Some y → stays spans low high y ≡ true
stays_there spans low high f runs e y s = sym (ap (stays_at spans low high) s) ∙ e

held_if : (test : Run → Bool) (f : ℕ) (runs : List Run) (o : Option Run) → InOrder 0 runs → run_at f runs ≡ o → held_in (filter (λ y. not (y.first == f) || test y) runs) + dead_bytes test o ≡ held_in runs
held_if test f runs None h e =
    let s = ap (λ (zs : List Run). held_in zs) (all_stay test f runs h (λ y q. let n : None ≡ Some y = sym e ∙ q in absurd cc)) in
    let g : held_in (filter (λ y. not (y.first == f) || test y) runs) + 0 ≡ held_in runs = omega (arith, s) in g
held_if test f runs (Some r) h e = elim (cases_Bool (test r)) [
  | inl t ↦
      let s = ap (λ (zs : List Run). held_in zs) (all_stay test f runs h (λ y q. ap test (at_eq f runs y r q e) ∙ t)) in
      let n : dead_bytes test (Some r) ≡ 0 = ap (λ b. cond b 0 (length r.bytes)) t in
      omega (arith, s, n)
  | inr u ↦
      let s = ap (λ (zs : List Run). held_in zs) (without_is test f 0 runs r h e u) in
      let n : dead_bytes test (Some r) ≡ length r.bytes = ap (λ b. cond b 0 (length r.bytes)) u in
      omega (arith, s, n, held_without f runs r e)
]

pub held_step : (test : Run → Bool) (f : ℕ) (runs : List Run) → InOrder 0 runs → held_in (filter (λ y. not (y.first == f) || test y) runs) + dead_bytes test (run_at f runs) ≡ held_in runs
held_step test f runs h = held_if test f runs (run_at f runs) h refl

at_filter_if : (p : Run → Bool) (f : ℕ) (y : Run) (later : List Run) (s t : Bool) → (y.first == f) ≡ s → p y ≡ t → (s ≡ true → t ≡ true) → run_at f (filter p later) ≡ run_at f later
    → run_at f (cond t (y ∷ filter p later) (filter p later)) ≡ cond s (Some y) (run_at f later)
at_filter_if p f y later true true e g h ih = ap (λ b. cond b (Some y) (run_at f (filter p later))) e
at_filter_if p f y later true false e g h ih = let n : false ≡ true = h refl in absurd cc
at_filter_if p f y later false true e g h ih = ap (λ b. cond b (Some y) (run_at f (filter p later))) e ∙ ih
at_filter_if p f y later false false e g h ih = ih

pub at_filter : (p : Run → Bool) (f : ℕ) (runs : List Run) → ((y : Run) → (y.first == f) ≡ true → p y ≡ true) → run_at f (filter p runs) ≡ run_at f runs
at_filter p f [] h = refl
at_filter p f (y ∷ later) h = at_filter_if p f y later (y.first == f) (p y) refl refl (h y) (at_filter p f later h)

-- the bytes that a step counts
pub bytes_step : (test : Run → Bool) (f : ℕ) (runs : List Run) (next : Option ℕ) → InOrder 0 runs → InOrder 0 (filter (λ y. is_left (Some f) y || test y) runs) → Goes f test runs next
    → held_in (filter (λ y. is_left next y || test y) runs) + dead_bytes test (run_at f runs) ≡ held_in (filter (λ y. is_left (Some f) y || test y) runs)
bytes_step test f runs next h k g =
    let xs = filter (λ y. is_left (Some f) y || test y) runs in
    let at = at_filter (λ y. is_left (Some f) y || test y) f runs (λ y e. or_left (nat_le f y.first) (test y) (le-leb f y.first (let m = eqb-true y.first f e in omega (arith, m)))) in
    let s = held_step test f xs k in
    let a = ap (dead_bytes test) at in
    let w = ap (λ (zs : List Run). held_in zs) (walk_step f test runs next g) in
    omega (arith, s, a, w)
