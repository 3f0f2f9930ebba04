-- Runs stay in order, and what they have stays known.
use Rattle.std.proofs.Common.{◌≡◌, ℕ, ◌+◌, ◌<◌, ◌≤◌, nat_lt, nat_le, ◌==◌, cond, not, Bool, true, false, ◌&&◌, ◌||◌, List, [], ◌∷◌, length, refl, ap, sym, ◌∙◌, subst, arith, inl, inr, length-append}
use Rattle.std.specs.List.{filter}
use Rattle.std.proofs.lemmas.Bool.{cases_lt, ltb-true, ltb-false}
use Rattle.std.proofs.lemmas.List.Sums.{sum_by-cons}
use Rattle.flow_recv.specs.declared.spans.Span.{Span}
use Rattle.rtmfp_data_chunks.specs.Runs.{Chunk, Run, single, fits, joined}
use Rattle.flow_recv.specs.Receiver.{Receiver, knows, lacks, is_alive, held_in, join_next, join_before, add_run, holds, spans_after, runs_after, may_hand, without_first}
use Rattle.flow_recv.specs.Order.{InOrder, AllKnown}
use Rattle.flow_recv.proofs.Bounds.{fits_parts}
use Rattle.flow_recv.proofs.Knowing.{Formed, lacks_after}

-- ---- bytes

one_more : (x : Run) (ys : List Run) → held_in (x ∷ ys) ≡ length x.bytes + held_in ys
one_more x ys = sum_by-cons (λ (z : Run). length z.bytes) x ys

next_if : (x y : Run) (later : List Run) (t : Bool) → held_in (cond t (joined x y ∷ later) (x ∷ y ∷ later)) ≡ held_in (y ∷ later) + length x.bytes
next_if x y later true = let e : held_in (joined x y ∷ later) ≡ held_in (y ∷ later) + length x.bytes = omega (arith, one_more (joined x y) later, one_more y later, length-append x.bytes y.bytes) in e
next_if x y later false = let e : held_in (x ∷ y ∷ later) ≡ held_in (y ∷ later) + length x.bytes = omega (arith, one_more x (y ∷ later)) in e

held_next : (x : Run) (runs : List Run) → held_in (join_next x runs) ≡ held_in runs + length x.bytes
held_next x [] = omega (arith, one_more x [])
held_next x (y ∷ later) = next_if x y later (fits x y)

before_if : (x y : Run) (later : List Run) (t : Bool) → held_in (cond t (join_next (joined y x) later) (join_next x (y ∷ later))) ≡ held_in (y ∷ later) + length x.bytes
before_if x y later true =
    let e : held_in (join_next (joined y x) later) ≡ held_in (y ∷ later) + length x.bytes = omega (arith, held_next (joined y x) later, one_more y later, length-append y.bytes x.bytes) in e
before_if x y later false = held_next x (y ∷ later)

add_if : (x y : Run) (later : List Run) (t : Bool) → held_in (add_run x later) ≡ held_in later + length x.bytes
    → held_in (cond t (y ∷ add_run x later) (join_before x (y ∷ later))) ≡ held_in (y ∷ later) + length x.bytes
add_if x y later true ih =
    let e : held_in (y ∷ add_run x later) ≡ held_in (y ∷ later) + length x.bytes = omega (arith, ih, one_more y (add_run x later), one_more y later) in e
add_if x y later false ih = before_if x y later (fits y x)

-- a fragment more is held
pub held_add : (x : Run) (runs : List Run) → held_in (add_run x runs) ≡ held_in runs + length x.bytes
held_add x [] = omega (arith, one_more x [])
held_add x (y ∷ later) = add_if x y later (not (fits y x) && nat_lt y.last x.first) (held_add x later)

-- ---- order

pub lower : (a b : ℕ) (runs : List Run) → a ≤ b → InOrder b runs → InOrder a runs
lower a b [] le h = tt
lower a b (y ∷ later) le h = (omega (arith, le, h.0), h.1, h.2)

not_known : (a : List Span) (n m : ℕ) → lacks a n ≡ true → knows a m ≡ true → n ≡ m → ⊥
not_known a n m e k f =
    let g : knows a n ≡ true = ap (knows a) f ∙ k in
    let h : false ≡ true = sym (ap not g) ∙ e in cc

-- no run has a number that is missing
past : (a : List Span) (n : ℕ) (runs : List Run) → lacks a n ≡ true → AllKnown a runs → InOrder n runs → InOrder (n + 1) runs
past a n [] e k h = tt
past a n (y ∷ later) e k h = elim (cases_lt n y.first) [
  | inl lt ↦ (omega (arith, lt), h.1, h.2)
  | inr le ↦
      let lo : y.first ≤ n = le in
      let hi : n ≤ y.last = omega (arith, h.0, h.1, le) in
      absurd (not_known a n n e (k.0 n lo hi) refl)
]

order_next_if : (low : ℕ) (x y : Run) (later : List Run) (t : Bool) → fits x y ≡ t → low ≤ x.first → x.first ≤ x.last → InOrder (x.last + 1) (y ∷ later) → InOrder low (cond t (joined x y ∷ later) (x ∷ y ∷ later))
order_next_if low x y later true e lo up h = (lo, omega (arith, up, h.0, h.1), h.2)
order_next_if low x y later false e lo up h = (lo, up, h)

order_next : (low : ℕ) (x : Run) (runs : List Run) → low ≤ x.first → x.first ≤ x.last → InOrder (x.last + 1) runs → InOrder low (join_next x runs)
order_next low x [] lo up h = (lo, up, tt)
order_next low x (y ∷ later) lo up h = order_next_if low x y later (fits x y) refl lo up h

go_if : (f : Bool) (l n : ℕ) → (not f && nat_lt l n) ≡ true → l < n
go_if true l n g = absurd cc
go_if false l n g = let k : nat_lt l n ≡ true = g in ltb-true l n k

order_before_if : (a : List Span) (low n : ℕ) (x y : Run) (later : List Run) (t : Bool) → fits y x ≡ t → lacks a n ≡ true → x.first ≡ n → x.last ≡ n → low ≤ n → (not t && nat_lt y.last n) ≡ false
    → AllKnown a (y ∷ later) → InOrder low (y ∷ later) → InOrder low (cond t (join_next (joined y x) later) (join_next x (y ∷ later)))
order_before_if a low n x y later true e lack f l lo s k h =
    let p = fits_parts y x e in
    let i : InOrder n later = lower n (y.last + 1) later (omega (arith, p.0, f)) h.2 in
    order_next low (joined y x) later h.0 (omega (arith, h.1, p.0, f, l)) (subst (λ (m : ℕ). InOrder (m + 1) later) (sym l) (past a n later lack k.1 i))
order_before_if a low n x y later false e lack f l lo s k h =
    let hi : n ≤ y.last = let g : nat_lt y.last n ≡ false = s in ltb-false y.last n g in
    let before : n < y.first = elim (cases_lt n y.first) [ inl lt ↦ lt | inr le ↦ absurd (not_known a n n lack (k.0 n le hi) refl) ] in
    order_next low x (y ∷ later) (omega (arith, f, lo)) (omega (arith, f, l)) (omega (arith, l, before), h.1, h.2)

order_add_if : (a : List Span) (low n : ℕ) (x y : Run) (later : List Run) (t : Bool) → (not (fits y x) && nat_lt y.last x.first) ≡ t → lacks a n ≡ true → x.first ≡ n → x.last ≡ n → low ≤ n
    → AllKnown a (y ∷ later) → InOrder low (y ∷ later) → (y.last + 1 ≤ n → InOrder (y.last + 1) (add_run x later)) → InOrder low (cond t (y ∷ add_run x later) (join_before x (y ∷ later)))
order_add_if a low n x y later true e lack f l lo k h ih = (h.0, h.1, ih (omega (arith, go_if (fits y x) y.last x.first e, f)))
order_add_if a low n x y later false e lack f l lo k h ih =
    order_before_if a low n x y later (fits y x) refl lack f l lo (subst (λ (m : ℕ). (not (fits y x) && nat_lt y.last m) ≡ false) f e) k h

pub order_add : (a : List Span) (low n : ℕ) (x : Run) (runs : List Run) → lacks a n ≡ true → x.first ≡ n → x.last ≡ n → low ≤ n → AllKnown a runs → InOrder low runs → InOrder low (add_run x runs)
order_add a low n x [] lack f l lo k h = (omega (arith, f, lo), omega (arith, f, l), tt)
order_add a low n x (y ∷ later) lack f l lo k h =
    order_add_if a low n x y later (not (fits y x) && nat_lt y.last x.first) refl lack f l lo k h (λ le. order_add a (y.last + 1) n x later lack f l le k.1 h.2)

filter_if : (low : ℕ) (y : Run) (later zs : List Run) (t : Bool) → InOrder low (y ∷ later) → InOrder (y.last + 1) zs → InOrder low (cond t (y ∷ zs) zs)
filter_if low y later zs true h i = (h.0, h.1, i)
filter_if low y later zs false h i = lower low (y.last + 1) zs (omega (arith, h.0, h.1)) i

pub order_filter : (test : Run → Bool) (low : ℕ) (runs : List Run) → InOrder low runs → InOrder low (filter test runs)
order_filter test low [] h = tt
order_filter test low (y ∷ later) h = filter_if low y later (filter test later) (test y) h (order_filter test (y.last + 1) later h.2)

without_if : (low : ℕ) (y : Run) (later zs : List Run) (t : Bool) → InOrder low (y ∷ later) → InOrder (y.last + 1) zs → InOrder low (cond t later (y ∷ zs))
without_if low y later zs true h i = lower low (y.last + 1) later (omega (arith, h.0, h.1)) h.2
without_if low y later zs false h i = (h.0, h.1, i)

pub order_without : (test : Run → Bool) (low : ℕ) (runs : List Run) → InOrder low runs → InOrder low (without_first test runs)
order_without test low [] h = tt
order_without test low (y ∷ later) h = without_if low y later (without_first test later) (test y) h (order_without test (y.last + 1) later h.2)

-- ---- what they have

-- b knows what a knows
abbrev pub Knows_all : List Span → List Span → Type 0
Knows_all b a = (n : ℕ) → knows a n ≡ true → knows b n ≡ true

known_all : (a b : List Span) (runs : List Run) → Knows_all b a → AllKnown a runs → AllKnown b runs
known_all a b [] m k = tt
known_all a b (y ∷ later) m k = (λ n lo hi. m n (k.0 n lo hi), known_all a b later m k.1)

known_next_if : (b : List Span) (x y : Run) (later : List Run) (t : Bool) → fits x y ≡ t → ((n : ℕ) → x.first ≤ n → n ≤ x.last → knows b n ≡ true) → AllKnown b (y ∷ later) → AllKnown b (cond t (joined x y ∷ later) (x ∷ y ∷ later))
known_next_if b x y later true e j k =
    let p = fits_parts x y e in (
      λ n lo hi. elim (cases_lt x.last n) [ inl lt ↦ k.0 n (omega (arith, lt, p.0)) hi | inr le ↦ j n lo le ],
      k.1,
    )
known_next_if b x y later false e j k = (j, k)

known_next : (b : List Span) (x : Run) (runs : List Run) → ((n : ℕ) → x.first ≤ n → n ≤ x.last → knows b n ≡ true) → AllKnown b runs → AllKnown b (join_next x runs)
known_next b x [] j k = (j, tt)
known_next b x (y ∷ later) j k = known_next_if b x y later (fits x y) refl j k

known_before_if : (b : List Span) (x y : Run) (later : List Run) (t : Bool) → fits y x ≡ t → ((n : ℕ) → x.first ≤ n → n ≤ x.last → knows b n ≡ true) → AllKnown b (y ∷ later)
    → AllKnown b (cond t (join_next (joined y x) later) (join_next x (y ∷ later)))
known_before_if b x y later true e j k =
    let p = fits_parts y x e in
    known_next b (joined y x) later (λ n lo hi. elim (cases_lt y.last n) [ inl lt ↦ j n (omega (arith, lt, p.0)) hi | inr le ↦ k.0 n lo le ]) k.1
known_before_if b x y later false e j k = known_next b x (y ∷ later) j k

known_add_if : (b : List Span) (x y : Run) (later : List Run) (t : Bool) → ((n : ℕ) → x.first ≤ n → n ≤ x.last → knows b n ≡ true) → AllKnown b (y ∷ later) → AllKnown b (add_run x later)
    → AllKnown b (cond t (y ∷ add_run x later) (join_before x (y ∷ later)))
known_add_if b x y later true j k ih = (k.0, ih)
known_add_if b x y later false j k ih = known_before_if b x y later (fits y x) refl j k

known_add : (b : List Span) (x : Run) (runs : List Run) → ((n : ℕ) → x.first ≤ n → n ≤ x.last → knows b n ≡ true) → AllKnown b runs → AllKnown b (add_run x runs)
known_add b x [] j k = (j, tt)
known_add b x (y ∷ later) j k = known_add_if b x y later (not (fits y x) && nat_lt y.last x.first) j k (known_add b x later j k.1)

known_filter_if : (b : List Span) (y : Run) (later zs : List Run) (t : Bool) → AllKnown b (y ∷ later) → AllKnown b zs → AllKnown b (cond t (y ∷ zs) zs)
known_filter_if b y later zs true k i = (k.0, i)
known_filter_if b y later zs false k i = i

known_filter : (b : List Span) (test : Run → Bool) (runs : List Run) → AllKnown b runs → AllKnown b (filter test runs)
known_filter b test [] k = tt
known_filter b test (y ∷ later) k = known_filter_if b y later (filter test later) (test y) k (known_filter b test later k.1)

known_without_if : (b : List Span) (y : Run) (later zs : List Run) (t : Bool) → AllKnown b (y ∷ later) → AllKnown b zs → AllKnown b (cond t later (y ∷ zs))
known_without_if b y later zs true k i = k.1
known_without_if b y later zs false k i = (k.0, i)

known_without : (b : List Span) (test : Run → Bool) (runs : List Run) → AllKnown b runs → AllKnown b (without_first test runs)
known_without b test [] k = tt
known_without b test (y ∷ later) k = known_without_if b y later (without_first test later) (test y) k (known_without b test later k.1)

-- ---- a chunk

knows_if : (k l m : Bool) → not k ≡ (not l && not m) → l ≡ true → k ≡ true
knows_if true l m e f = refl
knows_if false true m e f = absurd cc
knows_if false false m e f = absurd cc

all_after : (r : Receiver) (c : Chunk) → Formed r.spans → Knows_all (spans_after r c) r.spans
all_after r c formed n k = knows_if (knows (spans_after r c) n) (knows r.spans n) ((n == c.seq) || nat_le n c.forward) (lacks_after r c n formed) k

knows_one : (k l m : Bool) → not k ≡ (l && not (true || m)) → k ≡ true
knows_one true l m e = refl
knows_one false true m e = absurd cc
knows_one false false m e = absurd cc

one_after : (r : Receiver) (c : Chunk) (n : ℕ) → Formed r.spans → n ≡ c.seq → knows (spans_after r c) n ≡ true
one_after r c n formed e =
    let same : (n == c.seq) ≡ true = grind (arith, e) in
    let l = lacks_after r c n formed in
    knows_one (knows (spans_after r c) n) (lacks r.spans n) (nat_le n c.forward) (subst (λ (x : Bool). lacks (spans_after r c) n ≡ (lacks r.spans n && not (x || nat_le n c.forward))) same l)

both_true : (a b : Bool) → (not a && b) ≡ true → b ≡ true
both_true true b e = absurd cc
both_true false b e = e

abbrev pub with_fragment : Receiver → Chunk → Bool → List Run
with_fragment r c t = cond t (add_run (single c.seq c.part c.bytes) r.runs) r.runs

order_held_if : (r : Receiver) (c : Chunk) (t : Bool) → holds r c ≡ t → AllKnown r.spans r.runs → InOrder 0 r.runs → InOrder 0 (with_fragment r c t)
order_held_if r c true e k h = order_add r.spans 0 c.seq (single c.seq c.part c.bytes) r.runs (both_true c.abandon (lacks r.spans c.seq) e) refl refl (omega arith) k h
order_held_if r c false e k h = h

pub order_held : (r : Receiver) (c : Chunk) → AllKnown r.spans r.runs → InOrder 0 r.runs → InOrder 0 (with_fragment r c (holds r c))
order_held r c k h = order_held_if r c (holds r c) refl k h

known_held_if : (r : Receiver) (c : Chunk) (t : Bool) → Formed r.spans → AllKnown r.spans r.runs → AllKnown (spans_after r c) (with_fragment r c t)
known_held_if r c true formed k =
    known_add (spans_after r c) (single c.seq c.part c.bytes) r.runs (λ n lo hi. one_after r c n formed (omega (arith, lo, hi))) (known_all r.spans (spans_after r c) r.runs (all_after r c formed) k)
known_held_if r c false formed k = known_all r.spans (spans_after r c) r.runs (all_after r c formed) k

pub order_taken : (r : Receiver) (c : Chunk) → AllKnown r.spans r.runs → InOrder 0 r.runs → InOrder 0 (runs_after r c)
order_taken r c k h = order_filter (is_alive (spans_after r c)) 0 (with_fragment r c (holds r c)) (order_held r c k h)

pub known_taken : (r : Receiver) (c : Chunk) → Formed r.spans → AllKnown r.spans r.runs → AllKnown (spans_after r c) (runs_after r c)
known_taken r c formed k = known_filter (spans_after r c) (is_alive (spans_after r c)) (with_fragment r c (holds r c)) (known_held_if r c (holds r c) formed k)

pub order_handed : (r : Receiver) → InOrder 0 r.runs → InOrder 0 (without_first (may_hand r) r.runs)
order_handed r h = order_without (may_hand r) 0 r.runs h

pub known_handed : (r : Receiver) → AllKnown r.spans r.runs → AllKnown r.spans (without_first (may_hand r) r.runs)
known_handed r k = known_without r.spans (may_hand r) r.runs k

held_with_if : (r : Receiver) (c : Chunk) (held added : ℕ) (t : Bool) → held ≡ held_in r.runs → added ≡ cond t (length c.bytes) 0 → held + added ≡ held_in (with_fragment r c t)
held_with_if r c held added true e f =
    let f' : added ≡ length c.bytes = f in
    let g : held + added ≡ held_in (add_run (single c.seq c.part c.bytes) r.runs) = omega (arith, e, f', held_add (single c.seq c.part c.bytes) r.runs) in g
held_with_if r c held added false e f =
    let f' : added ≡ 0 = f in
    let g : held + added ≡ held_in r.runs = omega (arith, e, f') in g

pub held_with : (r : Receiver) (c : Chunk) (held added : ℕ) → held ≡ held_in r.runs → added ≡ cond (holds r c) (length c.bytes) 0 → held + added ≡ held_in (with_fragment r c (holds r c))
held_with r c held added e f = held_with_if r c held added (holds r c) e f
