-- A fragment more holds at most its own bytes more.
use Rattle.std.proofs.Common.{◌≡◌, ℕ, ◌+◌, ◌-◌, ◌≤◌, nat_lt, ◌==◌, cond, not, Bool, true, false, ◌&&◌, List, [], ◌∷◌, ◌++◌, length, refl, ◌∙◌, arith, length-append}
use Rattle.std.proofs.lemmas.Bool.{eqb-true}
use Rattle.std.proofs.lemmas.List.Sums.{sum_by-cons}
use Rattle.flow_recv.specs.declared.spans.Span.{Span}
use Rattle.rtmfp_data_chunks.specs.Runs.{Run, fits, joined}
use Rattle.flow_recv.specs.Receiver.{lacks, is_alive, living, held_in, join_next, join_before, add_run}

-- at an end that the run lacks the next number is missing
pub record Alive (spans : List Span) (y : Run) : Type 0 where
  pub before : y.front ≡ false → lacks spans (y.first - 1) ≡ true
  pub after : y.rear ≡ false → lacks spans (y.last + 1) ≡ true

alive_if : (f r b a : Bool) → not (cond f (cond r false (not a)) (cond b (cond r false (not a)) true)) ≡ true → (f ≡ false → b ≡ true) × (r ≡ false → a ≡ true)
alive_if true true b a e = (λ x. absurd cc, λ x. absurd cc)
alive_if true false b true e = (λ x. absurd cc, λ x. refl)
alive_if true false b false e = absurd cc
alive_if false true true a e = (λ x. refl, λ x. absurd cc)
alive_if false true false a e = absurd cc
alive_if false false true true e = (λ x. refl, λ x. refl)
alive_if false false true false e = absurd cc
alive_if false false false a e = absurd cc

if_alive : (f r b a : Bool) → (f ≡ false → b ≡ true) → (r ≡ false → a ≡ true) → not (cond f (cond r false (not a)) (cond b (cond r false (not a)) true)) ≡ true
if_alive true true b a g h = refl
if_alive true false b a g h = rw (h refl) refl
if_alive false true b a g h = rw (g refl) refl
if_alive false false b a g h = rw (g refl, h refl) refl

pub alive_is : (spans : List Span) (y : Run) → is_alive spans y ≡ true → Alive spans y
alive_is spans y e = let r = alive_if y.front y.rear (lacks spans (y.first - 1)) (lacks spans (y.last + 1)) e in record { before = r.0; after = r.1 }

pub is_alive_from : (spans : List Span) (y : Run) → Alive spans y → is_alive spans y ≡ true
is_alive_from spans y h = if_alive y.front y.rear (lacks spans (y.first - 1)) (lacks spans (y.last + 1)) h.before h.after

-- the bytes that a run holds while it is alive
abbrev pub weight : List Span → Run → ℕ
weight spans y = cond (is_alive spans y) (length y.bytes) 0

cons_if : (b : Bool) (y : Run) (ys : List Run) → held_in (cond b (y ∷ ys) ys) ≡ cond b (length y.bytes) 0 + held_in ys
cons_if true y ys = sum_by-cons (λ (z : Run). length z.bytes) y ys
cons_if false y ys = let e : held_in ys ≡ 0 + held_in ys = omega arith in e

pub held_cons : (spans : List Span) (y : Run) (ys : List Run) → held_in (living spans (y ∷ ys)) ≡ weight spans y + held_in (living spans ys)
held_cons spans y ys = cons_if (is_alive spans y) y (living spans ys)

weight_if : (b c : Bool) (n k m : ℕ) → n ≤ k + m → (b ≡ true → c ≡ true) → cond b n 0 ≤ cond c k 0 + m
weight_if true true n k m le h = let e : n ≤ k + m = le in e
weight_if true false n k m le h = absurd (cc (h refl))
weight_if false c n k m le h = let e : 0 ≤ cond c k 0 + m = omega arith in e

-- where what is alive afterwards was alive before
weight_le : (a b : List Span) (y z : Run) (m : ℕ) → length y.bytes ≤ length z.bytes + m → (Alive a y → Alive b z) → weight a y ≤ weight b z + m
weight_le a b y z m le h = weight_if (is_alive a y) (is_alive b z) (length y.bytes) (length z.bytes) m le (λ e. is_alive_from b z (h (alive_is a y e)))

small_if : (b : Bool) (n : ℕ) → cond b n 0 ≤ n
small_if true n = let e : n ≤ n = omega arith in e
small_if false n = let e : 0 ≤ n = omega arith in e

weight_small : (spans : List Span) (y : Run) → weight spans y ≤ length y.bytes
weight_small spans y = small_if (is_alive spans y) (length y.bytes)

fits_is : (t : Bool) (r f : Bool) → cond t (cond r false (cond f false true)) false ≡ true → (t ≡ true) × (r ≡ false) × (f ≡ false)
fits_is true true f e = absurd cc
fits_is true false true e = absurd cc
fits_is true false false e = (refl, refl, refl)
fits_is false r f e = absurd cc

pub fits_parts : (y x : Run) → fits y x ≡ true → (y.last + 1 ≡ x.first) × (y.rear ≡ false) × (x.front ≡ false)
fits_parts y x e = let r = fits_is (y.last + 1 == x.first) y.rear x.front e in (eqb-true (y.last + 1) x.first r.0, r.1, r.2)

-- later spans know all that earlier ones know, and a number more
pub record Extends (later earlier : List Span) (number : ℕ) : Type 0 where
  pub keeps : (n : ℕ) → lacks later n ≡ true → lacks earlier n ≡ true
  pub lacked : lacks earlier number ≡ true

still : (a b : List Span) (q : ℕ) (y : Run) → Extends a b q → Alive a y → Alive b y
still a b q y x h = record { before = λ e. x.keeps (y.first - 1) (h.before e); after = λ e. x.keeps (y.last + 1) (h.after e) }

left_alive : (a b : List Span) (q : ℕ) (y x : Run) → Extends a b q → x.first ≡ q → fits y x ≡ true → Alive a (joined y x) → Alive b y
left_alive a b q y x e f g h =
    let p = fits_parts y x g in
    record { before = λ z. e.keeps (y.first - 1) (h.before z); after = λ z. rw (p.0 ∙ f) e.lacked }

right_alive : (a b : List Span) (q : ℕ) (x y : Run) → Extends a b q → x.last ≡ q → fits x y ≡ true → Alive a (joined x y) → Alive b y
right_alive a b q x y e f g h =
    let p = fits_parts x y g in
    let n : y.first - 1 ≡ q = omega (arith, p.0, f) in
    record { before = λ z. rw n e.lacked; after = λ z. e.keeps (y.last + 1) (h.after z) }

living_extends : (a b : List Span) (q : ℕ) (runs : List Run) → Extends a b q → held_in (living a runs) ≤ held_in (living b runs)
living_extends a b q [] e = omega arith
living_extends a b q (y ∷ ys) e =
    omega (arith, held_cons a y ys, held_cons b y ys, weight_le a b y y 0 (omega arith) (still a b q y e), living_extends a b q ys e)

-- x is the new fragment, or it joined to a run before it, of the weight m
next_le_if : (a b : List Span) (q m : ℕ) (x y : Run) (ys : List Run) (t : Bool) → Extends a b q → x.last ≡ q → weight a x ≤ m → (fits x y ≡ true → weight a (joined x y) ≤ weight b y + m)
    → fits x y ≡ t → held_in (living a (cond t (joined x y ∷ ys) (x ∷ y ∷ ys))) ≤ held_in (living b (y ∷ ys)) + m
next_le_if a b q m x y ys true e l w j f =
    let k : held_in (living a (joined x y ∷ ys)) ≤ held_in (living b (y ∷ ys)) + m =
    omega (arith, held_cons a (joined x y) ys, held_cons b y ys, j f, living_extends a b q ys e) in k
next_le_if a b q m x y ys false e l w j f =
    let k : held_in (living a (x ∷ y ∷ ys)) ≤ held_in (living b (y ∷ ys)) + m =
    omega (arith, held_cons a x (y ∷ ys), w, living_extends a b q (y ∷ ys) e) in k

next_le : (a b : List Span) (q m : ℕ) (x : Run) (runs : List Run) → Extends a b q → x.last ≡ q → weight a x ≤ m
    → ((y : Run) → fits x y ≡ true → weight a (joined x y) ≤ weight b y + m)
    → held_in (living a (join_next x runs)) ≤ held_in (living b runs) + m
next_le a b q m x [] e l w j = omega (arith, held_cons a x [], w)
next_le a b q m x (y ∷ ys) e l w j = next_le_if a b q m x y ys (fits x y) e l w (j y) refl

-- a run in the middle of which the number lies is alive only where both its sides were
sides : (a b : List Span) (q : ℕ) (y x z : Run) → Extends a b q → x.first ≡ q → x.last ≡ q → fits y x ≡ true → fits (joined y x) z ≡ true → Alive a (joined (joined y x) z) → Alive b y × Alive b z
sides a b q y x z e f l g h k =
    let p = fits_parts y x g in
    let r = fits_parts (joined y x) z h in
    let n : z.first - 1 ≡ q = omega (arith, r.0, l) in (
      record { before = λ s. e.keeps (y.first - 1) (k.before s); after = λ s. rw (p.0 ∙ f) e.lacked },
      record { before = λ s. rw n e.lacked; after = λ s. e.keeps (z.last + 1) (k.after s) },
    )

three_if : (t u v : Bool) (n i j m : ℕ) → n ≤ i + j + m → (t ≡ true → (u ≡ true) × (v ≡ true)) → cond t n 0 ≤ cond u i 0 + (cond v j 0 + m)
three_if true true true n i j m le h = let e : n ≤ i + (j + m) = omega (arith, le) in e
three_if true false v n i j m le h = absurd (cc ((h refl).0))
three_if true true false n i j m le h = absurd (cc ((h refl).1))
three_if false u v n i j m le h = let e : 0 ≤ cond u i 0 + (cond v j 0 + m) = omega arith in e

both_le : (a b : List Span) (q m : ℕ) (y x z : Run) → Extends a b q → x.first ≡ q → x.last ≡ q → fits y x ≡ true → length x.bytes ≤ m → fits (joined y x) z ≡ true
    → weight a (joined (joined y x) z) ≤ weight b z + (weight b y + m)
both_le a b q m y x z e f l g len h =
    let w = joined (joined y x) z in
    let le : length w.bytes ≤ length z.bytes + length y.bytes + m = omega (arith, length-append (y.bytes ++ x.bytes) z.bytes, length-append y.bytes x.bytes, len) in
    three_if (is_alive a w) (is_alive b z) (is_alive b y) (length w.bytes) (length z.bytes) (length y.bytes) m le (
    λ t. let s = sides a b q y x z e f l g h (alive_is a w t) in (is_alive_from b z s.1, is_alive_from b y s.0)
    )

join_one : (a b : List Span) (q m : ℕ) (y x : Run) → Extends a b q → x.first ≡ q → fits y x ≡ true → length x.bytes ≤ m → weight a (joined y x) ≤ weight b y + m
join_one a b q m y x e f g len = weight_le a b (joined y x) y m (omega (arith, length-append y.bytes x.bytes, len)) (left_alive a b q y x e f g)

join_other : (a b : List Span) (q m : ℕ) (x y : Run) → Extends a b q → x.last ≡ q → length x.bytes ≤ m → fits x y ≡ true → weight a (joined x y) ≤ weight b y + m
join_other a b q m x y e l len g = weight_le a b (joined x y) y m (omega (arith, length-append x.bytes y.bytes, len)) (right_alive a b q x y e l g)

before_le_if : (a b : List Span) (q m : ℕ) (x y : Run) (ys : List Run) (t : Bool) → Extends a b q → x.first ≡ q → x.last ≡ q → length x.bytes ≤ m → fits y x ≡ t
    → held_in (living a (cond t (join_next (joined y x) ys) (join_next x (y ∷ ys)))) ≤ held_in (living b (y ∷ ys)) + m
before_le_if a b q m x y ys true e f l len g =
    let j = joined y x in
    let k = next_le a b q (weight b y + m) j ys e l (join_one a b q m y x e f g len) (λ z h. both_le a b q m y x z e f l g len h) in
    let r : held_in (living a (join_next j ys)) ≤ held_in (living b (y ∷ ys)) + m = omega (arith, k, held_cons b y ys) in r
before_le_if a b q m x y ys false e f l len g =
    let w : weight a x ≤ m = omega (arith, weight_small a x, len) in
    let r : held_in (living a (join_next x (y ∷ ys))) ≤ held_in (living b (y ∷ ys)) + m = next_le a b q m x (y ∷ ys) e l w (λ z h. join_other a b q m x z e l len h) in r

add_le_if : (a b : List Span) (q m : ℕ) (x y : Run) (ys : List Run) (t : Bool) → Extends a b q → x.first ≡ q → x.last ≡ q → length x.bytes ≤ m
    → held_in (living a (add_run x ys)) ≤ held_in (living b ys) + m
    → held_in (living a (cond t (y ∷ add_run x ys) (join_before x (y ∷ ys)))) ≤ held_in (living b (y ∷ ys)) + m
add_le_if a b q m x y ys true e f l len ih =
    let r : held_in (living a (y ∷ add_run x ys)) ≤ held_in (living b (y ∷ ys)) + m =
    omega (arith, ih, held_cons a y (add_run x ys), held_cons b y ys, weight_le a b y y 0 (omega arith) (still a b q y e)) in r
add_le_if a b q m x y ys false e f l len ih = before_le_if a b q m x y ys (fits y x) e f l len refl

-- with one fragment more the runs that live hold at most its bytes more
pub add_le : (a b : List Span) (q m : ℕ) (x : Run) (runs : List Run) → Extends a b q → x.first ≡ q → x.last ≡ q → length x.bytes ≤ m
    → held_in (living a (add_run x runs)) ≤ held_in (living b runs) + m
add_le a b q m x [] e f l len = omega (arith, held_cons a x [], weight_small a x, len)
add_le a b q m x (y ∷ ys) e f l len = add_le_if a b q m x y ys (not (fits y x) && nat_lt y.last x.first) e f l len (add_le a b q m x ys e f l len)
