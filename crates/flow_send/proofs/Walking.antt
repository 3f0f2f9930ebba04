-- A walk over those near some numbers.
use Rattle.std.proofs.Common.{◌≡◌, ℕ, ◌+◌, ◌-◌, ◌<◌, ◌≤◌, ◌^◌, nat_lt, nat_le, ◌==◌, cond, not, Bool, true, false, ◌&&◌, ◌||◌, List, [], ◌∷◌, Option, Some, None, refl, ap, sym, ◌∙◌, subst, arith, inl, inr}
use Rattle.std.specs.Prelude.{IsSome}
use Rattle.std.specs.Option.{unwrap_or}
use Rattle.std.specs.List.{filter, sum_by}
use Rattle.std.proofs.lemmas.List.Sums.{sum_by-cons}
use Rattle.std.proofs.lemmas.Bool.{cases_Bool, cases_lt, lt-ltb, le-ltb, le-leb, lt-leb, ne_eqb, eqb-true, eq-eqb}
use Rattle.rtmfp_data_chunks.specs.HandsOver.{IsIn}
use Rattle.rtmfp_data_chunks.proofs.Filtering.{filter_same, filter_all, filter_twice, in_filter}
use Rattle.flow_send.specs.declared.waiting.Waiting.{Waiting}
use Rattle.flow_send.specs.Rows.{Row}
use Rattle.flow_send.specs.Sender.{message_at, without_message}
use Rattle.flow_send.specs.Acks.{still_waits}
use Rattle.flow_send.specs.Steady.{Line}
use Rattle.flow_send.proofs.Keeping.{line_order}
use Rattle.flow_send.specs.Messages.{IsFirstFrom, InLine, touches, touched, keeps, keeps_at, is_left, Reaches}

-- the numbers that a walk has before it
abbrev pub left_numbers : Option ℕ → ℕ
left_numbers None = 0
left_numbers (Some f) = 2 ^ 64 - f

-- ---- members

some_eq : (y z : Waiting) → Some y ≡ Some z → y ≡ z
some_eq y z e = ap (λ o. unwrap_or o y) e

pub in_low : (low : ℕ) (runs : List Waiting) (y : Waiting) → InLine low runs → IsIn y runs → (low ≤ y.number) × (0 < y.count)
in_low low [] y h i = absurd i
in_low low (x ∷ later) y h i = elim i [
  | inl e ↦ subst (λ (z : Waiting). (low ≤ z.number) × (0 < z.count)) (sym e) (h.0, h.1)
  | inr j ↦ let g = in_low (x.number + x.count) later y h.2 j in (omega (arith, g.0, h.0, h.1), g.1)
]

-- a message that begins below another ends below it
pub in_apart : (low : ℕ) (runs : List Waiting) (y z : Waiting) → InLine low runs → IsIn y runs → IsIn z runs → y.number < z.number → y.number + y.count ≤ z.number
in_apart low [] y z h i j lt = absurd i
in_apart low (x ∷ later) y z h i j lt = elim i [
  | inl e ↦ elim j [
    | inl f ↦ let g = ap (λ (a : Waiting). a.number) (e ∙ sym f) in absurd (omega (arith, g, lt))
    | inr k ↦ let g = in_low (x.number + x.count) later z h.2 k in let l = ap (λ (a : Waiting). a.number + a.count) e in omega (arith, g.0, l)
  ]
  | inr k ↦ elim j [
    | inl f ↦ let g = in_low (x.number + x.count) later y h.2 k in let l = ap (λ (a : Waiting). a.number) f in absurd (omega (arith, g.0, l, lt, h.1))
    | inr l ↦ in_apart (x.number + x.count) later y z h.2 k l lt
  ]
]

pub in_at : (low : ℕ) (runs : List Waiting) (y : Waiting) → InLine low runs → IsIn y runs → message_at y.number runs ≡ Some y
in_at low [] y h i = absurd i
in_at low (x ∷ later) y h i = elim i [
  | inl e ↦ ap (λ t. cond t (Some x) (message_at y.number later)) (eq-eqb x.number y.number (ap (λ (a : Waiting). a.number) (sym e))) ∙ ap (λ z. Some z) (sym e)
  | inr j ↦
      let g = in_low (x.number + x.count) later y h.2 j in
      ap (λ t. cond t (Some x) (message_at y.number later)) (ne_eqb x.number y.number (λ s. omega (arith, s, g.0, h.1))) ∙ in_at (x.number + x.count) later y h.2 j
]

at_in_if : (n : ℕ) (x : Waiting) (later : List Waiting) (y : Waiting) (t : Bool) → (x.number == n) ≡ t → cond t (Some x) (message_at n later) ≡ Some y → (message_at n later ≡ Some y → IsIn y later × (y.number ≡ n)) → IsIn y (x ∷ later) × (y.number ≡ n)
at_in_if n x later y true e f ih = let g = some_eq x y f in (inl (sym g), ap (λ (a : Waiting). a.number) (sym g) ∙ eqb-true x.number n e)
at_in_if n x later y false e f ih = let r = ih f in (inr r.0, r.1)

pub at_in : (n : ℕ) (runs : List Waiting) (y : Waiting) → message_at n runs ≡ Some y → IsIn y runs × (y.number ≡ n)
at_in n [] y e = absurd cc
at_in n (x ∷ later) y e = at_in_if n x later y (x.number == n) refl e (λ f. at_in n later y f)

-- two runs that begin with one number are one
pub at_eq : (n : ℕ) (runs : List Waiting) (y z : Waiting) → message_at n runs ≡ Some y → message_at n runs ≡ Some z → y ≡ z
at_eq n runs y z e f = some_eq y z (sym e ∙ f)

pub is_some : (o : Option Waiting) (y : Waiting) → o ≡ Some y → IsSome o
is_some o y e = subst IsSome (sym e) refl

pub has_run : (o : Option Waiting) → IsSome o → (y : Waiting) × (o ≡ Some y)
has_run None i = absurd cc
has_run (Some y) i = (y, refl)

pub here_at : (n : ℕ) (y z : Waiting) (later : List Waiting) → (y.number == n) ≡ true → message_at n (y ∷ later) ≡ Some z → y ≡ z
here_at n y z later e f = some_eq y z (sym (ap (λ t. cond t (Some y) (message_at n later)) e) ∙ f)

pub skip_at : (n : ℕ) (y : Waiting) (later : List Waiting) → (y.number == n) ≡ false → message_at n (y ∷ later) ≡ message_at n later
skip_at n y later e = ap (λ t. cond t (Some y) (message_at n later)) e

-- ---- where it begins

pub reach_none_if : (low : ℕ) (runs : List Waiting) (o : Option ℕ) (y : Waiting) → IsFirstFrom low runs o → low ≤ y.number → message_at y.number runs ≡ Some y → is_left o y ≡ true
reach_none_if low runs None y b le e = let n : None ≡ Some y = sym (b y.number le) ∙ e in absurd cc
reach_none_if low runs (Some g) y b le e = le-leb g y.number (b.2 y.number le (is_some (message_at y.number runs) y e))

and_no : (a b : Bool) → b ≡ false → (a && b) ≡ false
and_no true b e = e
and_no false b e = refl

out_low : (n : ℕ) (rows : List Row) (low high : ℕ) (y : Waiting) → y.number + y.count ≤ low → keeps n rows low high y ≡ true
out_low n rows low high y le = ap (λ t. not t || still_waits n rows y) (and_no (nat_le y.number high) (nat_lt low (y.number + y.count)) (le-ltb low (y.number + y.count) le))

or_left : (a b : Bool) → a ≡ true → (a || b) ≡ true
or_left true b e = refl
or_left false b e = absurd cc

or_right : (a b : Bool) → b ≡ true → (a || b) ≡ true
or_right true b e = refl
or_right false b e = e

-- a walk that has passed nothing yet
pub walk_begins : (n : ℕ) (rows : List Row) (low high : ℕ) (runs : List Waiting) (next : Option ℕ) → Reaches low runs next → filter (λ y. is_left next y || keeps n rows low high y) runs ≡ runs
walk_begins n rows low high runs next r = filter_all (λ y. is_left next y || keeps n rows low high y) runs (λ y i. elim (cases_Bool (is_left next y)) [
  | inl t ↦ or_left (is_left next y) (keeps n rows low high y) t
  | inr f ↦ or_right (is_left next y) (keeps n rows low high y) (out_low n rows low high y (r y i f))
])

-- ---- one step

-- what lies after a step
abbrev pub Goes : ℕ → (Waiting → Bool) → List Waiting → Option ℕ → Type 0
Goes f test runs next = (y : Waiting) → IsIn y runs → test y ≡ false → is_left next y ≡ nat_lt f y.number

goes_if : (f : ℕ) (runs : List Waiting) (next : Option ℕ) (y : Waiting) → IsFirstFrom (f + 1) runs next → (f < y.number → message_at y.number runs ≡ Some y) → is_left next y ≡ nat_lt f y.number
goes_if f runs None y b at = elim (cases_lt f y.number) [
  | inl lt ↦ let n : None ≡ Some y = sym (b y.number (omega (arith, lt))) ∙ at lt in absurd cc
  | inr ge ↦ sym (le-ltb f y.number ge)
]
goes_if f runs (Some g) y b at = elim (cases_lt f y.number) [
  | inl lt ↦ le-leb g y.number (b.2 y.number (omega (arith, lt)) (is_some (message_at y.number runs) y (at lt))) ∙ sym (lt-ltb f y.number lt)
  | inr ge ↦ let lo = b.0 in lt-leb g y.number (omega (arith, ge, lo)) ∙ sym (le-ltb f y.number ge)
]

pub goes_all : (f : ℕ) (test : Waiting → Bool) (runs : List Waiting) (next : Option ℕ) → InLine 0 runs → IsFirstFrom (f + 1) runs next → Goes f test runs next
goes_all f test runs next h b = λ y i e. goes_if f runs next y b (λ lt. in_at 0 runs y h i)

and_true : (a b : Bool) → a ≡ true → b ≡ true → (a && b) ≡ true
and_true true b e f = f
and_true false b e f = absurd cc

step_if : (f : ℕ) (y : Waiting) (t n : Bool) → (t ≡ false → n ≡ nat_lt f y.number) → ((nat_le f y.number || t) && (not (y.number == f) || t)) ≡ (n || t)
step_if f y true n h = and_true (nat_le f y.number || true) (not (y.number == f) || true) (or_right (nat_le f y.number) true refl) (or_right (not (y.number == f)) true refl) ∙ sym (or_right n true refl)
step_if f y false n h = elim (cases_lt f y.number) [
  | inl lt ↦ rw (le-leb f y.number (omega (arith, lt)), ne_eqb y.number f (λ e. omega (arith, e, lt))) (sym (or_left n false (h refl ∙ lt-ltb f y.number lt)))
  | inr ge ↦ low_if ge
]
  where
    low_if : y.number ≤ f → ((nat_le f y.number || false) && (not (y.number == f) || false)) ≡ (n || false)
    low_if ge = elim (cases_lt y.number f) [
      | inl lt ↦ rw (lt-leb f y.number lt, h refl, le-ltb f y.number ge) refl
      | inr le ↦ rw (le-leb f y.number le, eq-eqb y.number f (omega (arith, ge, le)), h refl, le-ltb f y.number ge) refl
    ]

pub walk_step : (f : ℕ) (test : Waiting → Bool) (runs : List Waiting) (next : Option ℕ) → Goes f test runs next
    → filter (λ y. not (y.number == f) || test y) (filter (λ y. is_left (Some f) y || test y) runs) ≡ filter (λ y. is_left next y || test y) runs
walk_step f test runs next g =
    filter_twice (λ y. is_left (Some f) y || test y) (λ y. not (y.number == f) || test y) runs
    ∙ filter_same (λ y. (is_left (Some f) y || test y) && (not (y.number == f) || test y)) (λ y. is_left next y || test y) runs (λ y i. step_if f y (test y) (is_left next y) (g y i))

-- what lies after a step that has dropped the others
pub goes_left : (f : ℕ) (test : Waiting → Bool) (old new : List Waiting) (next : Option ℕ) → InLine 0 old → InLine 0 new → new ≡ filter (λ y. not (y.number == f) || test y) (filter (λ y. is_left (Some f) y || test y) old)
    → IsFirstFrom (f + 1) new next → Goes f test old next
goes_left f test old new next h k e b = λ y i t. goes_if f new next y b (λ lt.
    let p : (nat_le f y.number || test y) ≡ true = or_left (nat_le f y.number) (test y) (le-leb f y.number (omega (arith, lt))) in
    let q : (not (y.number == f) || test y) ≡ true = or_left (not (y.number == f)) (test y) (ap not (ne_eqb y.number f (λ s. omega (arith, s, lt)))) in
    let j = in_filter (λ z. not (z.number == f) || test z) (filter (λ z. is_left (Some f) z || test z) old) y (in_filter (λ z. is_left (Some f) z || test z) old y i p) q in
    in_at 0 new y k (subst (λ (zs : List Waiting). IsIn y zs) (sym e) j))

-- ---- one message

pub without_is : (test : Waiting → Bool) (f low : ℕ) (runs : List Waiting) (r : Waiting) → InLine low runs → message_at f runs ≡ Some r → test r ≡ false → without_message f runs ≡ filter (λ y. not (y.number == f) || test y) runs
without_is test f low [] r h e t = absurd cc
without_is test f low (y ∷ later) r h e t = elim (cases_Bool (y.number == f)) [
  | inl s ↦
      let same : y ≡ r = here_at f y r later s e in
      let n : (not (y.number == f) || test y) ≡ false = rw s (ap test same ∙ t) in
      let m = eqb-true y.number f s in
      ap (λ b. cond b later (y ∷ without_message f later)) s
      ∙ (sym (filter_all (λ z. not (z.number == f) || test z) later (λ z i. let l = in_low (y.number + y.count) later z h.2 i in or_left (not (z.number == f)) (test z) (ap not (ne_eqb z.number f (λ q. omega (arith, q, l.0, m, h.1))))))
      ∙ sym (ap (λ b. cond b (y ∷ filter (λ z. not (z.number == f) || test z) later) (filter (λ z. not (z.number == f) || test z) later)) n))
  | inr n ↦
      let k : (not (y.number == f) || test y) ≡ true = or_left (not (y.number == f)) (test y) (ap not n) in
      ap (λ b. cond b later (y ∷ without_message f later)) n
      ∙ (ap (λ zs. y ∷ zs) (without_is test f (y.number + y.count) later r h.2 (sym (skip_at f y later n) ∙ e) t)
      ∙ sym (ap (λ b. cond b (y ∷ filter (λ z. not (z.number == f) || test z) later) (filter (λ z. not (z.number == f) || test z) later)) k))
]

pub all_stay : (test : Waiting → Bool) (f : ℕ) (runs : List Waiting) → InLine 0 runs → ((y : Waiting) → message_at f runs ≡ Some y → test y ≡ true) → filter (λ y. not (y.number == f) || test y) runs ≡ runs
all_stay test f runs h t = filter_all (λ y. not (y.number == f) || test y) runs (λ y i. elim (cases_Bool (y.number == f)) [
  | inl s ↦ or_right (not (y.number == f)) (test y) (t y (ap (λ m. message_at m runs) (sym (eqb-true y.number f s)) ∙ in_at 0 runs y h i))
  | inr n ↦ or_left (not (y.number == f)) (test y) (ap not n)
])

pub stays_there : (n : ℕ) (rows : List Row) (low high f : ℕ) (runs : List Waiting) → keeps_at n rows low high (message_at f runs) ≡ true → (y : Waiting) → message_at f runs ≡ Some y → keeps n rows low high y ≡ true
stays_there n rows low high f runs e y s = sym (ap (keeps_at n rows low high) s) ∙ e

pub not_kept : (n : ℕ) (rows : List Row) (low high f : ℕ) (ws : List Waiting) → InLine 0 ws → keeps_at n rows low high (message_at f ws) ≡ false → without_message f ws ≡ filter (λ y. not (y.number == f) || keeps n rows low high y) ws
not_kept n rows low high f ws h e = kept_if (message_at f ws) refl e
  where
    kept_if : (o : Option Waiting) → message_at f ws ≡ o → keeps_at n rows low high o ≡ false → without_message f ws ≡ filter (λ y. not (y.number == f) || keeps n rows low high y) ws
    kept_if None a k = absurd cc
    kept_if (Some w) a k = without_is (keeps n rows low high) f 0 ws w h a k

-- ---- where a walk ends

pub walk_ends : (n : ℕ) (rows : List Row) (low high : ℕ) (ws now : List Waiting) (next : Option ℕ) → next ≡ None → now ≡ filter (λ y. is_left next y || keeps n rows low high y) ws → now ≡ filter (keeps n rows low high) ws
walk_ends n rows low high ws now next e g = g ∙ ap (λ o. filter (λ y. is_left o y || keeps n rows low high y) ws) e

-- ---- sums and lines

pub sum_removed : (f : Waiting → ℕ) (n : ℕ) (ws : List Waiting) (w : Waiting) → message_at n ws ≡ Some w → sum_by f (without_message n ws) + f w ≡ sum_by f ws
sum_removed f n [] w e = absurd cc
sum_removed f n (y ∷ later) w e = elim (cases_Bool (y.number == n)) [
  | inl s ↦
      let same = ap f (here_at n y w later s e) in
      let g = ap (λ (zs : List Waiting). sum_by f zs) (ap (λ b. cond b later (y ∷ without_message n later)) s) in
      omega (arith, g, same, sum_by-cons f y later)
  | inr d ↦
      let ih = sum_removed f n later w (sym (skip_at n y later d) ∙ e) in
      let g = ap (λ (zs : List Waiting). sum_by f zs) (ap (λ b. cond b later (y ∷ without_message n later)) d) in
      omega (arith, g, ih, sum_by-cons f y later, sum_by-cons f y (without_message n later))
]

-- where none is taken out
pub none_removed : (n : ℕ) (ws : List Waiting) → message_at n ws ≡ None → without_message n ws ≡ ws
none_removed n [] e = refl
none_removed n (y ∷ later) e = removed_if (y.number == n) e (none_removed n later)
  where
    removed_if : (t : Bool) → cond t (Some y) (message_at n later) ≡ None → (message_at n later ≡ None → without_message n later ≡ later) → cond t later (y ∷ without_message n later) ≡ y ∷ later
    removed_if true e ih = absurd cc
    removed_if false e ih = ap (λ zs. y ∷ zs) (ih e)

pub in_line : (low high : ℕ) (ws : List Waiting) → Line low high ws → InLine low ws
in_line low high [] h = tt
in_line low high (w ∷ later) h = (h.0, h.1, in_line (w.number + w.count) high later h.2)

pub line_in : (low high : ℕ) (ws : List Waiting) (w : Waiting) → Line low high ws → IsIn w ws → w.number + w.count ≤ high
line_in low high [] w h i = absurd i
line_in low high (x ∷ later) w h i = elim i [
  | inl e ↦ let l = ap (λ (a : Waiting). a.number + a.count) e in let k = line_order (x.number + x.count) high later h.2 in omega (arith, l, k)
  | inr j ↦ line_in (x.number + x.count) high later w h.2 j
]

-- ---- several spans

abbrev pub passes : ℕ → List Row → List (ℕ × ℕ) → Waiting → Bool
passes n rows spans w = not (touched spans w) || still_waits n rows w

split : (a b p : Bool) → ((not a || p) && (not b || p)) ≡ (not (a || b) || p)
split true true true = refl
split true true false = refl
split true false true = refl
split true false false = refl
split false true true = refl
split false true false = refl
split false false true = refl
split false false false = refl

-- after one span more
pub next_span : (n : ℕ) (rows : List Row) (low high : ℕ) (left later : List (ℕ × ℕ)) (ws once all : List Waiting) → left ≡ (low, high) ∷ later → once ≡ filter (keeps n rows low high) ws → filter (passes n rows left) ws ≡ all → filter (passes n rows later) once ≡ all
next_span n rows low high left later ws once all e f g =
    ap (λ (zs : List Waiting). filter (passes n rows later) zs) f
    ∙ (filter_twice (keeps n rows low high) (passes n rows later) ws
    ∙ (filter_same (λ z. keeps n rows low high z && passes n rows later z) (passes n rows ((low, high) ∷ later)) ws (λ y i. split (touches low high y) (touched later y) (still_waits n rows y))
    ∙ (ap (λ (ps : List (ℕ × ℕ)). filter (passes n rows ps) ws) (sym e) ∙ g)))

pub last_span : (n : ℕ) (rows : List Row) (left : List (ℕ × ℕ)) (ws all : List Waiting) → left ≡ [] → filter (passes n rows left) ws ≡ all → ws ≡ all
last_span n rows left ws all e g =
    sym (filter_all (passes n rows []) ws (λ y i. refl)) ∙ (ap (λ (ps : List (ℕ × ℕ)). filter (passes n rows ps) ws) (sym e) ∙ g)

-- where each that no span touches waits
pub all_spans : (n : ℕ) (rows : List Row) (spans : List (ℕ × ℕ)) (ws : List Waiting) → ((y : Waiting) → IsIn y ws → touched spans y ≡ false → still_waits n rows y ≡ true) → filter (passes n rows spans) ws ≡ filter (still_waits n rows) ws
all_spans n rows spans ws h = filter_same (passes n rows spans) (still_waits n rows) ws (λ y i. waits_if (touched spans y) (still_waits n rows y) (h y i))
  where
    waits_if : (t p : Bool) → (t ≡ false → p ≡ true) → (not t || p) ≡ p
    waits_if true p h = refl
    waits_if false p h = sym (h refl)
