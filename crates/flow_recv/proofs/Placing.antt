-- Where a fragment belongs among the runs.
use Rattle.std.proofs.Common.{◌≡◌, ℕ, ◌+◌, ◌<◌, ◌≤◌, ◌==◌, cond, not, Bool, true, false, List, [], ◌∷◌, Option, Some, None, refl, ap, sym, ◌∙◌, subst, arith, inl, inr}
use Rattle.std.specs.Prelude.{IsSome, IfSome}
use Rattle.std.specs.Option.{IsSomeAnd, unwrap_or}
use Rattle.std.proofs.lemmas.Bool.{cases_Bool, cases_lt, lt-ltb, le-ltb, ne_eqb, eqb-true, eq-eqb}
use Rattle.rtmfp_data_chunks.specs.HandsOver.{IsIn}
use Rattle.flow_recv.specs.declared.spans.Span.{Span}
use Rattle.rtmfp_data_chunks.specs.Runs.{Run, fits, joined}
use Rattle.flow_recv.specs.Receiver.{knows, lacks, add_run, join_next}
use Rattle.flow_recv.specs.Order.{InOrder, AllKnown}
use Rattle.flow_recv.specs.Keyed.{run_at, without_run, with_run, changed_run, over, IsFree, IsFirstFrom, IsLastBelow, IsFollowed, IsFollowing, followed_at, following_at}
use Rattle.flow_recv.proofs.Bounds.{fits_parts}

-- ---- members

some_eq : (y z : Run) → Some y ≡ Some z → y ≡ z
some_eq y z e = ap (λ o. unwrap_or o y) e

pub in_low : (low : ℕ) (runs : List Run) (y : Run) → InOrder low runs → IsIn y runs → (low ≤ y.first) × (y.first ≤ y.last)
in_low low [] y h i = absurd i
in_low low (x ∷ later) y h i = elim i [
  | inl e ↦ subst (λ (z : Run). (low ≤ z.first) × (z.first ≤ z.last)) (sym e) (h.0, h.1)
  | inr j ↦ let g = in_low (x.last + 1) later y h.2 j in (omega (arith, g.0, h.0, h.1), g.1)
]

-- a run that begins below another ends below it
pub in_apart : (low : ℕ) (runs : List Run) (y z : Run) → InOrder low runs → IsIn y runs → IsIn z runs → y.first < z.first → y.last < z.first
in_apart low [] y z h i j lt = absurd i
in_apart low (x ∷ later) y z h i j lt = elim i [
  | inl e ↦ elim j [
    | inl f ↦ let g = ap (λ (a : Run). a.first) (e ∙ sym f) in absurd (omega (arith, g, lt))
    | inr k ↦ let g = in_low (x.last + 1) later z h.2 k in let l = ap (λ (a : Run). a.last) e in omega (arith, g.0, l)
  ]
  | inr k ↦ elim j [
    | inl f ↦ let g = in_low (x.last + 1) later y h.2 k in let l = ap (λ (a : Run). a.first) f in absurd (omega (arith, g.0, l, lt, h.1))
    | inr l ↦ in_apart (x.last + 1) later y z h.2 k l lt
  ]
]

pub in_at : (low : ℕ) (runs : List Run) (y : Run) → InOrder low runs → IsIn y runs → run_at y.first runs ≡ Some y
in_at low [] y h i = absurd i
in_at low (x ∷ later) y h i = elim i [
  | inl e ↦ ap (λ t. cond t (Some x) (run_at y.first later)) (eq-eqb x.first y.first (ap (λ (a : Run). a.first) (sym e))) ∙ ap (λ z. Some z) (sym e)
  | inr j ↦
      let g = in_low (x.last + 1) later y h.2 j in
      ap (λ t. cond t (Some x) (run_at y.first later)) (ne_eqb x.first y.first (λ s. omega (arith, s, g.0, h.1))) ∙ in_at (x.last + 1) later y h.2 j
]

at_in_if : (n : ℕ) (x : Run) (later : List Run) (y : Run) (t : Bool) → (x.first == n) ≡ t → cond t (Some x) (run_at n later) ≡ Some y → (run_at n later ≡ Some y → IsIn y later × (y.first ≡ n)) → IsIn y (x ∷ later) × (y.first ≡ n)
at_in_if n x later y true e f ih = let g = some_eq x y f in (inl (sym g), ap (λ (a : Run). a.first) (sym g) ∙ eqb-true x.first n e)
at_in_if n x later y false e f ih = let r = ih f in (inr r.0, r.1)

pub at_in : (n : ℕ) (runs : List Run) (y : Run) → run_at n runs ≡ Some y → IsIn y runs × (y.first ≡ n)
at_in n [] y e = absurd cc
at_in n (x ∷ later) y e = at_in_if n x later y (x.first == n) refl e (λ f. at_in n later y f)

-- two runs that begin with one number are one
pub at_eq : (n : ℕ) (runs : List Run) (y z : Run) → run_at n runs ≡ Some y → run_at n runs ≡ Some z → y ≡ z
at_eq n runs y z e f = some_eq y z (sym e ∙ f)

pub is_some : (o : Option Run) (y : Run) → o ≡ Some y → IsSome o
is_some o y e = subst IsSome (sym e) refl

-- ---- the neighbours of a fragment

opens_if : (o : Option Run) (P : Run → Type 0) → IsSomeAnd o P → (y : Run) × (o ≡ Some y) × P y
opens_if None P h = absurd h
opens_if (Some y) P h = (y, refl, h)

followed_none : (x : Run) (o : Option Run) (y : Run) → o ≡ Some y → followed_at x o ≡ false → fits y x ≡ false
followed_none x o y e f = sym (ap (followed_at x) e) ∙ f

following_none : (x : Run) (o : Option Run) (y : Run) → o ≡ Some y → following_at x o ≡ false → fits x y ≡ false
following_none x o y e f = sym (ap (following_at x) e) ∙ f

unfit : (t : Bool) → (t ≡ true → ⊥) → t ≡ false
unfit true h = absurd (h refl)
unfit false h = refl

pub none_followed : (x : Run) (runs : List Run) → InOrder 0 runs → IsLastBelow x.first runs None → IsFollowed x runs None
none_followed x runs h b = λ y i. unfit (fits y x) (λ e.
    let p = fits_parts y x e in
    let l = in_low 0 runs y h i in
    let lt : y.first < x.first = omega (arith, p.0, l.1) in
    let n : None ≡ Some y = sym (b y.first lt) ∙ in_at 0 runs y h i in cc)

pub has_run : (o : Option Run) → IsSome o → (y : Run) × (o ≡ Some y)
has_run None i = absurd cc
has_run (Some y) i = (y, refl)

pub not_followed : (x : Run) (runs : List Run) (f : ℕ) → InOrder 0 runs → IsLastBelow x.first runs (Some f) → followed_at x (run_at f runs) ≡ false → IsFollowed x runs None
not_followed x runs f h b n = λ y i. unfit (fits y x) (λ e.
    let p = fits_parts y x e in
    let l = in_low 0 runs y h i in
    let at = in_at 0 runs y h i in
    let lt : y.first < x.first = omega (arith, p.0, l.1) in
    let le : y.first ≤ f = b.2 y.first lt (is_some (run_at y.first runs) y at) in
    let z = has_run (run_at f runs) b.1 in
    let g = at_in f runs z.0 z.1 in
    elim (cases_lt y.first f) [
      | inl less ↦ let q = in_apart 0 runs y z.0 h i g.0 (omega (arith, less, g.1)) in let s = b.0 in omega (arith, q, g.1, s, p.0)
      | inr more ↦
          let same : y.first ≡ f = omega (arith, le, more) in
          let u : fits y x ≡ false = followed_none x (run_at f runs) y (ap (λ m. run_at m runs) (sym same) ∙ at) n in
          let v : true ≡ false = sym e ∙ u in cc
    ])

pub none_following : (x : Run) (runs : List Run) → InOrder 0 runs → IsFirstFrom (x.last + 1) runs None → IsFollowing x runs None
none_following x runs h b = λ y i. unfit (fits x y) (λ e.
    let p = fits_parts x y e in
    let le : x.last + 1 ≤ y.first = omega (arith, p.0) in
    let n : None ≡ Some y = sym (b y.first le) ∙ in_at 0 runs y h i in cc)

pub not_following : (x : Run) (runs : List Run) (f : ℕ) → InOrder 0 runs → IsFirstFrom (x.last + 1) runs (Some f) → following_at x (run_at f runs) ≡ false → IsFollowing x runs None
not_following x runs f h b n = λ y i. unfit (fits x y) (λ e.
    let p = fits_parts x y e in
    let at = in_at 0 runs y h i in
    let from : x.last + 1 ≤ y.first = omega (arith, p.0) in
    let le : f ≤ y.first = b.2 y.first from (is_some (run_at y.first runs) y at) in
    let lo = b.0 in
    let same : y.first ≡ f = omega (arith, le, lo, p.0) in
    let u : fits x y ≡ false = following_none x (run_at f runs) y (ap (λ m. run_at m runs) (sym same) ∙ at) n in
    let v : true ≡ false = sym e ∙ u in cc)

-- ---- a fragment that is added

-- a run below the fragment that doesn't fit is passed
passed : (x y : Run) (later : List Run) → fits y x ≡ false → y.last < x.first → add_run x (y ∷ later) ≡ y ∷ add_run x later
passed x y later f lt = rw (f, lt-ltb y.last x.first lt) refl

-- a run above it isn't
stopped : (x y : Run) (later : List Run) → fits y x ≡ false → x.first ≤ y.last → add_run x (y ∷ later) ≡ join_next x (y ∷ later)
stopped x y later f le = rw (f, le-ltb y.last x.first le) refl

fitted : (x y : Run) (later : List Run) → fits y x ≡ true → add_run x (y ∷ later) ≡ join_next (joined y x) later
fitted x y later f = rw f refl

next_yes : (x y : Run) (later : List Run) → fits x y ≡ true → join_next x (y ∷ later) ≡ joined x y ∷ later
next_yes x y later e = rw e refl

next_no : (x y : Run) (later : List Run) → fits x y ≡ false → join_next x (y ∷ later) ≡ x ∷ y ∷ later
next_no x y later e = rw e refl

far_unfit : (y x : Run) → (y.last + 1 ≡ x.first → ⊥) → fits y x ≡ false
far_unfit y x ne = ap (λ t. cond t (cond y.rear false (cond x.front false true)) false) (ne_eqb (y.last + 1) x.first ne)

pub skip_at : (n : ℕ) (y : Run) (later : List Run) → (y.first == n) ≡ false → run_at n (y ∷ later) ≡ run_at n later
skip_at n y later e = ap (λ t. cond t (Some y) (run_at n later)) e

skip_without : (n : ℕ) (y : Run) (later : List Run) → (y.first == n) ≡ false → without_run n (y ∷ later) ≡ y ∷ without_run n later
skip_without n y later e = ap (λ t. cond t later (y ∷ without_run n later)) e

here_without : (n : ℕ) (y : Run) (later : List Run) → (y.first == n) ≡ true → without_run n (y ∷ later) ≡ later
here_without n y later e = ap (λ t. cond t later (y ∷ without_run n later)) e

skip_changed : (f : Run → Run) (n : ℕ) (y : Run) (later : List Run) → (y.first == n) ≡ false → changed_run f n (y ∷ later) ≡ y ∷ changed_run f n later
skip_changed f n y later e = ap (λ t. cond t (f y ∷ later) (y ∷ changed_run f n later)) e

here_changed : (f : Run → Run) (n : ℕ) (y : Run) (later : List Run) → (y.first == n) ≡ true → changed_run f n (y ∷ later) ≡ f y ∷ later
here_changed f n y later e = ap (λ t. cond t (f y ∷ later) (y ∷ changed_run f n later)) e

pub here_at : (n : ℕ) (y z : Run) (later : List Run) → (y.first == n) ≡ true → run_at n (y ∷ later) ≡ Some z → y ≡ z
here_at n y z later e f = some_eq y z (sym (ap (λ t. cond t (Some y) (run_at n later)) e) ∙ f)

-- the run after the fragment is the next one
next_run : (x y z : Run) (later : List Run) → x.first ≡ x.last → InOrder x.first later → IsFree x.first later → run_at z.first later ≡ Some z → fits x z ≡ true
    → over y x.bytes z ∷ without_run z.first later ≡ join_next (joined y x) later
next_run x y z [] s h free e f = absurd cc
next_run x y z (w ∷ later) s h free e f =
    let p = fits_parts x z f in
    let above : x.first < w.first = elim (cases_lt x.first w.first) [ inl lt ↦ lt | inr le ↦ absurd (free.0 le (omega (arith, h.0, h.1))) ] in
    elim (cases_Bool (w.first == z.first)) [
      | inl t ↦
          let g : w ≡ z = here_at z.first w z later t e in
          let u : fits (joined y x) w ≡ true = ap (λ (a : Run). fits (joined y x) a) g ∙ f in
          ap (λ (zs : List Run). over y x.bytes z ∷ zs) (here_without z.first w later t)
          ∙ (ap (λ (a : Run). over y x.bytes a ∷ later) (sym g) ∙ sym (next_yes (joined y x) w later u))
      | inr n ↦
          let q = at_in z.first later z (sym (skip_at z.first w later n) ∙ e) in
          let l = in_low (w.last + 1) later z h.2 q.0 in
          absurd (omega (arith, l.0, h.1, above, p.0, s))
    ]

-- the fragment joined to the run before it and to the one after it
pub extends_both : (low : ℕ) (runs : List Run) (x y z : Run) → x.first ≡ x.last → InOrder low runs → IsFree x.first runs → run_at y.first runs ≡ Some y → fits y x ≡ true → run_at z.first runs ≡ Some z → fits x z ≡ true
    → without_run z.first (changed_run (λ v. over v x.bytes z) y.first runs) ≡ add_run x runs
extends_both low [] x y z s h free e f g k = absurd cc
extends_both low (w ∷ later) x y z s h free e f g k =
    let p = fits_parts y x f in
    let r = fits_parts x z k in
    let to : Run → Run = λ v. over v x.bytes z in
    elim (cases_Bool (w.first == y.first)) [
      | inl t ↦
          let same : w ≡ y = here_at y.first w y later t e in
          let last = ap (λ (a : Run). a.last) same in
          let ne : (w.first == z.first) ≡ false = ne_eqb w.first z.first (λ q. omega (arith, q, last, h.1, p.0, r.0, s)) in
          let fw : fits w x ≡ true = ap (λ (a : Run). fits a x) same ∙ f in
          ap (without_run z.first) (here_changed to y.first w later t)
          ∙ (skip_without z.first (to w) later ne
          ∙ (next_run x w z later s (subst (λ m. InOrder m later) (ap (λ m. m + 1) last ∙ p.0) h.2) free.1 (sym (skip_at z.first w later ne) ∙ g) k ∙ sym (fitted x w later fw)))
      | inr n ↦
          let i = at_in y.first later y (sym (skip_at y.first w later n) ∙ e) in
          let l = in_low (w.last + 1) later y h.2 i.0 in
          let ne : (w.first == z.first) ≡ false = ne_eqb w.first z.first (λ q. omega (arith, q, l.0, l.1, h.1, p.0, r.0, s)) in
          let u : fits w x ≡ false = far_unfit w x (λ q. omega (arith, q, l.0, l.1, p.0)) in
          ap (without_run z.first) (skip_changed to y.first w later n)
          ∙ (skip_without z.first w (changed_run to y.first later) ne
          ∙ (ap (λ zs. w ∷ zs) (extends_both (w.last + 1) later x y z s h.2 free.1 (sym (skip_at y.first w later n) ∙ e) f (sym (skip_at z.first w later ne) ∙ g) k)
          ∙ sym (passed x w later u (omega (arith, l.0, l.1, p.0)))))
    ]

none_next : (x y : Run) (later : List Run) → IsFollowing x later None → joined y x ∷ later ≡ join_next (joined y x) later
none_next x y [] f = refl
none_next x y (w ∷ later) f = sym (next_no (joined y x) w later (f w (inl refl)))

-- the fragment joined to the run before it alone
pub extends_one : (low : ℕ) (runs : List Run) (x y : Run) → InOrder low runs → run_at y.first runs ≡ Some y → fits y x ≡ true → IsFollowing x runs None → changed_run (λ v. joined v x) y.first runs ≡ add_run x runs
extends_one low [] x y h e f k = absurd cc
extends_one low (w ∷ later) x y h e f k =
    let p = fits_parts y x f in
    let to : Run → Run = λ v. joined v x in
    elim (cases_Bool (w.first == y.first)) [
      | inl t ↦
          let same : w ≡ y = here_at y.first w y later t e in
          let fw : fits w x ≡ true = ap (λ (a : Run). fits a x) same ∙ f in
          here_changed to y.first w later t ∙ (none_next x w later (λ a i. k a (inr i)) ∙ sym (fitted x w later fw))
      | inr n ↦
          let i = at_in y.first later y (sym (skip_at y.first w later n) ∙ e) in
          let l = in_low (w.last + 1) later y h.2 i.0 in
          let u : fits w x ≡ false = far_unfit w x (λ q. omega (arith, q, l.0, l.1, p.0)) in
          skip_changed to y.first w later n
          ∙ (ap (λ zs. w ∷ zs) (extends_one (w.last + 1) later x y h.2 (sym (skip_at y.first w later n) ∙ e) f (λ a i. k a (inr i)))
          ∙ sym (passed x w later u (omega (arith, l.0, l.1, p.0))))
    ]

with_here : (x y : Run) (later : List Run) → x.first < y.first → with_run x (y ∷ later) ≡ x ∷ y ∷ later
with_here x y later lt = ap (λ t. cond t (x ∷ y ∷ later) (y ∷ with_run x later)) (lt-ltb x.first y.first lt)

with_past : (x y : Run) (later : List Run) → y.first ≤ x.first → with_run x (y ∷ later) ≡ y ∷ with_run x later
with_past x y later le = ap (λ t. cond t (x ∷ y ∷ later) (y ∷ with_run x later)) (le-ltb x.first y.first le)

-- the fragment joined to the run after it alone
pub puts_both : (low : ℕ) (runs : List Run) (x z : Run) → x.first ≡ x.last → InOrder low runs → IsFree x.first runs → IsFollowed x runs None → run_at z.first runs ≡ Some z → fits x z ≡ true
    → without_run z.first (with_run (joined x z) runs) ≡ add_run x runs
puts_both low [] x z s h free a e k = absurd cc
puts_both low (w ∷ later) x z s h free a e k =
    let r = fits_parts x z k in
    let u : fits w x ≡ false = a w (inl refl) in
    elim (cases_lt x.first w.first) [
      | inl lt ↦
          let nx : (x.first == z.first) ≡ false = ne_eqb x.first z.first (λ q. omega (arith, q, r.0, s)) in
          ap (without_run z.first) (with_here (joined x z) w later lt)
          ∙ (skip_without z.first (joined x z) (w ∷ later) nx ∙ (here lt ∙ sym (stopped x w later u (omega (arith, lt, h.1)))))
      | inr le ↦
          let below : w.last < x.first = elim (cases_lt w.last x.first) [ inl lt ↦ lt | inr ge ↦ absurd (free.0 le ge) ] in
          let ne : (w.first == z.first) ≡ false = ne_eqb w.first z.first (λ q. omega (arith, q, le, r.0, s)) in
          ap (without_run z.first) (with_past (joined x z) w later le)
          ∙ (skip_without z.first w (with_run (joined x z) later) ne
          ∙ (ap (λ zs. w ∷ zs) (puts_both (w.last + 1) later x z s h.2 free.1 (λ b i. a b (inr i)) (sym (skip_at z.first w later ne) ∙ e) k) ∙ sym (passed x w later u below)))
    ]
  where
    here : x.first < w.first → joined x z ∷ without_run z.first (w ∷ later) ≡ join_next x (w ∷ later)
    here lt = elim (cases_Bool (w.first == z.first)) [
      | inl t ↦
          let g : w ≡ z = here_at z.first w z later t e in
          let f : fits x w ≡ true = ap (λ (b : Run). fits x b) g ∙ k in
          ap (λ (zs : List Run). joined x z ∷ zs) (here_without z.first w later t) ∙ (ap (λ (b : Run). joined x b ∷ later) (sym g) ∙ sym (next_yes x w later f))
      | inr n ↦
          let p = fits_parts x z k in
          let q = at_in z.first later z (sym (skip_at z.first w later n) ∙ e) in
          let l = in_low (w.last + 1) later z h.2 q.0 in
          absurd (omega (arith, l.0, h.1, lt, p.0, s))
    ]

-- the fragment alone
pub puts_one : (low : ℕ) (runs : List Run) (x : Run) → InOrder low runs → IsFree x.first runs → IsFollowed x runs None → IsFollowing x runs None → with_run x runs ≡ add_run x runs
puts_one low [] x h free a b = refl
puts_one low (w ∷ later) x h free a b =
    let u : fits w x ≡ false = a w (inl refl) in
    elim (cases_lt x.first w.first) [
      | inl lt ↦ with_here x w later lt ∙ sym (stopped x w later u (omega (arith, lt, h.1)) ∙ next_no x w later (b w (inl refl)))
      | inr le ↦
          let below : w.last < x.first = elim (cases_lt w.last x.first) [ inl lt ↦ lt | inr ge ↦ absurd (free.0 le ge) ] in
          with_past x w later le ∙ (ap (λ zs. w ∷ zs) (puts_one (w.last + 1) later x h.2 free.1 (λ c i. a c (inr i)) (λ c i. b c (inr i))) ∙ sym (passed x w later u below))
    ]

-- ---- a number that is missing

not_known : (a : List Span) (n : ℕ) → lacks a n ≡ true → knows a n ≡ true → ⊥
not_known a n e k = let h : false ≡ true = sym (ap not k) ∙ e in cc

pub free_from : (a : List Span) (n : ℕ) (runs : List Run) → lacks a n ≡ true → AllKnown a runs → IsFree n runs
free_from a n [] e k = tt
free_from a n (y ∷ later) e k = (λ lo hi. not_known a n e (k.0 n lo hi), free_from a n later e k.1)

-- no run begins with such a number
pub free_none : (n : ℕ) (low : ℕ) (runs : List Run) → InOrder low runs → IsFree n runs → run_at n runs ≡ None
free_none n low [] h f = refl
free_none n low (y ∷ later) h f = skip_at n y later (ne_eqb y.first n (λ e. f.0 (omega (arith, e)) (omega (arith, e, h.1)))) ∙ free_none n (y.last + 1) later h.2 f.1

-- ---- the same by the numbers that the runs begin with

if_there : (o : Option Run) (y : Run) (P : Run → Type 0) → o ≡ Some y → IfSome o P → P y
if_there o y P e h = subst (λ p. IfSome p P) e h

there_and : (o : Option Run) (y : Run) (P : Run → Type 0) → o ≡ Some y → IsSomeAnd o P → P y
there_and o y P e h = subst (λ p. IsSomeAnd p P) e h

pub extended_one : (runs : List Run) (x : Run) (f : ℕ) → InOrder 0 runs → IsSomeAnd (run_at f runs) (λ y. fits y x ≡ true) → IsFollowing x runs None → changed_run (λ v. joined v x) f runs ≡ add_run x runs
extended_one runs x f h a b =
    let y = opens_if (run_at f runs) (λ v. fits v x ≡ true) a in
    let n = (at_in f runs y.0 y.1).1 in
    ap (λ m. changed_run (λ v. joined v x) m runs) (sym n) ∙ extends_one 0 runs x y.0 h (ap (λ m. run_at m runs) n ∙ y.1) y.2 b

pub extended_both : (runs new : List Run) (x : Run) (f g : ℕ) → x.first ≡ x.last → InOrder 0 runs → IsFree x.first runs → IsSomeAnd (run_at f runs) (λ y. fits y x ≡ true) → IsSomeAnd (run_at g runs) (λ z. fits x z ≡ true)
    → IsSomeAnd (run_at g runs) (λ z. new ≡ without_run g (changed_run (λ v. over v x.bytes z) f runs)) → new ≡ add_run x runs
extended_both runs new x f g s h free a c e =
    let y = opens_if (run_at f runs) (λ v. fits v x ≡ true) a in
    let z = opens_if (run_at g runs) (λ v. fits x v ≡ true) c in
    let n = (at_in f runs y.0 y.1).1 in
    let m = (at_in g runs z.0 z.1).1 in
    there_and (run_at g runs) z.0 (λ v. new ≡ without_run g (changed_run (λ w. over w x.bytes v) f runs)) z.1 e
    ∙ (ap (λ k. without_run k (changed_run (λ v. over v x.bytes z.0) f runs)) (sym m)
    ∙ (ap (λ k. without_run z.0.first (changed_run (λ v. over v x.bytes z.0) k runs)) (sym n)
    ∙ extends_both 0 runs x y.0 z.0 s h free (ap (λ k. run_at k runs) n ∙ y.1) y.2 (ap (λ k. run_at k runs) m ∙ z.1) z.2))

-- the two neighbours are two runs
pub neighbours_apart : (runs : List Run) (x : Run) (f g : ℕ) → x.first ≡ x.last → InOrder 0 runs → IsSomeAnd (run_at f runs) (λ y. fits y x ≡ true) → IsSomeAnd (run_at g runs) (λ z. fits x z ≡ true) → (f == g) ≡ false
neighbours_apart runs x f g s h a c =
    let y = opens_if (run_at f runs) (λ v. fits v x ≡ true) a in
    let z = opens_if (run_at g runs) (λ v. fits x v ≡ true) c in
    let i = at_in f runs y.0 y.1 in
    let m = (at_in g runs z.0 z.1).1 in
    let l = in_low 0 runs y.0 h i.0 in
    let p = fits_parts y.0 x y.2 in
    let q = fits_parts x z.0 z.2 in
    let n = i.1 in
    ne_eqb f g (λ e. omega (arith, e, n, m, l.1, p.0, q.0, s))

pub put_both : (runs : List Run) (x b : Run) (g : ℕ) → x.first ≡ x.last → InOrder 0 runs → IsFree x.first runs → IsFollowed x runs None → IsSomeAnd (run_at g runs) (λ z. fits x z ≡ true)
    → IfSome (run_at g runs) (λ z. b ≡ joined x z) → without_run g (with_run b runs) ≡ add_run x runs
put_both runs x b g s h free a c e =
    let z = opens_if (run_at g runs) (λ v. fits x v ≡ true) c in
    let m = (at_in g runs z.0 z.1).1 in
    ap (λ k. without_run k (with_run b runs)) (sym m)
    ∙ (ap (λ (w : Run). without_run z.0.first (with_run w runs)) (if_there (run_at g runs) z.0 (λ v. b ≡ joined x v) z.1 e) ∙ puts_both 0 runs x z.0 s h free a (ap (λ k. run_at k runs) m ∙ z.1) z.2)
