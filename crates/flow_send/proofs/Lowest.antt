-- Blocks of numbers in which no message is overdue.
use Rattle.std.proofs.Common.{◌≡◌, ◌≢◌, ◌⊎◌, ℕ, zero, suc, ◌+◌, ◌-◌, ◌*◌, ◌/◌, ◌%◌, ◌^◌, ◌<◌, ◌≤◌, ◌==◌, cond, Bool, true, false, ◌&&◌, ◌||◌, List, [], ◌∷◌, ◌++◌, length, get_or, replicate, Option, Some, None, refl, ap, sym, ◌∙◌, subst, arith, inl, inr}
use Rattle.std.specs.Prelude.{IfSome}
use Rattle.std.specs.Option.{is_some, unwrap_or, IsSomeAnd}
use Rattle.std.proofs.lemmas.Bool.{cases_Bool, cases_lt, cases_eq, eqb-true, eq-eqb, lt-leb}
use Rattle.rtmfp_data_chunks.specs.HandsOver.{IsIn}
use Rattle.flow_send.specs.declared.waiting.Waiting.{Waiting}
use Rattle.flow_send.specs.Rows.{Row}
use Rattle.flow_send.specs.Sender.{message_at, without_message, first_number, is_past, is_spent, is_overdue, first_overdue}
use Rattle.flow_send.specs.Deadlines.{IsNotBefore}
use Rattle.flow_send.specs.Steady.{Line}
use Rattle.flow_send.specs.Messages.{IsFirstFrom, InLine, is_left}
use Rattle.flow_send.specs.Lows.{block_of, low_at, AreLows, IsFoundIn, IsLowFrom, AllInBlocks, overdue_in}
use Rattle.flow_send.specs.Marks.{Marked, marked_at, Covers, IsFirstBlock, NoneSpentBefore}
use Rattle.flow_send.proofs.Marking.{covered}
use Rattle.flow_send.proofs.Quiet.{not_past, neither, not_before_lower}
use Rattle.flow_send.proofs.Walking.{here_at, skip_at, at_in, in_at, in_low, in_line, line_in, reach_none_if}

-- ---- places

pub same_all : (z k i : ℕ) → get_or (replicate k z) i z ≡ z
same_all z zero i = refl
same_all z (suc k) zero = refl
same_all z (suc k) (suc i) = same_all z k i

empty : (xs : List ℕ) (z i : ℕ) → length xs ≡ 0 → get_or xs i z ≡ z
empty [] z i e = refl
empty (x ∷ xs) z i e = absurd (omega (arith, e))

pub made : (xs ys : List ℕ) (z i : ℕ) → length xs ≡ 0 → ys ≡ replicate 2056 z → get_or ys i z ≡ get_or xs i z
made xs ys z i e f = ap (λ (zs : List ℕ). get_or zs i z) f ∙ (same_all z 2056 i ∙ sym (empty xs z i e))

pub inside : (xs : List ℕ) (i z : ℕ) → get_or xs i z < z → i < length xs
inside [] i z lt = absurd (omega (arith, lt))
inside (x ∷ xs) zero z lt = omega arith
inside (x ∷ xs) (suc i) z lt = let k = inside xs i z lt in omega (arith, k)

-- a moment that is lowered at one place
pub lowered : (old new : List ℕ) (block b low : ℕ) → low_at new block ≡ low → low ≤ low_at old block → ((c : ℕ) → c % 2056 ≢ block % 2056 → low_at new c ≡ low_at old c) → low_at new b ≤ low_at old b
lowered old new block b low own le others = elim (cases_eq (b % 2056) (block % 2056)) [
  | inl e ↦
      let p = ap (λ i. get_or new i 18446744073709551615) e in
      let q = ap (λ i. get_or old i 18446744073709551615) e in
      omega (arith, p, q, own, le)
  | inr ne ↦ let k = others b ne in omega (arith, k)
]

-- ---- one message

-- its block has no deadline before the moment and no mark
quiet : (moment n : ℕ) (rows : List Row) (lows : List ℕ) (m : Marked) (ws : List Waiting) (w : Waiting) → AreLows lows ws → Covers m ws n rows → IsIn w ws → (moment ≤ low_at lows (block_of w.number)) × (marked_at m (block_of w.number) ≡ false)
    → is_overdue moment n rows w ≡ false
quiet moment n rows lows m ws w l u i h =
    neither (is_past w.options.deadline moment) (is_spent w.options.resends w n rows) (not_past w.options.deadline (low_at lows (block_of w.number)) moment (l w i) h.0) (covered m ws n rows w u i h.1)

-- ---- a walk over the blocks

abbrev pub is_passed : Option ℕ → ℕ → Type 0
is_passed None b = Unit {0}
is_passed (Some g) b = b < g

abbrev pub Passed : ℕ → ℕ → List Row → List Waiting → Option ℕ → Type 0
Passed moment n rows ws next = (w : Waiting) → IsIn w ws → is_passed next (block_of w.number) → is_overdue moment n rows w ≡ false

pub pass_first : (moment n : ℕ) (rows : List Row) (lows : List ℕ) (m : Marked) (ws : List Waiting) (from to : ℕ) (next : Option ℕ) → AreLows lows ws → Covers m ws n rows → AllInBlocks from to ws → IsFirstBlock lows m from to moment next
    → Passed moment n rows ws next
pass_first moment n rows lows m ws from to None l u a h = λ w i p. let k = a w i in quiet moment n rows lows m ws w l u i (h (block_of w.number) k.0 k.1)
pass_first moment n rows lows m ws from to (Some g) l u a h = λ w i p. let k = a w i in quiet moment n rows lows m ws w l u i (h.2 (block_of w.number) k.0 p)

pub pass_next : (moment n : ℕ) (rows : List Row) (lows : List ℕ) (m : Marked) (ws : List Waiting) (from to b : ℕ) (next : Option ℕ) → AreLows lows ws → Covers m ws n rows → AllInBlocks from to ws
    → Passed moment n rows ws (Some b) → IsFoundIn moment n rows b ws None → IsFirstBlock lows m (b + 1) to moment next → Passed moment n rows ws next
pass_next moment n rows lows m ws from to b next l u a before here h = λ w i p. elim (cases_lt (block_of w.number) b) [
  | inl lt ↦ before w i lt
  | inr ge ↦ elim (cases_lt b (block_of w.number)) [
    | inl gt ↦ quiet moment n rows lows m ws w l u i (low_of next (block_of w.number) (omega (arith, gt)) (a w i).1 p h)
    | inr le ↦ here w i (omega (arith, ge, le))
  ]
]
  where
    low_of : (o : Option ℕ) (c : ℕ) → b + 1 ≤ c → c < to → is_passed o c → IsFirstBlock lows m (b + 1) to moment o → (moment ≤ low_at lows c) × (marked_at m c ≡ false)
    low_of None c lo hi p h = h c lo hi
    low_of (Some g) c lo hi p h = h.2 c lo p

pub few_of : (lows : List ℕ) (m : Marked) (from to moment : ℕ) (o : Option ℕ) → to < 2 ^ 60 → IsFirstBlock lows m from to moment o → IfSome o (λ g. g < 2 ^ 60)
few_of lows m from to moment None lt h = tt
few_of lows m from to moment (Some g) lt h = let k = h.1 in omega (arith, k, lt)

skip_if : (t : Bool) (n : ℕ) (rest : Option ℕ) → t ≡ false → cond t (Some n) rest ≡ rest
skip_if true n rest e = absurd cc
skip_if false n rest e = refl

find_if : (t : Bool) (n : ℕ) (rest : Option ℕ) → t ≡ true → cond t (Some n) rest ≡ Some n
find_if true n rest e = refl
find_if false n rest e = absurd cc

pub first_none : (moment n : ℕ) (rows : List Row) (ws : List Waiting) → ((w : Waiting) → IsIn w ws → is_overdue moment n rows w ≡ false) → first_overdue moment n rows ws ≡ None
first_none moment n rows [] h = refl
first_none moment n rows (x ∷ ws) h = skip_if (is_overdue moment n rows x) x.number (first_overdue moment n rows ws) (h x (inl refl)) ∙ first_none moment n rows ws (λ w i. h w (inr i))

pub first_some : (moment n low g : ℕ) (rows : List Row) (ws : List Waiting) (w : Waiting) → InLine low ws → message_at g ws ≡ Some w → is_overdue moment n rows w ≡ true → ((y : Waiting) → IsIn y ws → y.number < g → is_overdue moment n rows y ≡ false)
    → first_overdue moment n rows ws ≡ Some g
first_some moment n low g rows [] w h at e before = absurd cc
first_some moment n low g rows (x ∷ ws) w h at e before = elim (cases_Bool (x.number == g)) [
  | inl s ↦
      let same : x ≡ w = here_at g x w ws s at in
      find_if (is_overdue moment n rows x) x.number (first_overdue moment n rows ws) (ap (is_overdue moment n rows) same ∙ e) ∙ ap (λ k. Some k) (eqb-true x.number g s)
  | inr d ↦
      let at' : message_at g ws ≡ Some w = sym (skip_at g x ws d) ∙ at in
      let i = at_in g ws w at' in
      let l = in_low (x.number + x.count) ws w h.2 i.0 in
      skip_if (is_overdue moment n rows x) x.number (first_overdue moment n rows ws) (before x (inl refl) (let q = i.1 in omega (arith, q, l.0, h.1)))
      ∙ first_some moment n (x.number + x.count) g rows ws w h.2 at' e (λ y j lt. before y (inr j) lt)
]

some_and : {P : Waiting → Type 0} (o : Option Waiting) → IsSomeAnd o P → (w : Waiting) × (o ≡ Some w) × P w
some_and None h = absurd h
some_and (Some w) h = (w, refl, h)

-- what is found in a block is the first of all
pub found_first : (moment n b : ℕ) (rows : List Row) (ws : List Waiting) (o : Option ℕ) → InLine 0 ws → is_some o ≡ true → IsFoundIn moment n rows b ws o → Passed moment n rows ws (Some b) → o ≡ first_overdue moment n rows ws
found_first moment n b rows ws None h e f p = absurd cc
found_first moment n b rows ws (Some g) h e f p =
    let w = some_and (message_at g ws) f.0 in
    let q = f.1 in
    sym (first_some moment n 0 g rows ws w.0 h w.1 w.2 (λ y i lt. elim (cases_lt (block_of y.number) b) [
      | inl less ↦ p y i less
      | inr more ↦ f.2 y i (omega (arith, more, lt, q)) lt
    ]))

pub not_some : (o : Option ℕ) → is_some o ≡ false → o ≡ None
not_some None e = refl
not_some (Some g) e = absurd cc

-- ---- a walk in a block

-- those of the block that the walk has passed pass a test
abbrev pub Walked : (Waiting → Type 0) → ℕ → List Waiting → Option ℕ → Type 0
Walked P block ws next = (w : Waiting) → IsIn w ws → block_of w.number ≡ block → is_left next w ≡ false → P w

pub walk_from : (P : Waiting → Type 0) (block start : ℕ) (ws : List Waiting) (next : Option ℕ) → InLine 0 ws → start ≤ block * 64 → IsFirstFrom start ws next → Walked P block ws next
walk_from P block start ws next h le f = λ w i e n.
    let t = reach_none_if start ws next w f (omega (arith, le, e)) (in_at 0 ws w h i) in
    let c : true ≡ false = sym t ∙ n in absurd cc

pub walk_on : (P : Waiting → Type 0) (block f : ℕ) (ws : List Waiting) (next : Option ℕ) → InLine 0 ws → IsFirstFrom (f + 1) ws next → ((w : Waiting) → message_at f ws ≡ Some w → block_of w.number ≡ block → P w) → Walked P block ws (Some f) → Walked P block ws next
walk_on P block f ws next h g here before = λ w i e n. elim (cases_lt f w.number) [
  | inl gt ↦
      let t = reach_none_if (f + 1) ws next w g (omega (arith, gt)) (in_at 0 ws w h i) in
      absurd (let c : true ≡ false = sym t ∙ n in cc)
  | inr le ↦ elim (cases_lt w.number f) [
    | inl lt ↦ before w i e (lt-leb f w.number lt)
    | inr ge ↦ here w (ap (λ m. message_at m ws) (let q : f ≡ w.number = omega (arith, le, ge) in q) ∙ in_at 0 ws w h i) e
  ]
]

both_true : (a b : Bool) → (a && b) ≡ true → (a ≡ true) × (b ≡ true)
both_true true b e = (refl, e)
both_true false b e = absurd cc

-- the message at a number isn't overdue, or is
pub none_at : (moment n f block : ℕ) (rows : List Row) (ws : List Waiting) → overdue_in moment n rows block (message_at f ws) ≡ false → (w : Waiting) → message_at f ws ≡ Some w → block_of w.number ≡ block → is_overdue moment n rows w ≡ false
none_at moment n f block rows ws e w at b =
    sym (ap (λ t. t && is_overdue moment n rows w) (eq-eqb (block_of w.number) block b)) ∙ (sym (ap (overdue_in moment n rows block) at) ∙ e)

pub one_at : (moment n f block : ℕ) (rows : List Row) (ws : List Waiting) → InLine 0 ws → overdue_in moment n rows block (message_at f ws) ≡ true → Walked (λ w. is_overdue moment n rows w ≡ false) block ws (Some f) → IsFoundIn moment n rows block ws (Some f)
one_at moment n f block rows ws h e walked = found_if (message_at f ws) refl e
  where
    found_if : (o : Option Waiting) → message_at f ws ≡ o → overdue_in moment n rows block o ≡ true → IsFoundIn moment n rows block ws (Some f)
    found_if None at k = absurd cc
    found_if (Some w) at k =
        let p = both_true (block_of w.number == block) (is_overdue moment n rows w) k in
        let i = at_in f ws w at in
        let b = eqb-true (block_of w.number) block p.0 in
        (subst (λ (q : Option Waiting). IsSomeAnd q (λ v. is_overdue moment n rows v ≡ true)) (sym at) p.1, ap block_of (sym i.1) ∙ b, λ y j c lt. walked y j c (lt-leb f y.number lt))

pub walk_lower : (low less block : ℕ) (ws : List Waiting) (f : ℕ) → less ≤ low → Walked (λ w. IsNotBefore low w.options.deadline) block ws (Some f) → Walked (λ w. IsNotBefore less w.options.deadline) block ws (Some f)
walk_lower low less block ws f le h = λ w i e n. not_before_lower less low w.options.deadline le (h w i e n)

pub at_latest : (f block low latest : ℕ) (ws : List Waiting) → low ≤ latest → IfSome (message_at f ws) (λ w. IsNotBefore latest w.options.deadline) → (w : Waiting) → message_at f ws ≡ Some w → block_of w.number ≡ block → IsNotBefore low w.options.deadline
at_latest f block low latest ws le h w at e = not_before_lower low latest w.options.deadline le (subst (λ (o : Option Waiting). IfSome o (λ v. IsNotBefore latest v.options.deadline)) at h)

-- ---- the blocks of all

pub first_least : (low : ℕ) (ws : List Waiting) (w : Waiting) → InLine low ws → IsIn w ws → unwrap_or (first_number ws) 0 ≤ w.number
first_least low [] w h i = absurd i
first_least low (x ∷ ws) w h i = elim i [
  | inl e ↦ let k = ap (λ (y : Waiting). y.number) e in omega (arith, k)
  | inr j ↦ let l = in_low (x.number + x.count) ws w h.2 j in omega (arith, l.0)
]

pub all_in : (high from to : ℕ) (ws : List Waiting) → Line 0 high ws → from ≡ block_of (unwrap_or (first_number ws) 0) → to ≡ (high - 1) / 64 + 1 → AllInBlocks from to ws
all_in high from to ws h e f = λ w i.
    let l = first_least 0 ws w (in_line 0 high ws h) i in
    let c = (in_low 0 ws w (in_line 0 high ws h) i).1 in
    let k = line_in 0 high ws w h i in
    (omega (arith, e, l), omega (arith, f, c, k))

-- ---- what keeps the moments

pub lows_lower : (old new : List ℕ) (ws : List Waiting) → ((b : ℕ) → low_at new b ≤ low_at old b) → AreLows old ws → AreLows new ws
lows_lower old new ws le h = λ w i. not_before_lower (low_at new (block_of w.number)) (low_at old (block_of w.number)) w.options.deadline (le (block_of w.number)) (h w i)

pub from_more : (x e : Waiting) (ws : List Waiting) → IsIn x (ws ++ e ∷ []) → IsIn x ws ⊎ (x ≡ e)
from_more x e [] (inl q) = inr q
from_more x e [] (inr i) = absurd i
from_more x e (y ∷ ws) (inl q) = inl (inl q)
from_more x e (y ∷ ws) (inr i) = later (from_more x e ws i)
  where
    later : IsIn x ws ⊎ (x ≡ e) → IsIn x (y ∷ ws) ⊎ (x ≡ e)
    later (inl j) = inl (inr j)
    later (inr q) = inr q

pub lows_push : (lows : List ℕ) (ws : List Waiting) (w : Waiting) → AreLows lows ws → IsNotBefore (low_at lows (block_of w.number)) w.options.deadline → AreLows lows (ws ++ w ∷ [])
lows_push lows ws w h own = λ y i. elim (from_more y w ws i) [
  | inl j ↦ h y j
  | inr e ↦ subst (λ (v : Waiting). IsNotBefore (low_at lows (block_of v.number)) v.options.deadline) (sym e) own
]

pub in_without : (n : ℕ) (ws : List Waiting) (w : Waiting) → IsIn w (without_message n ws) → IsIn w ws
in_without n [] w i = absurd i
in_without n (x ∷ ws) w i = without_if (x.number == n) i (in_without n ws w)
  where
    without_if : (t : Bool) → IsIn w (cond t ws (x ∷ without_message n ws)) → (IsIn w (without_message n ws) → IsIn w ws) → IsIn w (x ∷ ws)
    without_if true j ih = inr j
    without_if false (inl e) ih = inl e
    without_if false (inr j) ih = inr (ih j)

pub lows_without : (lows : List ℕ) (n : ℕ) (ws : List Waiting) → AreLows lows ws → AreLows lows (without_message n ws)
lows_without lows n ws h = λ w i. h w (in_without n ws w i)

-- a place's moment is found anew, by the first block that uses it
pub lows_raised : (old new : List ℕ) (from to block low : ℕ) (ws : List Waiting) → AreLows old ws → AllInBlocks from to ws → block < from + 2056 → IsLowFrom block to ws low → low_at new block ≡ low
    → ((b : ℕ) → b % 2056 ≢ block % 2056 → low_at new b ≡ low_at old b) → AreLows new ws
lows_raised old new from to block low ws h a first l own others = λ w i.
    let k = a w i in
    elim (cases_eq (block_of w.number % 2056) (block % 2056)) [
      | inl e ↦
          let behind : block ≤ block_of w.number = let k0 = k.0 in omega (arith, e, k0, first) in
          subst (λ m. IsNotBefore m w.options.deadline) (sym (ap (λ p. get_or new p 18446744073709551615) e ∙ own)) (l w i behind k.1 e)
      | inr ne ↦ subst (λ m. IsNotBefore m w.options.deadline) (sym (others (block_of w.number) ne)) (h w i)
    ]

-- ---- messages before the first that is overdue

or_both : (a b : Bool) → (a || b) ≡ false → (a ≡ false) × (b ≡ false)
or_both true b e = absurd cc
or_both false b e = (refl, e)

not_before : (moment n low : ℕ) (rows : List Row) (ws : List Waiting) (o : Option ℕ) → InLine low ws → o ≡ first_overdue moment n rows ws → (w : Waiting) → IsIn w ws → is_passed o w.number → is_overdue moment n rows w ≡ false
not_before moment n low rows [] o h e w i p = absurd i
not_before moment n low rows (x ∷ ws) o h e w i p = elim (cases_Bool (is_overdue moment n rows x)) [
  | inl t ↦
      let f : o ≡ Some x.number = e ∙ find_if (is_overdue moment n rows x) x.number (first_overdue moment n rows ws) t in
      let lt : w.number < x.number = subst (λ (q : Option ℕ). is_passed q w.number) f p in
      elim i [
        | inl s ↦ let k = ap (λ (y : Waiting). y.number) s in absurd (omega (arith, k, lt))
        | inr j ↦ let l = in_low (x.number + x.count) ws w h.2 j in absurd (omega (arith, l.0, lt))
      ]
  | inr t ↦ elim i [
    | inl s ↦ ap (λ (y : Waiting). is_overdue moment n rows y) s ∙ t
    | inr j ↦ not_before moment n (x.number + x.count) rows ws o h.2 (e ∙ skip_if (is_overdue moment n rows x) x.number (first_overdue moment n rows ws) t) w j p
  ]
]

-- of none that begins in an earlier block a lost number was sent as often as its limit allows
pub spent_after : (moment n low : ℕ) (rows : List Row) (ws : List Waiting) (o : Option ℕ) → InLine low ws → o ≡ first_overdue moment n rows ws → NoneSpentBefore (block_of (unwrap_or o 18446744073709551615)) n rows ws
spent_after moment n low rows ws o h e = λ w i lt. (or_both (is_past w.options.deadline moment) (is_spent w.options.resends w n rows) (not_before moment n low rows ws o h e w i (below o w.number lt))).1
  where
    below : (q : Option ℕ) (k : ℕ) → block_of k < block_of (unwrap_or q 18446744073709551615) → is_passed q k
    below None k lt = tt
    below (Some g) k lt = omega (arith, lt)
