-- Marks of blocks, and the messages of which a lost number was sent again as often as their limit allows.
use Rattle.std.proofs.Common.{◌≡◌, ◌≢◌, ◌⊎◌, ℕ, zero, suc, ◌+◌, ◌-◌, ◌%◌, ◌<◌, ◌≤◌, map, Bool, true, false, ◌&&◌, ◌||◌, nat_le, nat_lt, List, [], ◌∷◌, ◌++◌, length, drop, get_or, replicate, Option, Some, None, refl, ap, sym, ◌∙◌, subst, arith, inl, inr}
use Rattle.std.specs.Prelude.{slice_get}
use Rattle.std.specs.Option.{unwrap_or}
use Rattle.std.proofs.lemmas.Bool.{cases_Bool, cases_lt, cases_eq, lt-ltb, le-leb, leb-true, ltb-true}
use Rattle.rtmfp_data_chunks.specs.HandsOver.{IsIn}
use Rattle.flow_send.specs.declared.waiting.Waiting.{Waiting}
use Rattle.flow_send.specs.declared.loss.Loss.{Loss}
use Rattle.flow_send.specs.declared.loss.Loss.TheVariants.{Late, Third}
use Rattle.flow_send.specs.Rows.{Row, row_at, is_lost, is_flying, any_row, map_rows}
use Rattle.flow_send.specs.Sender.{message_at, has_number, is_spent, is_spent_row}
use Rattle.flow_send.specs.Messages.{InLine, Reaches, touches, is_left}
use Rattle.flow_send.specs.Ordered.{AllThere, Rising, NonFalling}
use Rattle.flow_send.specs.Deadlines.{NoneLimited}
use Rattle.flow_send.specs.Lows.{block_of, AllInBlocks}
use Rattle.flow_send.specs.Marks.{Marked, marked_at, is_reached, Noted, AllRows, Covers, is_losing, WillCover, may_lose, Grows, NoneSpentBefore, NoneSpentBeside}
use Rattle.flow_send.proofs.Walking.{in_apart, in_at, at_in}

-- ---- all rows

pub all_rows : (P Q : ℕ → Row → Type 0) (n : ℕ) (rows : List Row) → ((k : ℕ) (r : Row) → P k r → Q k r) → AllRows P n rows → AllRows Q n rows
all_rows P Q n [] h a = tt
all_rows P Q n (r ∷ rows) h a = (h n r a.0, all_rows P Q (n + 1) rows h a.1)

pub all_both : (P Q S : ℕ → Row → Type 0) (n : ℕ) (rows : List Row) → ((k : ℕ) (r : Row) → P k r → Q k r → S k r) → AllRows P n rows → AllRows Q n rows → AllRows S n rows
all_both P Q S n [] h a b = tt
all_both P Q S n (r ∷ rows) h a b = (h n r a.0 b.0, all_both P Q S (n + 1) rows h a.1 b.1)

pub all_free : (P : ℕ → Row → Type 0) (n : ℕ) (rows : List Row) → ((k : ℕ) (r : Row) → P k r) → AllRows P n rows
all_free P n [] h = tt
all_free P n (r ∷ rows) h = (h n r, all_free P (n + 1) rows h)

-- what lies outside of the rows
pub all_outside : (P : ℕ → Row → Type 0) (number n : ℕ) (rows : List Row) → (number < n) ⊎ (n + length rows ≤ number) → AllRows (λ k r. k ≡ number → P k r) n rows
all_outside P number n [] h = tt
all_outside P number n (r ∷ rows) h = (
  λ e. absurd (elim h [ inl lt ↦ omega (arith, e, lt) | inr le ↦ omega (arith, e, le) ]),
  all_outside P number (n + 1) rows (elim h [ inl lt ↦ inl (omega (arith, lt)) | inr le ↦ inr (omega (arith, le)) ]),
)

pub all_at : (P : ℕ → Row → Type 0) (at number n : ℕ) (rows : List Row) → number ≡ n + at → at < length rows → P number (row_at rows at) → AllRows (λ k r. k ≡ number → P k r) n rows
all_at P at number n [] e lt p = tt
all_at P zero number n (r ∷ rows) e lt p = (λ s. subst (λ k. P k r) (sym s) p, all_outside P number (n + 1) rows (inl (omega (arith, e))))
all_at P (suc at) number n (r ∷ rows) e lt p = (λ s. absurd (omega (arith, s, e)), all_at P at number (n + 1) rows (omega (arith, e)) (omega arith) p)

-- ---- what is spent

both : (a b : Bool) → a ≡ true → b ≡ true → (a && b) ≡ true
both true b e f = f
both false b e f = absurd cc

or_both : (a b : Bool) → (a || b) ≡ false → (a ≡ false) × (b ≡ false)
or_both true b e = absurd cc
or_both false b e = (refl, e)

no_row : (a l s rest : Bool) → (a ≡ true → l ≡ true → s ≡ true → ⊥) → rest ≡ false → ((a && (l && s)) || rest) ≡ false
no_row true true true rest h e = absurd (h refl refl refl)
no_row true true false rest h e = e
no_row true false s rest h e = e
no_row false l s rest h e = e

-- a message of an unmarked block isn't
not_spent : (m : Marked) (ws : List Waiting) (n : ℕ) (rows : List Row) (w : Waiting) (limit : ℕ) → Covers m ws n rows → IsIn w ws → w.options.resends ≡ Some limit → marked_at m (block_of w.number) ≡ false → any_row (λ k r. has_number w k && is_spent_row limit r) n rows ≡ false
not_spent m ws n [] w limit c i e f = refl
not_spent m ws n (r ∷ rows) w limit c i e f =
    no_row (has_number w n) (is_lost r.state) (nat_le limit r.resends) (any_row (λ k x. has_number w k && is_spent_row limit x) (n + 1) rows)
    (λ h l s. let t = c.0 l w i h (ap (λ o. is_reached o r.resends) e ∙ s) in let q : true ≡ false = sym t ∙ f in cc)
    (not_spent m ws (n + 1) rows w limit c.1 i e f)

pub covered : (m : Marked) (ws : List Waiting) (n : ℕ) (rows : List Row) (w : Waiting) → Covers m ws n rows → IsIn w ws → marked_at m (block_of w.number) ≡ false → is_spent w.options.resends w n rows ≡ false
covered m ws n rows w c i f = by_limit w.options.resends refl
  where
    by_limit : (o : Option ℕ) → w.options.resends ≡ o → is_spent o w n rows ≡ false
    by_limit None e = refl
    by_limit (Some limit) e = not_spent m ws n rows w limit c i e f

spent_later : (limit : Option ℕ) (w : Waiting) (n : ℕ) (r : Row) (rows : List Row) → is_spent limit w n (r ∷ rows) ≡ false → is_spent limit w (n + 1) rows ≡ false
spent_later None w n r rows e = refl
spent_later (Some limit) w n r rows e = (or_both (has_number w n && is_spent_row limit r) (any_row (λ k x. has_number w k && is_spent_row limit x) (n + 1) rows) e).1

spent_here : (limit : Option ℕ) (w : Waiting) (n : ℕ) (r : Row) (rows : List Row) → is_spent limit w n (r ∷ rows) ≡ false → has_number w n ≡ true → is_lost r.state ≡ true → is_reached limit r.resends ≡ true → ⊥
spent_here None w n r rows e h l s = absurd cc
spent_here (Some limit) w n r rows e h l s =
    let p = (or_both (has_number w n && is_spent_row limit r) (any_row (λ k x. has_number w k && is_spent_row limit x) (n + 1) rows) e).0 in
    let q : true ≡ false = sym (both (has_number w n) (is_spent_row limit r) h (both (is_lost r.state) (nat_le limit r.resends) l s)) ∙ p in
    absurd cc

-- other marks, where those stay of the messages that may be spent
pub covers_by : (old new : Marked) (ws : List Waiting) (n : ℕ) (rows : List Row)
    → ((w : Waiting) → IsIn w ws → (is_spent w.options.resends w n rows ≡ false) ⊎ (marked_at old (block_of w.number) ≡ true → marked_at new (block_of w.number) ≡ true)) → Covers old ws n rows → Covers new ws n rows
covers_by old new ws n [] h c = tt
covers_by old new ws n (r ∷ rows) h c = (
  λ l w i has s. elim (h w i) [
    | inl e ↦ absurd (spent_here w.options.resends w n r rows e has l s)
    | inr g ↦ g (c.0 l w i has s)
  ],
  covers_by old new ws (n + 1) rows (λ w i. elim (h w i) [ inl e ↦ inl (spent_later w.options.resends w n r rows e) | inr g ↦ inr g ]) c.1,
)

pub covers_grown : (old new : Marked) (ws : List Waiting) (n : ℕ) (rows : List Row) → Grows old new → Covers old ws n rows → Covers new ws n rows
covers_grown old new ws n rows g c = covers_by old new ws n rows (λ w i. inr (g (block_of w.number))) c

pub covers_same : (old new : Marked) (ws : List Waiting) (n : ℕ) (rows : List Row) → ((b : ℕ) → marked_at new b ≡ marked_at old b) → Covers old ws n rows → Covers new ws n rows
covers_same old new ws n rows e c = covers_grown old new ws n rows (λ b h. e b ∙ h) c

pub covers_quiet : (old new : Marked) (ws : List Waiting) (n : ℕ) (rows : List Row) → ((w : Waiting) → IsIn w ws → is_spent w.options.resends w n rows ≡ false) → Covers old ws n rows → Covers new ws n rows
covers_quiet old new ws n rows h c = covers_by old new ws n rows (λ w i. inl (h w i)) c

pub covers_cleared : (old new : Marked) (from end block : ℕ) (ws : List Waiting) (n : ℕ) (rows : List Row) → from ≤ block → block < end → NoneSpentBeside from end n rows ws
    → ((b : ℕ) → b % 2056 ≢ block % 2056 → marked_at old b ≡ true → marked_at new b ≡ true) → Covers old ws n rows → Covers new ws n rows
covers_cleared old new from end block ws n rows lo hi quiet others c =
    covers_by old new ws n rows (λ w i. elim (cases_eq (block_of w.number % 2056) (block % 2056)) [
      | inl e ↦ inl (quiet w i block lo hi e)
      | inr ne ↦ inr (others (block_of w.number) ne)
    ]) c

-- behind a block of the last ones, as many as there are places, none uses its place
pub none_beside : (low from to end : ℕ) (ws : List Waiting) (n : ℕ) (rows : List Row) → AllInBlocks low to ws → to - from ≤ 2056 → NoneSpentBefore end n rows ws → NoneSpentBeside from end n rows ws
none_beside low from to end ws n rows a few quiet = λ w i b lo hi e. quiet w i (let k = (a w i).1 in omega (arith, e, k, few, lo, hi))

-- ---- other messages

pub covers_fewer : (m : Marked) (ws less : List Waiting) (n : ℕ) (rows : List Row) → ((w : Waiting) → IsIn w less → IsIn w ws) → Covers m ws n rows → Covers m less n rows
covers_fewer m ws less n rows h c = all_rows (λ k r. is_lost r.state ≡ true → Noted m ws k r.resends) (λ k r. is_lost r.state ≡ true → Noted m less k r.resends) n rows (λ k r g l w i. g l w (h w i)) c

-- ---- other rows

abbrev pub KeepsLost : Row → Row → Type 0
KeepsLost r x = is_lost x.state ≡ true → (is_lost r.state ≡ true) × (x.resends ≡ r.resends)

pub covers_map : (m : Marked) (ws : List Waiting) (f : ℕ → Row → Row) (n : ℕ) (rows : List Row) → ((k : ℕ) (r : Row) → KeepsLost r (f k r)) → Covers m ws n rows → Covers m ws n (map_rows f n rows)
covers_map m ws f n [] h c = tt
covers_map m ws f n (r ∷ rows) h c = (λ l. let k = h n r l in subst (λ i. Noted m ws n i) (sym k.1) (c.0 k.0), covers_map m ws f (n + 1) rows h c.1)

pub covers_drop : (m : Marked) (ws : List Waiting) (forward k : ℕ) (rows : List Row) → Covers m ws (forward + 1) rows → Covers m ws (forward + k + 1) (drop k rows)
covers_drop m ws forward zero [] c = tt
covers_drop m ws forward zero (r ∷ rows) c = let e : forward + 1 ≡ forward + zero + 1 = omega arith in subst (λ i. Covers m ws i (r ∷ rows)) e c
covers_drop m ws forward (suc k) [] c = tt
covers_drop m ws forward (suc k) (r ∷ rows) c =
    let e : forward + 1 + k + 1 ≡ forward + suc k + 1 = omega arith in
    subst (λ i. Covers m ws i (drop k rows)) e (covers_drop m ws (forward + 1) k rows c.1)

pub covers_append : (m : Marked) (ws : List Waiting) (n : ℕ) (rows more : List Row) → Covers m ws n rows → ((k : ℕ) → Covers m ws k more) → Covers m ws n (rows ++ more)
covers_append m ws n [] more c h = h n
covers_append m ws n (r ∷ rows) more c h = (c.0, covers_append m ws (n + 1) rows more c.1 h)

-- ---- rows that will be lost

pub covers_lost : (m : Marked) (ws : List Waiting) (f : Row → Row) (loss : Loss) (n : ℕ) (rows : List Row) → ((r : Row) → (is_losing loss r ≡ true) × ((f r).resends ≡ r.resends) ⊎ KeepsLost r (f r)) → Covers m ws n rows → WillCover m ws loss n rows → Covers m ws n (map f rows)
covers_lost m ws f loss n [] h c d = tt
covers_lost m ws f loss n (r ∷ rows) h c d = (
  λ l. elim (h r) [
    | inl p ↦ subst (λ i. Noted m ws n i) (sym p.1) (d.0 p.0)
    | inr g ↦ let k = g l in subst (λ i. Noted m ws n i) (sym k.1) (c.0 k.0)
  ],
  covers_lost m ws f loss (n + 1) rows h c.1 d.1,
)

-- ---- places

pub same_all : (k i : ℕ) → get_or (replicate k false) i false ≡ false
same_all zero i = refl
same_all (suc k) zero = refl
same_all (suc k) (suc i) = same_all k i

empty : (xs : List Bool) (i : ℕ) → length xs ≡ 0 → get_or xs i false ≡ false
empty [] i e = refl
empty (x ∷ xs) i e = absurd (omega (arith, e))

pub made : (all : Bool) (xs ys : List Bool) (i : ℕ) → length xs ≡ 0 → ys ≡ replicate 2056 false → (all || get_or ys i false) ≡ (all || get_or xs i false)
made all xs ys i e f = ap (λ b. all || b) (ap (λ (zs : List Bool). get_or zs i false) f ∙ (same_all 2056 i ∙ sym (empty xs i e)))

-- ---- the message of a number

and_true : (a b : Bool) → (a && b) ≡ true → (a ≡ true) × (b ≡ true)
and_true true b e = (refl, e)
and_true false b e = absurd cc

pub has_it : (w : Waiting) (k : ℕ) → has_number w k ≡ true → (w.number ≤ k) × (k < w.number + w.count)
has_it w k e = let p = and_true (nat_le w.number k) (nat_lt k (w.number + w.count)) e in (leb-true w.number k p.0, ltb-true k (w.number + w.count) p.1)

touches_it : (w : Waiting) (k : ℕ) → touches k k w ≡ true → (w.number ≤ k) × (k < w.number + w.count)
touches_it w k e = let p = and_true (nat_le w.number k) (nat_lt k (w.number + w.count)) e in (leb-true w.number k p.0, ltb-true k (w.number + w.count) p.1)

same_message : (ws : List Waiting) (k : ℕ) (w m : Waiting) → InLine 0 ws → IsIn w ws → IsIn m ws → has_number w k ≡ true → touches k k m ≡ true → w ≡ m
same_message ws k w m h i j e f =
    let p = has_it w k e in
    let q = touches_it m k f in
    let n : w.number ≡ m.number = elim (cases_lt w.number m.number) [
      | inl lt ↦ absurd (let a = in_apart 0 ws w m h i j lt in omega (arith, a, p.1, q.0))
      | inr ge ↦ elim (cases_lt m.number w.number) [
        | inl gt ↦ absurd (let a = in_apart 0 ws m w h j i gt in omega (arith, a, q.1, p.0))
        | inr le ↦ omega (arith, ge, le)
      ]
    ] in
    some_is w m (sym (in_at 0 ws w h i) ∙ (ap (λ (x : ℕ). message_at x ws) n ∙ in_at 0 ws m h j))
  where
    some_is : (y z : Waiting) → Some y ≡ Some z → y ≡ z
    some_is y z e = ap (λ o. unwrap_or o y) e

is_reached_by : (ws : List Waiting) (k : ℕ) (w : Waiting) (o : Option ℕ) → Reaches k ws o → IsIn w ws → has_number w k ≡ true → is_left o w ≡ true
is_reached_by ws k w o r i e = elim (cases_Bool (is_left o w)) [ inl t ↦ t | inr f ↦ absurd (let le = r w i f in let p = has_it w k e in omega (arith, le, p.1)) ]

pub none_noted : (m : Marked) (ws : List Waiting) (k resends : ℕ) → Reaches k ws None → Noted m ws k resends
none_noted m ws k resends r = λ w i e s. let t = is_reached_by ws k w None r i e in absurd cc

pub one_noted : (m : Marked) (ws : List Waiting) (k resends first : ℕ) (x : Waiting) → InLine 0 ws → message_at first ws ≡ Some x → touches k k x ≡ true → (is_reached x.options.resends resends ≡ true → marked_at m (block_of first) ≡ true) → Noted m ws k resends
one_noted m ws k resends first x h at t g = λ w i e s.
    let j = at_in first ws x at in
    let same = same_message ws k w x h i j.0 e t in
    ap (λ (y : Waiting). marked_at m (block_of y.number)) same ∙ (ap (λ b. marked_at m (block_of b)) j.1 ∙ g (sym (ap (λ (y : Waiting). is_reached y.options.resends resends) same) ∙ s))

pub all_noted : (m : Marked) (ws : List Waiting) (k resends : ℕ) → ((b : ℕ) → marked_at m b ≡ true) → Noted m ws k resends
all_noted m ws k resends h = λ w i e s. h (block_of w.number)

-- ---- sendings in their order

get_here : (q : List (ℕ × ℕ × ℕ)) (i : ℕ) (e : ℕ × ℕ × ℕ) → slice_get q i ≡ Some e → drop i q ≡ e ∷ drop (i + 1) q
get_here [] i e h = absurd cc
get_here (x ∷ q) zero e h = ap (λ y. y ∷ q) (some_is x e h)
  where
    some_is : (y z : ℕ × ℕ × ℕ) → Some y ≡ Some z → y ≡ z
    some_is y z k = ap (λ o. unwrap_or o y) k
get_here (x ∷ q) (suc i) e h = let k : suc i + 1 ≡ suc (i + 1) = omega arith in get_here q i e h ∙ ap (λ j. e ∷ drop j (x ∷ q)) (sym k)

get_end : (q : List (ℕ × ℕ × ℕ)) (i : ℕ) → slice_get q i ≡ None → drop i q ≡ []
get_end [] zero h = refl
get_end [] (suc i) h = refl
get_end (x ∷ q) zero h = absurd cc
get_end (x ∷ q) (suc i) h = get_end q i h

pub get_less : (q : List (ℕ × ℕ × ℕ)) (i : ℕ) (e : ℕ × ℕ × ℕ) → slice_get q i ≡ Some e → i < length q
get_less [] i e h = absurd cc
get_less (x ∷ q) zero e h = omega arith
get_less (x ∷ q) (suc i) e h = let k = get_less q i e h in omega (arith, k)

drop_all : (q : List (ℕ × ℕ × ℕ)) → drop 0 q ≡ q
drop_all [] = refl
drop_all (x ∷ q) = refl

rising_drop : (i : ℕ) (q : List (ℕ × ℕ × ℕ)) → Rising q → Rising (drop i q)
rising_drop zero q h = h
rising_drop (suc i) [] h = tt
rising_drop (suc i) (x ∷ q) h = rising_drop i q h.1

falling_drop : (i : ℕ) (q : List (ℕ × ℕ × ℕ)) → NonFalling q → NonFalling (drop i q)
falling_drop zero q h = h
falling_drop (suc i) [] h = tt
falling_drop (suc i) (x ∷ q) h = falling_drop i q h.1

losing_flies : (loss : Loss) (r : Row) → is_losing loss r ≡ true → is_flying r.state ≡ true
losing_flies (Late moment resend) r e = (and_true (is_flying r.state) (nat_le (r.moment + resend) moment) e).0
losing_flies (Third ordinal) r e = (and_true (is_flying r.state) (nat_lt r.ordinal ordinal) (and_true (is_flying r.state && nat_lt r.ordinal ordinal) (nat_le 2 r.acks) e).0).0

losing_may : (loss : Loss) (r : Row) → is_losing loss r ≡ true → may_lose loss r.ordinal r.moment ≡ true
losing_may (Late moment resend) r e = (and_true (is_flying r.state) (nat_le (r.moment + resend) moment) e).1
losing_may (Third ordinal) r e = (and_true (is_flying r.state) (nat_lt r.ordinal ordinal) (and_true (is_flying r.state && nat_lt r.ordinal ordinal) (nat_le 2 r.acks) e).0).1

-- what was sent before may be lost, too
may_before : (loss : Loss) (sent at later_sent later : ℕ) → sent ≤ later_sent → at ≤ later → may_lose loss later_sent later ≡ true → may_lose loss sent at ≡ true
may_before (Late moment resend) sent at later_sent later le lo e = let k = leb-true (later + resend) moment e in le-leb (at + resend) moment (omega (arith, k, lo))
may_before (Third ordinal) sent at later_sent later le lo e = let k = ltb-true later_sent ordinal e in lt-ltb sent ordinal (omega (arith, k, le))

first_before : (e x : ℕ × ℕ × ℕ) (rest : List (ℕ × ℕ × ℕ)) → Rising (e ∷ rest) → NonFalling (e ∷ rest) → IsIn x (e ∷ rest) → (e.0 ≤ x.0) × (e.2 ≤ x.2)
first_before e x rest r f (inl s) = let p = ap (λ (y : ℕ × ℕ × ℕ). y.0) s in let q = ap (λ (y : ℕ × ℕ × ℕ). y.2) s in (omega (arith, p), omega (arith, q))
first_before e x rest r f (inr i) = let p = r.0 x i in let q = f.0 x i in (omega (arith, p), omega (arith, q))

abbrev pub Losing : Marked → List Waiting → Loss → ℕ → Row → Type 0
Losing m ws loss k r = is_losing loss r ≡ true → Noted m ws k r.resends

-- the last sending of each number in flight is still to come, or its message is marked
abbrev pub ToCome : Marked → List Waiting → Loss → List (ℕ × ℕ × ℕ) → ℕ → Row → Type 0
ToCome m ws loss rest k r = is_flying r.state ≡ true → IsIn (r.ordinal, k, r.moment) rest ⊎ Losing m ws loss k r

pub all_to_come : (m : Marked) (ws : List Waiting) (loss : Loss) (queue : List (ℕ × ℕ × ℕ)) (n : ℕ) (rows : List Row) → AllThere queue n rows → AllRows (ToCome m ws loss (drop 0 queue)) n rows
all_to_come m ws loss queue n [] a = tt
all_to_come m ws loss queue n (r ∷ rows) a = (λ f. inl (subst (λ (q : List (ℕ × ℕ × ℕ)). IsIn (r.ordinal, n, r.moment) q) (sym (drop_all queue)) (a.0 f)), all_to_come m ws loss queue (n + 1) rows a.1)

pub next_to_come : (old new : Marked) (ws : List Waiting) (loss : Loss) (queue : List (ℕ × ℕ × ℕ)) (i : ℕ) (e : ℕ × ℕ × ℕ) (n : ℕ) (rows : List Row) → slice_get queue i ≡ Some e → Grows old new
    → AllRows (λ k r. k ≡ e.1 → Losing new ws loss k r) n rows → AllRows (ToCome old ws loss (drop i queue)) n rows → AllRows (ToCome new ws loss (drop (i + 1) queue)) n rows
next_to_come old new ws loss queue i e n rows h g one a =
    all_both (ToCome old ws loss (drop i queue)) (λ k r. k ≡ e.1 → Losing new ws loss k r) (ToCome new ws loss (drop (i + 1) queue)) n rows (λ k r t o f. elim (t f) [
      | inl j ↦ come k r o (subst (λ (q : List (ℕ × ℕ × ℕ)). IsIn (r.ordinal, k, r.moment) q) (get_here queue i e h) j)
      | inr l ↦ inr (λ s w j has d. g (block_of w.number) (l s w j has d))
    ]) a one
  where
    come : (k : ℕ) (r : Row) → (k ≡ e.1 → Losing new ws loss k r) → IsIn (r.ordinal, k, r.moment) (e ∷ drop (i + 1) queue) → IsIn (r.ordinal, k, r.moment) (drop (i + 1) queue) ⊎ Losing new ws loss k r
    come k r o (inl s) = inr (o (ap (λ (y : ℕ × ℕ × ℕ). y.1) s))
    come k r o (inr j) = inl j

pub none_to_come : (m : Marked) (ws : List Waiting) (loss : Loss) (queue : List (ℕ × ℕ × ℕ)) (i n : ℕ) (rows : List Row) → slice_get queue i ≡ None → AllRows (ToCome m ws loss (drop i queue)) n rows → WillCover m ws loss n rows
none_to_come m ws loss queue i n rows h a = all_rows (ToCome m ws loss (drop i queue)) (Losing m ws loss) n rows (λ k r t l. elim (t (losing_flies loss r l)) [
  | inl j ↦ absurd (subst (λ (q : List (ℕ × ℕ × ℕ)). IsIn (r.ordinal, k, r.moment) q) (get_end queue i h) j)
  | inr o ↦ o l
]) a

pub late_to_come : (m : Marked) (ws : List Waiting) (loss : Loss) (queue : List (ℕ × ℕ × ℕ)) (i : ℕ) (e : ℕ × ℕ × ℕ) (n : ℕ) (rows : List Row) → slice_get queue i ≡ Some e → may_lose loss e.0 e.2 ≡ false → Rising queue → NonFalling queue
    → AllRows (ToCome m ws loss (drop i queue)) n rows → WillCover m ws loss n rows
late_to_come m ws loss queue i e n rows h not rising falling a = all_rows (ToCome m ws loss (drop i queue)) (Losing m ws loss) n rows (λ k r t l. elim (t (losing_flies loss r l)) [
  | inl j ↦
      let here = get_here queue i e h in
      let p = first_before e (r.ordinal, k, r.moment) (drop (i + 1) queue) (subst Rising here (rising_drop i queue rising)) (subst NonFalling here (falling_drop i queue falling)) (subst (λ (q : List (ℕ × ℕ × ℕ)). IsIn (r.ordinal, k, r.moment) q) here j) in
      let may = may_before loss e.0 e.2 r.ordinal r.moment p.0 p.1 (losing_may loss r l) in
      let c : true ≡ false = sym may ∙ not in absurd cc
  | inr o ↦ o l
]) a

-- ---- no message has a limit

spares : (ws : List Waiting) (w : Waiting) → NoneLimited ws → IsIn w ws → w.options.resends ≡ None
spares [] w h i = absurd i
spares (x ∷ ws) w h i = elim i [ inl e ↦ ap (λ (y : Waiting). y.options.resends) e ∙ h.0 | inr j ↦ spares ws w h.1 j ]

none_reached : (limit : Option ℕ) (resends : ℕ) → limit ≡ None → is_reached limit resends ≡ true → ⊥
none_reached None resends e s = absurd cc
none_reached (Some limit) resends e s = absurd cc

pub unlimited : (m : Marked) (ws : List Waiting) (loss : Loss) (n : ℕ) (rows : List Row) → NoneLimited ws → WillCover m ws loss n rows
unlimited m ws loss n rows h = all_free (Losing m ws loss) n rows (λ k r l w i has s. absurd (none_reached w.options.resends r.resends (spares ws w h i) s))

pub all_marked : (m : Marked) (ws : List Waiting) (loss : Loss) (n : ℕ) (rows : List Row) → ((b : ℕ) → marked_at m b ≡ true) → WillCover m ws loss n rows
all_marked m ws loss n rows h = all_free (Losing m ws loss) n rows (λ k r l. all_noted m ws k r.resends h)
