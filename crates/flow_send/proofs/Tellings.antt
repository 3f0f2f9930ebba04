-- What an ack tells, span by span.
use Rattle.std.proofs.Common.{◌≡◌, ℕ, ◌+◌, ◌-◌, ◌<◌, ◌≤◌, nat_le, nat_lt, max, min, cond, not, Bool, true, false, ◌&&◌, ◌||◌, List, [], ◌∷◌, Some, length, drop, refl, ap, sym, ◌∙◌, arith, inl, inr}
use Rattle.std.specs.List.{list_any, sum_by, filter}
use Rattle.std.proofs.lemmas.Bool.{cases_lt, leb-true, ltb-true, le-leb, lt-ltb}
use Rattle.std.proofs.lemmas.Bool.Decides.{nat_tests}
use Rattle.std.proofs.lemmas.List.Sums.{sum_by-cons}
use Rattle.flow_send.specs.declared.state.State.TheVariants.{Acknowledged}
use Rattle.flow_send.specs.declared.waiting.Waiting.{Waiting}
use Rattle.flow_send.specs.Rows.{Row, is_acknowledged, is_abandoned, is_settled, let_go, map_rows, most_rows, stored_of, settled_front, between, any_between, most_between}
use Rattle.flow_send.specs.Sender.{sender_of, Sender, has_number}
use Rattle.flow_send.specs.Acks.{Told, in_span, tells, greatest, new_bytes, new_ordinal, last_ordinal, acknowledge, acknowledge_row, count_ack, is_third, rows_acknowledged, rows_told, makes_lost, still_waits, told_by}
use Rattle.rtmfp_data_chunks.specs.HandsOver.{IsIn}
use Rattle.flow_send.specs.Messages.{touches, touched, OthersWait}
use Rattle.flow_send.specs.Steady.{AllOk, AllWait, Steady}
use Rattle.flow_send.proofs.Between.{between_none, most_none}
use Rattle.flow_send.proofs.Numbered.{map_between, most_row_between, span_between, map_is}
use Rattle.flow_send.proofs.Keeping.{waits_map}
use Rattle.flow_send.proofs.Steadies.{count_settled, acked_ok}
use Rattle.flow_send.proofs.Sendings.{map_sent, any_sent, third_flies}
use Rattle.flow_send.proofs.Ends.{settle_eq}

-- what the numbers of some spans change, and the last ordinal of what they newly acknowledge
abbrev pub acknowledge_by : List (ℕ × ℕ) → ℕ → Row → Row
acknowledge_by spans k r = cond (list_any (in_span k) spans) (acknowledge_row r) r

abbrev pub last_by : List (ℕ × ℕ) → ℕ → List Row → ℕ
last_by spans n rows = most_rows (λ k r. cond (list_any (in_span k) spans) (new_ordinal r) 0) n rows

twice_if : (r : Row) (t : Bool) → is_acknowledged r.state ≡ t → acknowledge_row (cond t r (let_go Acknowledged r)) ≡ cond t r (let_go Acknowledged r)
twice_if r true e = ap (λ b. cond b r (let_go Acknowledged r)) e
twice_if r false e = refl

twice : (r : Row) → acknowledge_row (acknowledge_row r) ≡ acknowledge_row r
twice r = twice_if r (is_acknowledged r.state) refl

gone_if : (r : Row) (t : Bool) → is_acknowledged r.state ≡ t → new_ordinal (cond t r (let_go Acknowledged r)) ≡ 0
gone_if r true e = ap (λ b. cond b 0 r.ordinal) e
gone_if r false e = refl

gone : (r : Row) → new_ordinal (acknowledge_row r) ≡ 0
gone r = gone_if r (is_acknowledged r.state) refl

split_row : (a b : Bool) (r : Row) → cond (a || b) (acknowledge_row r) r ≡ cond b (acknowledge_row (cond a (acknowledge_row r) r)) (cond a (acknowledge_row r) r)
split_row true true r = sym (twice r)
split_row true false r = refl
split_row false b r = refl

split_ordinal : (a b : Bool) (r : Row) → cond (a || b) (new_ordinal r) 0 ≡ max (cond a (new_ordinal r) 0) (cond b (new_ordinal (cond a (acknowledge_row r) r)) 0)
split_ordinal true true r = let g = gone r in omega (arith, g)
split_ordinal true false r = let e : new_ordinal r ≡ max (new_ordinal r) 0 = omega arith in e
split_ordinal false true r = let e : new_ordinal r ≡ max 0 (new_ordinal r) = omega arith in e
split_ordinal false false r = let e : 0 ≡ max 0 0 = omega arith in e

-- two tests, one after the other
pub split_rows : (a b : ℕ → Bool) (n : ℕ) (rows : List Row) → map_rows (λ k r. cond (a k || b k) (acknowledge_row r) r) n rows ≡ map_rows (λ k r. cond (b k) (acknowledge_row r) r) n (map_rows (λ k r. cond (a k) (acknowledge_row r) r) n rows)
split_rows a b n [] = refl
split_rows a b n (r ∷ rows) =
    ap (λ (x : Row). x ∷ map_rows (λ k y. cond (a k || b k) (acknowledge_row y) y) (n + 1) rows) (split_row (a n) (b n) r)
    ∙ ap (λ xs. cond (b n) (acknowledge_row (cond (a n) (acknowledge_row r) r)) (cond (a n) (acknowledge_row r) r) ∷ xs) (split_rows a b (n + 1) rows)

max_swap : (a b c d : ℕ) → max (max a b) (max c d) ≡ max (max a c) (max b d)
max_swap a b c d = omega arith

pub split_most : (a b : ℕ → Bool) (n : ℕ) (rows : List Row) → most_rows (λ k r. cond (a k || b k) (new_ordinal r) 0) n rows
    ≡ max (most_rows (λ k r. cond (a k) (new_ordinal r) 0) n rows) (most_rows (λ k r. cond (b k) (new_ordinal r) 0) n (map_rows (λ k r. cond (a k) (acknowledge_row r) r) n rows))
split_most a b n [] = let e : 0 ≡ max 0 0 = omega arith in e
split_most a b n (r ∷ rows) =
    ap (λ x. max x (most_rows (λ k y. cond (a k || b k) (new_ordinal y) 0) (n + 1) rows)) (split_ordinal (a n) (b n) r)
    ∙ (ap (λ x. max (max (cond (a n) (new_ordinal r) 0) (cond (b n) (new_ordinal (cond (a n) (acknowledge_row r) r)) 0)) x) (split_most a b (n + 1) rows) ∙ max_swap _ _ _ _)

none_rows : (n : ℕ) (rows : List Row) → map_rows (acknowledge_by []) n rows ≡ rows
none_rows n [] = refl
none_rows n (r ∷ rows) = ap (λ xs. r ∷ xs) (none_rows (n + 1) rows)

none_most : (n : ℕ) (rows : List Row) → last_by [] n rows ≡ 0
none_most n [] = refl
none_most n (r ∷ rows) = let m = none_most (n + 1) rows in omega (arith, m)

pub end_rows : (spans : List (ℕ × ℕ)) (n : ℕ) (rows all : List Row) → spans ≡ [] → map_rows (acknowledge_by spans) n rows ≡ all → rows ≡ all
end_rows spans n rows all e f = sym (ap (λ (xs : List (ℕ × ℕ)). map_rows (acknowledge_by xs) n rows) e ∙ none_rows n rows) ∙ f

pub end_most : (spans : List (ℕ × ℕ)) (n ordinal all : ℕ) (rows : List Row) → spans ≡ [] → max ordinal (last_by spans n rows) ≡ all → ordinal ≡ all
end_most spans n ordinal all rows e f = let m = ap (λ (xs : List (ℕ × ℕ)). last_by xs n rows) e ∙ none_most n rows in omega (arith, m, f)

-- one span
low_is : (upto k : ℕ) → in_span k (0, upto) ≡ nat_le k upto
low_is upto k = grind (arith, nat_tests)

pub first_rows : (upto : ℕ) (spans : List (ℕ × ℕ)) (n : ℕ) (rows once : List Row) → once ≡ map_rows (λ k r. cond (in_span k (0, upto)) (acknowledge_row r) r) n rows
    → map_rows (acknowledge_by spans) n once ≡ map_rows (acknowledge (record { blocks = 0; upto = upto; spans = spans })) n rows
first_rows upto spans n rows once e =
    ap (λ (xs : List Row). map_rows (acknowledge_by spans) n xs) e ∙ (sym (split_rows (λ k. in_span k (0, upto)) (λ k. list_any (in_span k) spans) n rows) ∙ all_low n rows)
  where
    all_low : (n : ℕ) (rows : List Row) → map_rows (λ k r. cond (in_span k (0, upto) || list_any (in_span k) spans) (acknowledge_row r) r) n rows ≡ map_rows (acknowledge (record { blocks = 0; upto = upto; spans = spans })) n rows
    all_low n [] = refl
    all_low n (r ∷ rows) =
        ap (λ b. cond (b || list_any (in_span n) spans) (acknowledge_row r) r ∷ map_rows (λ k x. cond (in_span k (0, upto) || list_any (in_span k) spans) (acknowledge_row x) x) (n + 1) rows) (low_is upto n)
        ∙ ap (λ xs. cond (nat_le n upto || list_any (in_span n) spans) (acknowledge_row r) r ∷ xs) (all_low (n + 1) rows)

pub first_most : (upto : ℕ) (spans : List (ℕ × ℕ)) (n ordinal : ℕ) (rows once : List Row) → once ≡ map_rows (λ k r. cond (in_span k (0, upto)) (acknowledge_row r) r) n rows
    → ordinal ≡ most_rows (λ k r. cond (in_span k (0, upto)) (new_ordinal r) 0) n rows
    → max ordinal (last_by spans n once) ≡ last_ordinal (record { blocks = 0; upto = upto; spans = spans }) n rows
first_most upto spans n ordinal rows once e f =
    ap (λ x. max x (last_by spans n once)) f ∙ (ap (λ (xs : List Row). max (most_rows (λ k r. cond (in_span k (0, upto)) (new_ordinal r) 0) n rows) (last_by spans n xs)) e
    ∙ (sym (split_most (λ k. in_span k (0, upto)) (λ k. list_any (in_span k) spans) n rows) ∙ all_low n rows))
  where
    all_low : (n : ℕ) (rows : List Row) → most_rows (λ k r. cond (in_span k (0, upto) || list_any (in_span k) spans) (new_ordinal r) 0) n rows ≡ last_ordinal (record { blocks = 0; upto = upto; spans = spans }) n rows
    all_low n [] = refl
    all_low n (r ∷ rows) =
        ap (λ b. max (cond (b || list_any (in_span n) spans) (new_ordinal r) 0) (most_rows (λ k x. cond (in_span k (0, upto) || list_any (in_span k) spans) (new_ordinal x) 0) (n + 1) rows)) (low_is upto n)
        ∙ ap (λ i. max (cond (nat_le n upto || list_any (in_span n) spans) (new_ordinal r) 0) i) (all_low (n + 1) rows)

pub next_rows : (left later : List (ℕ × ℕ)) (p : ℕ × ℕ) (n : ℕ) (rows once all : List Row) → left ≡ p ∷ later → once ≡ map_rows (λ k r. cond (in_span k p) (acknowledge_row r) r) n rows
    → map_rows (acknowledge_by left) n rows ≡ all → map_rows (acknowledge_by later) n once ≡ all
next_rows left later p n rows once all e f g =
    ap (λ (xs : List Row). map_rows (acknowledge_by later) n xs) f ∙ (sym (split_rows (λ k. in_span k p) (λ k. list_any (in_span k) later) n rows)
    ∙ (sym (ap (λ (xs : List (ℕ × ℕ)). map_rows (acknowledge_by xs) n rows) e) ∙ g))

pub next_most : (left later : List (ℕ × ℕ)) (p : ℕ × ℕ) (n ordinal more all : ℕ) (rows once : List Row) → left ≡ p ∷ later → once ≡ map_rows (λ k r. cond (in_span k p) (acknowledge_row r) r) n rows
    → more ≡ most_rows (λ k r. cond (in_span k p) (new_ordinal r) 0) n rows
    → max ordinal (last_by left n rows) ≡ all → max (max ordinal more) (last_by later n once) ≡ all
next_most left later p n ordinal more all rows once e f h g =
    let s = split_most (λ k. in_span k p) (λ k. list_any (in_span k) later) n rows in
    let a = ap (λ (xs : List (ℕ × ℕ)). last_by xs n rows) e in
    let b = ap (λ (xs : List Row). last_by later n xs) f in
    omega (arith, s, a, b, h, g)

-- a span by indices
between_least : (f : Row → Row) (lo hi : ℕ) (rows : List Row) → between f (min lo hi) hi rows ≡ between f lo hi rows
between_least f lo hi rows = elim (cases_lt hi lo) [
  | inl lt ↦ between_none f (min lo hi) hi rows (omega arith) ∙ sym (between_none f lo hi rows (omega arith))
  | inr le ↦ let e : min lo hi ≡ lo = omega arith in ap (λ i. between f i hi rows) e
]

most_least : (f : Row → ℕ) (lo hi : ℕ) (rows : List Row) → most_between f (min lo hi) hi rows ≡ most_between f lo hi rows
most_least f lo hi rows = elim (cases_lt hi lo) [
  | inl lt ↦ most_none f (min lo hi) hi rows (omega arith) ∙ sym (most_none f lo hi rows (omega arith))
  | inr le ↦ let e : min lo hi ≡ lo = omega arith in ap (λ i. most_between f i hi rows) e
]

pub span_rows : (first last forward from to : ℕ) (rows : List Row) → from ≡ min (first - (forward + 1)) (last - forward) → to ≡ last - forward
    → between acknowledge_row from to rows ≡ map_rows (λ k r. cond (in_span k (first, last)) (acknowledge_row r) r) (forward + 1) rows
span_rows first last forward from to rows e f =
    let g : last - forward ≡ last + 1 - (forward + 1) = omega arith in
    ap (λ i. between acknowledge_row i to rows) e ∙ (ap (λ i. between acknowledge_row (min (first - (forward + 1)) (last - forward)) i rows) f
    ∙ (between_least acknowledge_row (first - (forward + 1)) (last - forward) rows ∙ (ap (λ i. between acknowledge_row (first - (forward + 1)) i rows) g
    ∙ sym (map_between (λ k. in_span k (first, last)) acknowledge_row (forward + 1) (first - (forward + 1)) (last + 1 - (forward + 1)) rows (span_between first last (forward + 1))))))

pub span_most : (first last forward from to : ℕ) (rows : List Row) → from ≡ min (first - (forward + 1)) (last - forward) → to ≡ last - forward
    → most_between new_ordinal from to rows ≡ most_rows (λ k r. cond (in_span k (first, last)) (new_ordinal r) 0) (forward + 1) rows
span_most first last forward from to rows e f =
    let g : last - forward ≡ last + 1 - (forward + 1) = omega arith in
    ap (λ i. most_between new_ordinal i to rows) e ∙ (ap (λ i. most_between new_ordinal (min (first - (forward + 1)) (last - forward)) i rows) f
    ∙ (most_least new_ordinal (first - (forward + 1)) (last - forward) rows ∙ (ap (λ i. most_between new_ordinal (first - (forward + 1)) i rows) g
    ∙ sym (most_row_between (λ k. in_span k (first, last)) new_ordinal (forward + 1) (first - (forward + 1)) (last + 1 - (forward + 1)) rows (span_between first last (forward + 1))))))

-- the greatest
pub greatest_rises : (a b : ℕ) (spans : List (ℕ × ℕ)) → a ≤ b → greatest a spans ≤ greatest b spans
greatest_rises a b [] le = le
greatest_rises a b (p ∷ spans) le = greatest_rises (max a p.1) (max b p.1) spans (omega (arith, le))

pub greatest_least : (upto : ℕ) (spans : List (ℕ × ℕ)) → upto ≤ greatest upto spans
greatest_least upto [] = omega arith
greatest_least upto (p ∷ spans) = omega (arith, greatest_least (max upto p.1) spans)

pub greatest_next : (left later : List (ℕ × ℕ)) (p : ℕ × ℕ) (m : ℕ) → left ≡ p ∷ later → greatest 0 left < m → (p.1 < m) × (greatest 0 later < m)
greatest_next left later p m e lt =
    let a = ap (λ (xs : List (ℕ × ℕ)). greatest 0 xs) e in
    let b = greatest_least (max 0 p.1) later in
    let c = greatest_rises 0 (max 0 p.1) later (omega arith) in
    (omega (arith, a, b, lt), omega (arith, a, c, lt))

-- the bytes of what is newly acknowledged are those that the rows lose
lose_if : (r : Row) (k b : Bool) → is_acknowledged r.state ≡ k → is_abandoned r.state ≡ b → (b ≡ true → length r.fragment.bytes ≡ 0) → stored_of r ≡ cond (not k && not b) (length r.fragment.bytes) 0 + stored_of (cond k r (let_go Acknowledged r))
lose_if r true b e f h = let x : stored_of r ≡ 0 + stored_of r = omega arith in x
lose_if r false true e f h = let z = h refl in let x : stored_of r ≡ 0 + 0 = omega (arith, z) in x
lose_if r false false e f h = let x : stored_of r ≡ length r.fragment.bytes + 0 = omega arith in x

row_bytes : (a : Told) (n : ℕ) (r : Row) (t : Bool) → (is_abandoned r.state ≡ true → length r.fragment.bytes ≡ 0)
    → stored_of r ≡ cond ((t && not (is_acknowledged r.state)) && not (is_abandoned r.state)) (length r.fragment.bytes) 0 + stored_of (cond t (acknowledge_row r) r)
row_bytes a n r true h = lose_if r (is_acknowledged r.state) (is_abandoned r.state) refl refl h
row_bytes a n r false h = let x : stored_of r ≡ 0 + stored_of r = omega arith in x

pub acked_bytes : (a : Told) (sent n : ℕ) (rows : List Row) → AllOk sent n rows → sum_by stored_of rows ≡ new_bytes a n rows + sum_by stored_of (map_rows (acknowledge a) n rows)
acked_bytes a sent n [] h = omega arith
acked_bytes a sent n (r ∷ rows) h =
    omega (arith, row_bytes a n r (tells a n) h.0.empty, acked_bytes a sent (n + 1) rows h.1, sum_by-cons stored_of r rows, sum_by-cons stored_of (acknowledge a n r) (map_rows (acknowledge a) (n + 1) rows))

-- a message of which nothing is told waits as before
untold_if : (a : Told) (k : ℕ) (r : Row) (t : Bool) → tells a k ≡ t → (tells a k ≡ true → ⊥) → is_settled (cond t (acknowledge_row r) r).state ≡ is_settled r.state
untold_if a k r true e h = absurd (h e)
untold_if a k r false e h = refl

told_waits : (a : Told) (s : Sender) (w : Waiting) → ((k : ℕ) → has_number w k ≡ true → tells a k ≡ true → ⊥) → still_waits (s.forward + 1) (rows_told a s) w ≡ still_waits (s.forward + 1) s.rows w
told_waits a s w h =
    let n = s.forward + 1 in
    let ordinal = last_ordinal a n s.rows in
    ap (λ (xs : List Row). still_waits n xs w) (map_is (count_ack ordinal) n (rows_acknowledged a s))
    ∙ (waits_map (λ k r. count_ack ordinal r) n (rows_acknowledged a s) w (λ k r le e. count_settled ordinal r)
    ∙ waits_map (acknowledge a) n s.rows w (λ k r le e. untold_if a k r (tells a k) refl (h k e)))

both_true : (a b : Bool) → (a && b) ≡ true → (a ≡ true) × (b ≡ true)
both_true true b e = (refl, e)
both_true false b e = absurd cc

touch_at : (low high k : ℕ) (w : Waiting) → has_number w k ≡ true → low ≤ k → k ≤ high → touches low high w ≡ true
touch_at low high k w e lo hi =
    let p = both_true (nat_le w.number k) (nat_lt k (w.number + w.count)) e in
    let a = leb-true w.number k p.0 in
    let b = ltb-true k (w.number + w.count) p.1 in
    rw (le-leb w.number high (omega (arith, a, hi)), lt-ltb low (w.number + w.count) (omega (arith, b, lo))) refl

or_right : (a b : Bool) → b ≡ true → (a || b) ≡ true
or_right true b e = refl
or_right false b e = e

span_touches : (spans : List (ℕ × ℕ)) (k : ℕ) (w : Waiting) → has_number w k ≡ true → list_any (in_span k) spans ≡ true → touched spans w ≡ true
span_touches [] k w e f = absurd cc
span_touches (p ∷ spans) k w e f = touch_if (in_span k p) refl f (λ h. span_touches spans k w e h)
  where
    touch_if : (t : Bool) → in_span k p ≡ t → (t || list_any (in_span k) spans) ≡ true → (list_any (in_span k) spans ≡ true → touched spans w ≡ true) → (touches p.0 p.1 w || touched spans w) ≡ true
    touch_if true g h ih =
        let q = both_true (nat_le p.0 k) (nat_le k p.1) g in
        ap (λ x. x || touched spans w) (touch_at p.0 p.1 k w e (leb-true p.0 k q.0) (leb-true k p.1 q.1))
    touch_if false g h ih = or_right (touches p.0 p.1 w) (touched spans w) (ih h)

tell_touches : (a : Told) (k : ℕ) (w : Waiting) → has_number w k ≡ true → tells a k ≡ true → touched ((0, a.upto) ∷ a.spans) w ≡ true
tell_touches a k w e f = touch_if (nat_le k a.upto) refl f
  where
    touch_if : (t : Bool) → nat_le k a.upto ≡ t → (t || list_any (in_span k) a.spans) ≡ true → (touches 0 a.upto w || touched a.spans w) ≡ true
    touch_if true g h = ap (λ x. x || touched a.spans w) (touch_at 0 a.upto k w e (omega arith) (leb-true k a.upto g))
    touch_if false g h = or_right (touches 0 a.upto w) (touched a.spans w) (span_touches a.spans k w e h)

wait_in : (n : ℕ) (rows : List Row) (ws : List Waiting) (w : Waiting) → AllWait n rows ws → IsIn w ws → still_waits n rows w ≡ true
wait_in n rows [] w h i = absurd i
wait_in n rows (x ∷ ws) w h i = elim i [
  | inl e ↦ ap (λ (y : Waiting). still_waits n rows y) e ∙ h.0
  | inr j ↦ wait_in n rows ws w h.1 j
]

pub others_told : (a : Told) (s : Sender) → AllWait (s.forward + 1) s.rows s.waiting → OthersWait a.upto a.spans (s.forward + 1) (rows_told a s) s.waiting
others_told a s h w i u = told_waits a s w (λ k e f. let t : true ≡ false = sym (tell_touches a k w e f) ∙ u in cc) ∙ wait_in (s.forward + 1) s.rows s.waiting w h i

-- what the code leaves of the rows is what the ack leaves
pub counted_rows : (a : Told) (s : Sender) (ordinal to : ℕ) (once rows : List Row) → Steady s → greatest a.upto a.spans ≤ s.sent → once ≡ rows_acknowledged a s → ordinal ≡ last_ordinal a (s.forward + 1) s.rows → to ≡ s.sent - s.forward
    → rows ≡ between (count_ack ordinal) 0 to once → rows ≡ rows_told a s
counted_rows a s ordinal to once rows k le e f g h =
    let lp = last_ordinal a (s.forward + 1) s.rows in
    let hi : to ≡ s.sent + 1 - (s.forward + 1) = omega (arith, g) in
    h ∙ (ap (λ i. between (count_ack i) 0 to once) f ∙ (ap (λ (xs : List Row). between (count_ack lp) 0 to xs) e
    ∙ sym (map_sent (count_ack lp) (is_third lp) s.sent (s.forward + 1) to (rows_acknowledged a s) (third_flies lp) hi (acked_ok a s k le))))

pub counted_lost : (a : Told) (s : Sender) (ordinal to : ℕ) (once : List Row) (lost : Bool) → Steady s → greatest a.upto a.spans ≤ s.sent → once ≡ rows_acknowledged a s → ordinal ≡ last_ordinal a (s.forward + 1) s.rows → to ≡ s.sent - s.forward
    → lost ≡ any_between (is_third ordinal) 0 to once → lost ≡ makes_lost a s
counted_lost a s ordinal to once lost k le e f g h =
    let lp = last_ordinal a (s.forward + 1) s.rows in
    let hi : to ≡ s.sent + 1 - (s.forward + 1) = omega (arith, g) in
    h ∙ (ap (λ i. any_between (is_third i) 0 to once) f ∙ (ap (λ (xs : List Row). any_between (is_third lp) 0 to xs) e
    ∙ sym (any_sent (count_ack lp) (is_third lp) s.sent (s.forward + 1) to (rows_acknowledged a s) (third_flies lp) hi (acked_ok a s k le))))

pub told_eq : (a : Told) (s : Sender) (rows rs : List Row) (f : ℕ) (vs : List Waiting) → rows ≡ rows_told a s → f ≡ s.forward + settled_front rows → rs ≡ drop (settled_front rows) rows → vs ≡ filter (still_waits (s.forward + 1) rows) s.waiting
    → sender_of f rs vs s.finish s.sent a.upto (Some a.blocks) s.notice s.order ≡ told_by a s
told_eq a s rows rs f vs e x y z =
    let t = settle_eq s (rows_told a s) (filter (still_waits (s.forward + 1) (rows_told a s)) s.waiting) f rs vs
    (x ∙ ap (λ (xs : List Row). s.forward + settled_front xs) e) (y ∙ ap (λ (xs : List Row). drop (settled_front xs) xs) e) (z ∙ ap (λ (xs : List Row). filter (still_waits (s.forward + 1) xs) s.waiting) e) in
    ap (λ (v : Sender). record v { upto = a.upto; told = Some a.blocks }) t
