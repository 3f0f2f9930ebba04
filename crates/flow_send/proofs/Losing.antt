-- Numbers that are lost by time, from the oldest sending on.
use Rattle.std.proofs.Common.{◌≡◌, ℕ, zero, suc, ◌+◌, ◌<◌, ◌≤◌, ◌==◌, nat_le, cond, map, Bool, true, false, ◌&&◌, ◌||◌, List, [], ◌∷◌, length, drop, slice_get, Some, None, refl, ap, sym, ◌∙◌, subst, arith, inl, inr, eq-eqb}
use Rattle.std.specs.List.{list_any}
use Rattle.std.proofs.lemmas.Bool.{ne_eqb, lt-leb, le-leb}
use Rattle.rtmfp_data_chunks.specs.HandsOver.{IsIn}
use Rattle.flow_send.specs.declared.state.State.TheVariants.{Lost}
use Rattle.flow_send.specs.Rows.{Row, row_at, is_flying, map_rows, any_row, between, any_between}
use Rattle.flow_send.specs.Sender.{is_late, lost_if_late}
use Rattle.flow_send.specs.Ordered.{AllThere, AllOther, NonFalling, IsComplete, lose_one, is_late_one}
use Rattle.flow_send.proofs.Orders.{KeepsFlight, set_numbered, there_map, still_there}
use Rattle.flow_send.proofs.Followed.{late_if}

-- ---- one row

twice_if : (m d : ℕ) (r : Row) (t : Bool) → is_late m d r ≡ t → lost_if_late m d (cond t (record r { state = Lost }) r) ≡ cond t (record r { state = Lost }) r
twice_if m d r true e = refl
twice_if m d r false e = ap (λ b. cond b (record r { state = Lost }) r) e

twice : (m d : ℕ) (r : Row) → lost_if_late m d (lost_if_late m d r) ≡ lost_if_late m d r
twice m d r = twice_if m d r (is_late m d r) refl

not_late_if : (m d : ℕ) (r : Row) (t : Bool) → is_late m d r ≡ t → is_late m d (cond t (record r { state = Lost }) r) ≡ false
not_late_if m d r true e = refl
not_late_if m d r false e = e

not_late : (m d : ℕ) (r : Row) → is_late m d (lost_if_late m d r) ≡ false
not_late m d r = not_late_if m d r (is_late m d r) refl

one_if : (m d : ℕ) (r : Row) (t : Bool) → lost_if_late m d (cond t (lost_if_late m d r) r) ≡ lost_if_late m d r
one_if m d r true = twice m d r
one_if m d r false = refl

-- ---- all rows after one is lost

pub map_one : (m d number n : ℕ) (rows : List Row) → map (lost_if_late m d) (map_rows (lose_one m d number) n rows) ≡ map (lost_if_late m d) rows
map_one m d number n [] = refl
map_one m d number n (r ∷ rows) =
    ap (λ (x : Row). x ∷ map (lost_if_late m d) (map_rows (lose_one m d number) (n + 1) rows)) (one_if m d r (n == number))
    ∙ ap (λ (xs : List Row). lost_if_late m d r ∷ xs) (map_one m d number (n + 1) rows)

or_move : (b x y : Bool) → (b || (x || y)) ≡ (x || (b || y))
or_move true true y = refl
or_move true false y = refl
or_move false x y = refl

or_group : (b x y : Bool) → (b || (x || y)) ≡ ((b || x) || y)
or_group true x y = refl
or_group false x y = refl

any_if : (m d : ℕ) (r : Row) (x y z : Bool) (t : Bool) → z ≡ (x || y) → (is_late m d r || z) ≡ (((t && is_late m d r) || x) || (is_late m d (cond t (lost_if_late m d r) r) || y))
any_if m d r x y z true e =
    ap (λ w. is_late m d r || w) e
    ∙ (or_group (is_late m d r) x y ∙ sym (ap (λ w. (is_late m d r || x) || (w || y)) (not_late m d r)))
any_if m d r x y z false e = ap (λ w. is_late m d r || w) e ∙ or_move (is_late m d r) x y

pub any_one : (m d number n : ℕ) (rows : List Row) → list_any (is_late m d) rows ≡ (any_row (is_late_one m d number) n rows || list_any (is_late m d) (map_rows (lose_one m d number) n rows))
any_one m d number n [] = refl
any_one m d number n (r ∷ rows) =
    any_if m d r (any_row (is_late_one m d number) (n + 1) rows) (list_any (is_late m d) (map_rows (lose_one m d number) (n + 1) rows)) (list_any (is_late m d) rows) (n == number) (any_one m d number (n + 1) rows)

pub any_next : (late lost a b c : Bool) → (late || b) ≡ a → b ≡ (lost || c) → ((late || lost) || c) ≡ a
any_next late lost a b c e f = sym (or_group late lost c) ∙ (ap (λ x. late || x) (sym f) ∙ e)

-- ---- what is in flight

late_one : (m d number k : ℕ) (r : Row) (t : Bool) → KeepsFlight r (cond t (lost_if_late m d r) r)
late_one m d number k r true = late_if r (is_late m d r)
late_one m d number k r false = λ e. (e, refl, refl)

both_late : (m d : ℕ) (r : Row) → is_flying r.state ≡ true → r.moment + d ≤ m → is_late m d r ≡ true
both_late m d r f le = ap (λ b. b && nat_le (r.moment + d) m) f ∙ le-leb (r.moment + d) m le

other_if : (m d k : ℕ) (e : ℕ × ℕ × ℕ) (r : Row) (t : Bool) → (k == e.1) ≡ t → e.2 + d ≤ m → is_flying (cond t (lost_if_late m d r) r).state ≡ true → ((cond t (lost_if_late m d r) r).ordinal, k, (cond t (lost_if_late m d r) r).moment) ≡ e → ⊥
other_if m d k e r true s le f q =
    let z = ap (λ (x : ℕ × ℕ × ℕ). x.2) q in
    let l = both_late m d (lost_if_late m d r) f (omega (arith, z, le)) in
    let c : true ≡ false = sym l ∙ not_late m d r in absurd cc
other_if m d k e r false s le f q =
    let z = ap (λ (x : ℕ × ℕ × ℕ). x.1) q in
    let c : true ≡ false = sym (eq-eqb k e.1 z) ∙ s in absurd cc

pub other_lost : (m d n : ℕ) (e : ℕ × ℕ × ℕ) (rows : List Row) → e.2 + d ≤ m → AllOther e n (map_rows (lose_one m d e.1) n rows)
other_lost m d n e [] le = tt
other_lost m d n e (r ∷ rows) le = (other_if m d n e r (n == e.1) refl le, other_lost m d (n + 1) e rows le)

pub complete_next : (m d n : ℕ) (e : ℕ × ℕ × ℕ) (queue left : List (ℕ × ℕ × ℕ)) (rows new : List Row) → queue ≡ e ∷ left → e.2 + d ≤ m → new ≡ map_rows (lose_one m d e.1) n rows → IsComplete queue n rows → IsComplete left n new
complete_next m d n e queue left rows new q le f c =
    let lost = map_rows (lose_one m d e.1) n rows in
    let there = there_map queue (lose_one m d e.1) n rows (λ k r. late_one m d e.1 k r (k == e.1)) c.there in
    subst (IsComplete left n) (sym f) (record {
      rising = (subst Rattle.flow_send.specs.Ordered.Rising q c.rising).1;
      moments = (subst NonFalling q c.moments).1;
      there = still_there queue left e n lost q there (other_lost m d n e rows le);
    })

-- ---- where the walk ends

pub all_after : (m d : ℕ) (e : ℕ × ℕ × ℕ) (left : List (ℕ × ℕ × ℕ)) → NonFalling (e ∷ left) → m < e.2 + d → (x : ℕ × ℕ × ℕ) → IsIn x (e ∷ left) → m < x.2 + d
all_after m d e left h lt x (inl q) = let z = ap (λ (y : ℕ × ℕ × ℕ). y.2) q in omega (arith, z, lt)
all_after m d e left h lt x (inr i) = let l = h.0 x i in omega (arith, l, lt)

pub front_after : (m d : ℕ) (e : ℕ × ℕ × ℕ) (queue : List (ℕ × ℕ × ℕ)) → Some e ≡ slice_get queue 0 → NonFalling queue → m < e.2 + d → (x : ℕ × ℕ × ℕ) → IsIn x queue → m < x.2 + d
front_after m d e [] s h lt x i = absurd i
front_after m d e (f ∷ left) s h lt x i =
    let same : f ≡ e = cc in
    let z = ap (λ (y : ℕ × ℕ × ℕ). y.2) same in
    all_after m d f left h (omega (arith, z, lt)) x i

pub none_after : (m d : ℕ) (queue : List (ℕ × ℕ × ℕ)) → None ≡ slice_get queue 0 → (x : ℕ × ℕ × ℕ) → IsIn x queue → m < x.2 + d
none_after m d [] s x i = absurd i
none_after m d (f ∷ left) s x i = absurd cc

pub front_is : (e : ℕ × ℕ × ℕ) (queue new : List (ℕ × ℕ × ℕ)) → Some e ≡ slice_get queue 0 → new ≡ drop 1 queue → queue ≡ e ∷ new
front_is e [] new s f = absurd cc
front_is e (x ∷ left) new s f = let same : x ≡ e = cc in ap (λ y. y ∷ left) same ∙ ap (λ zs. e ∷ zs) (sym f)

quiet_if : (m d : ℕ) (r : Row) (t : Bool) → is_flying r.state ≡ t → (t ≡ true → m < r.moment + d) → is_late m d r ≡ false
quiet_if m d r true e h = ap (λ b. b && nat_le (r.moment + d) m) e ∙ lt-leb (r.moment + d) m (h refl)
quiet_if m d r false e h = ap (λ b. b && nat_le (r.moment + d) m) e

pub none_left : (m d n : ℕ) (queue : List (ℕ × ℕ × ℕ)) (rows : List Row) → ((x : ℕ × ℕ × ℕ) → IsIn x queue → m < x.2 + d) → AllThere queue n rows → list_any (is_late m d) rows ≡ false
none_left m d n queue [] h a = refl
none_left m d n queue (r ∷ rows) h a =
    ap (λ b. b || list_any (is_late m d) rows) (quiet_if m d r (is_flying r.state) refl (λ f. h (r.ordinal, n, r.moment) (a.0 f)))
    ∙ none_left m d (n + 1) queue rows h a.1

or_both : (a b : Bool) → (a || b) ≡ false → (a ≡ false) × (b ≡ false)
or_both true b e = absurd cc
or_both false b e = (refl, e)

pub none_map : (m d : ℕ) (rows : List Row) → list_any (is_late m d) rows ≡ false → map (lost_if_late m d) rows ≡ rows
none_map m d [] e = refl
none_map m d (r ∷ rows) e =
    let p = or_both (is_late m d r) (list_any (is_late m d) rows) e in
    ap (λ b. cond b (record r { state = Lost }) r ∷ map (lost_if_late m d) rows) p.0 ∙ ap (λ (xs : List Row). r ∷ xs) (none_map m d rows p.1)

or_no : (a b : Bool) → b ≡ false → (a || b) ≡ a
or_no true b e = refl
or_no false b e = e

pub walk_done : (m d : ℕ) (rows now : List Row) (late : Bool) → list_any (is_late m d) now ≡ false → map (lost_if_late m d) now ≡ map (lost_if_late m d) rows → (late || list_any (is_late m d) now) ≡ list_any (is_late m d) rows
    → (now ≡ map (lost_if_late m d) rows) × (late ≡ list_any (is_late m d) rows)
walk_done m d rows now late n e f = (sym (none_map m d now n) ∙ e, sym (or_no late (list_any (is_late m d) now) n) ∙ f)

-- ---- one number by its index

and_no : (a b : Bool) → a ≡ false → (a && b) ≡ false
and_no true b e = absurd cc
and_no false b e = refl

pub any_none : (m d number n : ℕ) (rows : List Row) → ((k : ℕ) → n ≤ k → k < n + length rows → k ≡ number → ⊥) → any_row (is_late_one m d number) n rows ≡ false
any_none m d number n [] h = refl
any_none m d number n (r ∷ rows) h =
    ap (λ b. b || any_row (is_late_one m d number) (n + 1) rows) (and_no (n == number) (is_late m d r) (ne_eqb n number (λ e. h n (omega arith) (omega arith) e)))
    ∙ any_none m d number (n + 1) rows (λ k lo hi e. h k (omega (arith, lo)) (omega (arith, hi)) e)

pub lose_none : (m d number n : ℕ) (rows : List Row) → ((k : ℕ) → n ≤ k → k < n + length rows → k ≡ number → ⊥) → rows ≡ map_rows (lose_one m d number) n rows
lose_none m d number n [] h = refl
lose_none m d number n (r ∷ rows) h =
    ap (λ (xs : List Row). r ∷ xs) (lose_none m d number (n + 1) rows (λ k lo hi e. h k (omega (arith, lo)) (omega (arith, hi)) e))
    ∙ sym (ap (λ b. cond b (lost_if_late m d r) r ∷ map_rows (lose_one m d number) (n + 1) rows) (ne_eqb n number (λ e. h n (omega arith) (omega arith) e)))

pub any_here : (m d n at : ℕ) (rows : List Row) → at < length rows → is_late m d (row_at rows at) ≡ any_row (is_late_one m d (n + at)) n rows
any_here m d n at [] lt = absurd (omega arith)
any_here m d n zero (r ∷ rows) lt =
    let e : (n == n + 0) ≡ true = eq-eqb n (n + 0) (omega arith) in
    sym (ap (λ b. (b && is_late m d r) || any_row (is_late_one m d (n + 0)) (n + 1) rows) e
    ∙ (ap (λ b. is_late m d r || b) (any_none m d (n + 0) (n + 1) rows (λ k lo hi q. omega (arith, lo, q))) ∙ or_no (is_late m d r) false refl))
any_here m d n (suc at) (r ∷ rows) lt =
    let e : (n == n + suc at) ≡ false = ne_eqb n (n + suc at) (λ q. omega (arith, q)) in
    let k : n + 1 + at ≡ n + suc at = omega arith in
    any_here m d (n + 1) at rows (omega arith) ∙ ap (λ i. any_row (is_late_one m d i) (n + 1) rows) k
    ∙ sym (ap (λ b. (b && is_late m d r) || any_row (is_late_one m d (n + suc at)) (n + 1) rows) e)

pub lose_here : (m d number n at : ℕ) (rows : List Row) → at < length rows → number ≡ n + at → Rattle.std.specs.Prelude.slice_set rows at (lost_if_late m d (row_at rows at)) ≡ map_rows (lose_one m d number) n rows
lose_here m d number n at rows lt e = set_numbered (lost_if_late m d) n at rows lt ∙ ap (λ i. map_rows (lose_one m d i) n rows) (sym e)

-- ---- all rows at once

pub between_all : (f : Row → Row) (rows : List Row) → between f 0 (length rows) rows ≡ map f rows
between_all f [] = refl
between_all f (r ∷ rows) = ap (λ (xs : List Row). f r ∷ xs) (between_all f rows)

pub any_all : (test : Row → Bool) (rows : List Row) → any_between test 0 (length rows) rows ≡ list_any test rows
any_all test [] = refl
any_all test (r ∷ rows) = ap (λ b. test r || b) (any_all test rows)
