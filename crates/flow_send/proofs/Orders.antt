-- What an ack counts against, by the sendings in their order.
use Rattle.std.proofs.Common.{◌≡◌, ◌⊎◌, ℕ, zero, suc, ◌+◌, ◌-◌, ◌<◌, ◌≤◌, ◌==◌, nat_le, nat_lt, cond, Bool, true, false, ◌&&◌, ◌||◌, List, [], ◌∷◌, ◌++◌, length, drop, refl, ap, sym, ◌∙◌, subst, arith, inl, inr, eq-eqb}
use Rattle.std.specs.Prelude.{slice_set, slice_index_or}
use Rattle.std.specs.List.{sum_by}
use Rattle.std.proofs.lemmas.Bool.{eqb-true, ne_eqb, ltb-true, ltb-false, lt-ltb, le-ltb}
use Rattle.std.proofs.lemmas.Bool.Decides.{nat_tests}
use Rattle.std.proofs.lemmas.List.Sums.{sum_by-cons}
use Rattle.rtmfp_data_chunks.specs.HandsOver.{IsIn}
use Rattle.flow_send.specs.declared.state.State.{State}
use Rattle.flow_send.specs.declared.state.State.TheVariants.{Unsent, Flying, Lost, Acknowledged, Abandoned}
use Rattle.flow_send.specs.Rows.{Row, row_at, is_flying, any_flying, is_lost, lost_of, map_rows, between, any_between}
use Rattle.flow_send.specs.Acks.{is_third, count_ack}
use Rattle.flow_send.specs.Ordered.{Ordered, IsComplete, Rising, NonFalling, EndsBy, EndsBefore, AllThere, AllOther, IsLast, IsPruned, Follows, IsAdded, count_sent, count_one, count_before}
use Rattle.flow_send.proofs.Sendings.{third_flies}
use Rattle.flow_send.proofs.Numbered.{Stands_between, map_between}

-- ---- rows by number

pub map_same : (f g : ℕ → Row → Row) (n : ℕ) (rows : List Row) → ((k : ℕ) (r : Row) → n ≤ k → f k r ≡ g k r) → map_rows f n rows ≡ map_rows g n rows
map_same f g n [] h = refl
map_same f g n (r ∷ rows) h = ap (λ (x : Row). x ∷ map_rows f (n + 1) rows) (h n r (omega arith)) ∙ ap (λ (xs : List Row). g n r ∷ xs) (map_same f g (n + 1) rows (λ k x le. h k x (omega (arith, le))))

pub map_none : (f : ℕ → Row → Row) (n : ℕ) (rows : List Row) → ((k : ℕ) (r : Row) → n ≤ k → f k r ≡ r) → map_rows f n rows ≡ rows
map_none f n [] h = refl
map_none f n (r ∷ rows) h = ap (λ (x : Row). x ∷ map_rows f (n + 1) rows) (h n r (omega arith)) ∙ ap (λ (xs : List Row). r ∷ xs) (map_none f (n + 1) rows (λ k x le. h k x (omega (arith, le))))

pub set_numbered : (f : Row → Row) (n at : ℕ) (rows : List Row) → at < length rows → slice_set rows at (f (row_at rows at)) ≡ map_rows (λ k r. cond (k == n + at) (f r) r) n rows
set_numbered f n at [] lt = absurd (omega arith)
set_numbered f n zero (r ∷ rows) lt =
    let e : (n == n + 0) ≡ true = eq-eqb n (n + 0) (omega arith) in
    sym (ap (λ b. cond b (f r) r ∷ map_rows (λ k x. cond (k == n + 0) (f x) x) (n + 1) rows) e
    ∙ ap (λ (xs : List Row). f r ∷ xs) (map_none (λ k x. cond (k == n + 0) (f x) x) (n + 1) rows (λ k x le. ap (λ b. cond b (f x) x) (ne_eqb k (n + 0) (λ q. omega (arith, q, le))))))
set_numbered f n (suc at) (r ∷ rows) lt =
    let e : (n == n + suc at) ≡ false = ne_eqb n (n + suc at) (λ q. omega (arith, q)) in
    let m : n + 1 + at ≡ n + suc at = omega arith in
    ap (λ (xs : List Row). r ∷ xs) (set_numbered f (n + 1) at rows (omega arith) ∙ ap (λ i. map_rows (λ k x. cond (k == i) (f x) x) (n + 1) rows) m)
    ∙ sym (ap (λ b. cond b (f r) r ∷ map_rows (λ k x. cond (k == n + suc at) (f x) x) (n + 1) rows) e)

-- one sending
other_test : (a b : Bool) (f : Row → Row) (r : Row) → a ≡ false → cond (a && b) (f r) r ≡ r
other_test true b f r e = absurd cc
other_test false b f r e = refl

beyond_test : (a b : Bool) (f : Row → Row) (r : Row) → (a ≡ true → b ≡ false) → cond (a && b) (f r) r ≡ r
beyond_test true true f r h = absurd (let x : true ≡ false = h refl in cc)
beyond_test true false f r h = refl
beyond_test false b f r h = refl

pub one_below : (end ordinal sent number n : ℕ) (rows : List Row) → number < n → rows ≡ map_rows (count_one end ordinal sent number) n rows
one_below end ordinal sent number n rows lt = sym (map_none (count_one end ordinal sent number) n rows (λ k r le. other_test (k == number) (nat_lt k end) (count_sent ordinal sent) r (ne_eqb k number (λ q. omega (arith, q, le, lt)))))

pub one_beyond : (end ordinal sent number n : ℕ) (rows : List Row) → end ≤ number → rows ≡ map_rows (count_one end ordinal sent number) n rows
one_beyond end ordinal sent number n rows le = sym (map_none (count_one end ordinal sent number) n rows (λ k r l. beyond_test (k == number) (nat_lt k end) (count_sent ordinal sent) r (λ e. le-ltb k end (let q = eqb-true k number e in omega (arith, q, le)))))

pub one_here : (end ordinal sent number n at : ℕ) (rows new : List Row) → at < length rows → number ≡ n + at → number < end → new ≡ slice_set rows at (count_sent ordinal sent (row_at rows at)) → new ≡ map_rows (count_one end ordinal sent number) n rows
one_here end ordinal sent number n at rows new lt e below s =
    s ∙ (set_numbered (count_sent ordinal sent) n at rows lt
    ∙ map_same (λ k r. cond (k == n + at) (count_sent ordinal sent r) r) (count_one end ordinal sent number) n rows (λ k r le.
    ap (λ i. cond (k == i) (count_sent ordinal sent r) r) (sym e) ∙ here (k == number) (nat_lt k end) (count_sent ordinal sent r) r (λ q. lt-ltb k end (let z = eqb-true k number q in omega (arith, z, below)))))
  where
    here : (a b : Bool) (x r : Row) → (a ≡ true → b ≡ true) → cond a x r ≡ cond (a && b) x r
    here true true x r h = refl
    here true false x r h = absurd (let z : false ≡ true = h refl in cc)
    here false b x r h = refl

-- ---- counting against a row

still : (ordinal : ℕ) (r : Row) → is_flying r.state ≡ false → count_ack ordinal r ≡ r
still ordinal r e = (third_flies ordinal).same r e

late_if : (f lt two : Bool) (x y r : Row) → lt ≡ false → cond ((f && lt) && two) x (cond (f && lt) y r) ≡ r
late_if true true two x y r e = absurd cc
late_if true false two x y r e = refl
late_if false lt two x y r e = refl

later_still : (ordinal : ℕ) (r : Row) → ordinal ≤ r.ordinal → count_ack ordinal r ≡ r
later_still ordinal r le = late_if (is_flying r.state) (nat_lt r.ordinal ordinal) (nat_le 2 r.acks) (record r { state = Lost }) (record r { acks = r.acks + 1 }) r (le-ltb r.ordinal ordinal le)

keeps_if : (a b : Bool) (r : Row) → (cond a (record r { state = Lost }) (cond b (record r { acks = r.acks + 1 }) r)).ordinal ≡ r.ordinal
keeps_if true b r = refl
keeps_if false true r = refl
keeps_if false false r = refl

pub keeps_ordinal : (ordinal : ℕ) (r : Row) → (count_ack ordinal r).ordinal ≡ r.ordinal
keeps_ordinal ordinal r = keeps_if (is_third ordinal r) (is_flying r.state && nat_lt r.ordinal ordinal) r

fly_if : (a b : Bool) (r : Row) → is_flying (cond a (record r { state = Lost }) (cond b (record r { acks = r.acks + 1 }) r)).state ≡ true → is_flying r.state ≡ true
fly_if true b r e = absurd cc
fly_if false true r e = e
fly_if false false r e = e

moment_if : (a b : Bool) (r : Row) → (cond a (record r { state = Lost }) (cond b (record r { acks = r.acks + 1 }) r)).moment ≡ r.moment
moment_if true b r = refl
moment_if false true r = refl
moment_if false false r = refl

pub keeps_moment : (ordinal : ℕ) (r : Row) → (count_ack ordinal r).moment ≡ r.moment
keeps_moment ordinal r = moment_if (is_third ordinal r) (is_flying r.state && nat_lt r.ordinal ordinal) r

pub count_flies : (ordinal : ℕ) (r : Row) → is_flying (count_ack ordinal r).state ≡ true → is_flying r.state ≡ true
count_flies ordinal r e = fly_if (is_third ordinal r) (is_flying r.state && nat_lt r.ordinal ordinal) r e

-- ---- the walk

-- what was passed and what is left of the sendings
pub record Walks (queue left : List (ℕ × ℕ × ℕ)) (before : ℕ) : Type 0 where
  pub left_out : (e : ℕ × ℕ × ℕ) → IsIn e queue → before ≤ e.0 → IsIn e left
  pub from : (e : ℕ × ℕ × ℕ) → IsIn e left → before ≤ e.0
  pub rising : Rising left

pub walk_begins : (queue : List (ℕ × ℕ × ℕ)) → Rising queue → Walks queue queue 0
walk_begins queue r = record { left_out = λ e i le. i; from = λ e i. omega arith; rising = r }

pub walk_goes : (queue left : List (ℕ × ℕ × ℕ)) (before : ℕ) (e : ℕ × ℕ × ℕ) → Walks queue (e ∷ left) before → Walks queue left (e.0 + 1)
walk_goes queue left before e w = record {
  left_out = λ x i le. go x le (w.left_out x i (let l = w.from e (inl refl) in omega (arith, le, l)));
  from = λ x i. let lt = w.rising.0 x i in omega (arith, lt);
  rising = w.rising.1;
}
  where
    go : (x : ℕ × ℕ × ℕ) → e.0 + 1 ≤ x.0 → IsIn x (e ∷ left) → IsIn x left
    go x le (inl q) = absurd (let z = ap (λ (y : ℕ × ℕ × ℕ). y.0) q in omega (arith, z, le))
    go x le (inr i) = i

one_if : (end ordinal before sent number k : ℕ) (r : Row) (t : Bool) → nat_lt k end ≡ t → before ≤ sent → (is_flying r.state ≡ true → before ≤ r.ordinal → (r.ordinal ≡ sent) × (k ≡ number) ⊎ (sent < r.ordinal))
    → cond ((k == number) && t) (count_sent ordinal sent (cond (t && nat_lt r.ordinal before) (count_ack ordinal r) r)) (cond (t && nat_lt r.ordinal before) (count_ack ordinal r) r) ≡ cond (t && nat_lt r.ordinal (sent + 1)) (count_ack ordinal r) r
one_if end ordinal before sent number k r false e le h = outside (k == number)
  where
    outside : (a : Bool) → cond (a && false) (count_sent ordinal sent r) r ≡ r
    outside true = refl
    outside false = refl
one_if end ordinal before sent number k r true e le h = inside (nat_lt r.ordinal before) (is_flying r.state) refl refl
  where
    -- counted before: it has another ordinal
    counted : r.ordinal < before → (a : Bool) → cond (a && true) (count_sent ordinal sent (count_ack ordinal r)) (count_ack ordinal r) ≡ cond (nat_lt r.ordinal (sent + 1)) (count_ack ordinal r) r
    counted lt true =
        let ne : ((count_ack ordinal r).ordinal == sent) ≡ false = ne_eqb (count_ack ordinal r).ordinal sent (λ q. let o = keeps_ordinal ordinal r in omega (arith, q, o, lt, le)) in
        ap (λ b. cond b (count_ack ordinal (count_ack ordinal r)) (count_ack ordinal r)) ne ∙ sym (ap (λ b. cond b (count_ack ordinal r) r) (lt-ltb r.ordinal (sent + 1) (omega (arith, lt, le))))
    counted lt false = sym (ap (λ b. cond b (count_ack ordinal r) r) (lt-ltb r.ordinal (sent + 1) (omega (arith, lt, le))))

    -- not in flight: nothing counts
    settled : is_flying r.state ≡ false → (a b c : Bool) → cond (a && true) (cond b (count_ack ordinal r) r) r ≡ cond c (count_ack ordinal r) r
    settled f true true true = refl
    settled f true true false = still ordinal r f
    settled f true false true = sym (still ordinal r f)
    settled f true false false = refl
    settled f false b true = sym (still ordinal r f)
    settled f false b false = refl

    now : (r.ordinal ≡ sent) × (k ≡ number) ⊎ (sent < r.ordinal) → cond ((k == number) && true) (count_sent ordinal sent r) r ≡ cond (nat_lt r.ordinal (sent + 1)) (count_ack ordinal r) r
    now (inl p) =
        ap (λ b. cond (b && true) (count_sent ordinal sent r) r) (eq-eqb k number p.1)
        ∙ (ap (λ b. cond b (count_ack ordinal r) r) (eq-eqb r.ordinal sent p.0) ∙ sym (ap (λ b. cond b (count_ack ordinal r) r) (let q = p.0 in lt-ltb r.ordinal (sent + 1) (omega (arith, q)))))
    now (inr lt) =
        beyond (k == number) (r.ordinal == sent) (ne_eqb r.ordinal sent (λ q. omega (arith, q, lt)))
        ∙ sym (ap (λ b. cond b (count_ack ordinal r) r) (le-ltb r.ordinal (sent + 1) (omega (arith, lt))))
      where
        beyond : (a b : Bool) → b ≡ false → cond (a && true) (cond b (count_ack ordinal r) r) r ≡ r
        beyond true true f = absurd cc
        beyond true false f = refl
        beyond false b f = refl

    inside : (u f : Bool) → nat_lt r.ordinal before ≡ u → is_flying r.state ≡ f
        → cond ((k == number) && true) (count_sent ordinal sent (cond u (count_ack ordinal r) r)) (cond u (count_ack ordinal r) r) ≡ cond (nat_lt r.ordinal (sent + 1)) (count_ack ordinal r) r
    inside true f g i = counted (ltb-true r.ordinal before g) (k == number)
    inside false true g i = now (h i (ltb-false r.ordinal before g))
    inside false false g i = settled i (k == number) (r.ordinal == sent) (nat_lt r.ordinal (sent + 1))

-- the next sending
pub one_more : (queue left : List (ℕ × ℕ × ℕ)) (end ordinal before sent number at n : ℕ) (rows : List Row) → AllThere queue n rows → Walks queue ((sent, number, at) ∷ left) before
    → map_rows (count_one end ordinal sent number) n (map_rows (count_before end ordinal before) n rows) ≡ map_rows (count_before end ordinal (sent + 1)) n rows
one_more queue left end ordinal before sent number at n [] a w = refl
one_more queue left end ordinal before sent number at n (r ∷ rows) a w =
    ap (λ (x : Row). x ∷ map_rows (count_one end ordinal sent number) (n + 1) (map_rows (count_before end ordinal before) (n + 1) rows))
    (one_if end ordinal before sent number n r (nat_lt n end) refl (w.from (sent, number, at) (inl refl)) (λ f le. where_is (w.left_out (r.ordinal, n, r.moment) (a.0 f) le)))
    ∙ ap (λ (xs : List Row). count_before end ordinal (sent + 1) n r ∷ xs) (one_more queue left end ordinal before sent number at (n + 1) rows a.1 w)
  where
    where_is : IsIn (r.ordinal, n, r.moment) ((sent, number, at) ∷ left) → (r.ordinal ≡ sent) × (n ≡ number) ⊎ (sent < r.ordinal)
    where_is (inl q) = inl (ap (λ (y : ℕ × ℕ × ℕ). y.0) q, ap (λ (y : ℕ × ℕ × ℕ). y.1) q)
    where_is (inr i) = inr (w.rising.0 (r.ordinal, n, r.moment) i)

-- at the end of the walk
pub all_counted : (queue left : List (ℕ × ℕ × ℕ)) (end ordinal before n : ℕ) (rows : List Row) → AllThere queue n rows → Walks queue left before → before ≤ ordinal → ((e : ℕ × ℕ × ℕ) → IsIn e left → ordinal ≤ e.0)
    → map_rows (count_before end ordinal before) n rows ≡ map_rows (λ k r. cond (nat_lt k end) (count_ack ordinal r) r) n rows
all_counted queue left end ordinal before n [] a w most l = refl
all_counted queue left end ordinal before n (r ∷ rows) a w most l =
    ap (λ (x : Row). x ∷ map_rows (count_before end ordinal before) (n + 1) rows) (row_if (nat_lt n end) (nat_lt r.ordinal before) (is_flying r.state) refl refl)
    ∙ ap (λ (xs : List Row). cond (nat_lt n end) (count_ack ordinal r) r ∷ xs) (all_counted queue left end ordinal before (n + 1) rows a.1 w most l)
  where
    row_if : (t u f : Bool) → nat_lt r.ordinal before ≡ u → is_flying r.state ≡ f → cond (t && u) (count_ack ordinal r) r ≡ cond t (count_ack ordinal r) r
    row_if false u f g i = refl
    row_if true true f g i = refl
    row_if true false false g i = sym (still ordinal r i)
    row_if true false true g i = sym (later_still ordinal r (l (r.ordinal, n, r.moment) (w.left_out (r.ordinal, n, r.moment) (a.0 i) (ltb-false r.ordinal before g))))

below_stands : (n to : ℕ) → Stands_between (λ k. nat_lt k (n + to)) n 0 to
below_stands n to i = grind (arith, nat_tests)

pub counted_rows : (n to ordinal : ℕ) (rows new : List Row) → new ≡ map_rows (λ k r. cond (nat_lt k (n + to)) (count_ack ordinal r) r) n rows → new ≡ between (count_ack ordinal) 0 to rows
counted_rows n to ordinal rows new e = e ∙ map_between (λ k. nat_lt k (n + to)) (count_ack ordinal) n 0 to rows (below_stands n to)

pub none_before : (end ordinal n : ℕ) (rows : List Row) → rows ≡ map_rows (count_before end ordinal 0) n rows
none_before end ordinal n rows = sym (map_none (count_before end ordinal 0) n rows (λ k r le. none_if (nat_lt k end) (nat_lt r.ordinal 0) (count_ack ordinal r) r (le-ltb r.ordinal 0 (omega arith))))
  where
    none_if : (a b : Bool) (x r : Row) → b ≡ false → cond (a && b) x r ≡ r
    none_if true true x r e = absurd cc
    none_if true false x r e = refl
    none_if false b x r e = refl

-- ---- one lost makes more of them

abbrev bit : Bool → ℕ
bit true = 1
bit false = 0

lost_bit : (t : State) → cond {A = ℕ} (is_lost t) 1 0 ≡ bit (is_lost t)
lost_bit Unsent = refl
lost_bit Flying = refl
lost_bit Lost = refl
lost_bit Acknowledged = refl
lost_bit Abandoned = refl

abbrev thirds : ℕ → ℕ → List Row → ℕ
thirds ordinal zero rows = 0
thirds ordinal (suc to) [] = 0
thirds ordinal (suc to) (r ∷ rows) = bit (is_third ordinal r) + thirds ordinal to rows

lost_row : (ordinal : ℕ) (r : Row) → lost_of (count_ack ordinal r) ≡ lost_of r + bit (is_third ordinal r)
lost_row ordinal r = lost_if (is_flying r.state) (nat_lt r.ordinal ordinal) (nat_le 2 r.acks) refl
  where
    none : (t : State) → is_flying t ≡ true → bit (is_lost t) ≡ 0
    none Unsent e = absurd cc
    none Flying e = refl
    none Lost e = absurd cc
    none Acknowledged e = absurd cc
    none Abandoned e = absurd cc

    lost_if : (f lt two : Bool) → is_flying r.state ≡ f → lost_of (cond ((f && lt) && two) (record r { state = Lost }) (cond (f && lt) (record r { acks = r.acks + 1 }) r)) ≡ lost_of r + bit ((f && lt) && two)
    lost_if true true true e = let z = lost_bit r.state ∙ none r.state e in let one : lost_of (record r { state = Lost }) ≡ bit true = refl in omega (arith, z, one)
    lost_if true true false e = omega arith
    lost_if true false two e = omega arith
    lost_if false lt two e = omega arith

lost_sum : (ordinal to : ℕ) (rows : List Row) → sum_by lost_of (between (count_ack ordinal) 0 to rows) ≡ sum_by lost_of rows + thirds ordinal to rows
lost_sum ordinal zero [] = omega arith
lost_sum ordinal zero (r ∷ rows) = omega arith
lost_sum ordinal (suc to) [] = omega arith
lost_sum ordinal (suc to) (r ∷ rows) =
    let a = lost_row ordinal r in
    let b = lost_sum ordinal to rows in
    omega (arith, a, b, sum_by-cons lost_of r rows, sum_by-cons lost_of (count_ack ordinal r) (between (count_ack ordinal) 0 to rows))

any_third : (ordinal to : ℕ) (rows : List Row) → nat_lt 0 (thirds ordinal to rows) ≡ any_between (is_third ordinal) 0 to rows
any_third ordinal zero [] = refl
any_third ordinal zero (r ∷ rows) = refl
any_third ordinal (suc to) [] = refl
any_third ordinal (suc to) (r ∷ rows) = third_if (is_third ordinal r) (any_third ordinal to rows)
  where
    third_if : (t : Bool) → nat_lt 0 (thirds ordinal to rows) ≡ any_between (is_third ordinal) 0 to rows → nat_lt 0 (bit t + thirds ordinal to rows) ≡ (t || any_between (is_third ordinal) 0 to rows)
    third_if true h = lt-ltb 0 (1 + thirds ordinal to rows) (omega arith)
    third_if false h = let z : bit false + thirds ordinal to rows ≡ thirds ordinal to rows = omega arith in ap (λ i. nat_lt 0 i) z ∙ h

pub more_lost : (ordinal to before after : ℕ) (rows new : List Row) → before ≡ sum_by lost_of rows → new ≡ between (count_ack ordinal) 0 to rows → after ≡ sum_by lost_of new → nat_lt before after ≡ any_between (is_third ordinal) 0 to rows
more_lost ordinal to before after rows new b e a =
    let s = lost_sum ordinal to rows in
    let n = ap (λ (xs : List Row). sum_by lost_of xs) e in
    same (thirds ordinal to rows) (omega (arith, b, a, s, n)) ∙ any_third ordinal to rows
  where
    same : (t : ℕ) → after ≡ before + t → nat_lt before after ≡ nat_lt 0 t
    same t q = grind (arith, nat_tests, q)

-- ---- the sendings by index

-- what comes after the ordinal of the sending before an index
abbrev pub after_index : List (ℕ × ℕ × ℕ) → ℕ → ℕ
after_index queue index = cond (index == 0) 0 ((slice_index_or queue (index - 1) (0, 0, 0)).0 + 1)

pub after_next : (queue : List (ℕ × ℕ × ℕ)) (index : ℕ) → after_index queue (index + 1) ≡ (slice_index_or queue index (0, 0, 0)).0 + 1
after_next queue index =
    let m : index + 1 - 1 ≡ index = omega arith in
    ap (λ b. cond b 0 ((slice_index_or queue (index + 1 - 1) (0, 0, 0)).0 + 1)) (ne_eqb (index + 1) 0 (λ q. omega (arith, q))) ∙ ap (λ i. (slice_index_or queue i (0, 0, 0)).0 + 1) m

pub drop_here : (queue : List (ℕ × ℕ × ℕ)) (index : ℕ) → index < length queue → drop index queue ≡ slice_index_or queue index (0, 0, 0) ∷ drop (index + 1) queue
drop_here [] index lt = absurd (omega arith)
drop_here (e ∷ queue) zero lt = refl
drop_here (e ∷ queue) (suc index) lt = let k : suc index + 1 ≡ suc (index + 1) = omega arith in drop_here queue index (omega arith) ∙ ap (λ i. slice_index_or queue index (0, 0, 0) ∷ drop i (e ∷ queue)) (sym k)

pub any_index : (queue : List (ℕ × ℕ × ℕ)) (index : ℕ) (d f : ℕ × ℕ × ℕ) → index < length queue → slice_index_or queue index d ≡ slice_index_or queue index f
any_index [] index d f lt = absurd (omega arith)
any_index (e ∷ queue) zero d f lt = refl
any_index (e ∷ queue) (suc index) d f lt = any_index queue index d f (omega arith)

pub drop_end : (queue : List (ℕ × ℕ × ℕ)) (index : ℕ) → length queue ≤ index → (e : ℕ × ℕ × ℕ) → IsIn e (drop index queue) → ⊥
drop_end [] zero le e i = i
drop_end [] (suc index) le e i = i
drop_end (x ∷ queue) zero le e i = absurd (omega arith)
drop_end (x ∷ queue) (suc index) le e i = drop_end queue index (omega arith) e i

-- from the first one on all are at or above it
pub head_least : (left : List (ℕ × ℕ × ℕ)) (e : ℕ × ℕ × ℕ) (ordinal : ℕ) → Rising (e ∷ left) → ordinal ≤ e.0 → (x : ℕ × ℕ × ℕ) → IsIn x (e ∷ left) → ordinal ≤ x.0
head_least left e ordinal r le x (inl q) = let z = ap (λ (y : ℕ × ℕ × ℕ). y.0) q in omega (arith, z, le)
head_least left e ordinal r le x (inr i) = let lt = r.0 x i in omega (arith, lt, le)

pub last_before : (ordinal i : ℕ) (queue : List (ℕ × ℕ × ℕ)) (x : ℕ × ℕ × ℕ) → i ≡ length queue - 1 → x ≡ slice_index_or queue i x → x.0 < ordinal → EndsBefore ordinal queue
last_before ordinal i [] x n e lt = tt
last_before ordinal i (f ∷ []) x n e lt =
    let z : i ≡ 0 = omega (arith, n) in
    let q : x ≡ f = e ∙ ap (λ k. slice_index_or (f ∷ []) k x) z in
    let p = ap (λ (y : ℕ × ℕ × ℕ). y.0) q in
    omega (arith, p, lt)
last_before ordinal i (f ∷ g ∷ later) x n e lt =
    let k : i ≡ suc (length later) = omega (arith, n) in
    last_before ordinal (length later) (g ∷ later) x (omega arith) (e ∙ ap (λ j. slice_index_or (f ∷ g ∷ later) j x) k) lt

pub last_by : (moment i : ℕ) (queue : List (ℕ × ℕ × ℕ)) (x : ℕ × ℕ × ℕ) → i ≡ length queue - 1 → x ≡ slice_index_or queue i x → x.2 ≤ moment → EndsBy moment queue
last_by moment i [] x n e lt = tt
last_by moment i (f ∷ []) x n e lt =
    let z : i ≡ 0 = omega (arith, n) in
    let q : x ≡ f = e ∙ ap (λ k. slice_index_or (f ∷ []) k x) z in
    let p = ap (λ (y : ℕ × ℕ × ℕ). y.2) q in
    omega (arith, p, lt)
last_by moment i (f ∷ g ∷ later) x n e lt =
    let k : i ≡ suc (length later) = omega (arith, n) in
    last_by moment (length later) (g ∷ later) x (omega arith) (e ∙ ap (λ j. slice_index_or (f ∷ g ∷ later) j x) k) lt

-- ---- sendings of numbers that aren't in flight since

pub other_below : (sent number time n : ℕ) (rows : List Row) → number < n → AllOther (sent, number, time) n rows
other_below sent number time n [] lt = tt
other_below sent number time n (r ∷ rows) lt = (λ f q. let z = ap (λ (y : ℕ × ℕ × ℕ). y.1) q in omega (arith, z, lt), other_below sent number time (n + 1) rows (omega (arith, lt)))

pub other_beyond : (sent number time n : ℕ) (rows : List Row) → n + length rows ≤ number → AllOther (sent, number, time) n rows
other_beyond sent number time n [] le = tt
other_beyond sent number time n (r ∷ rows) le = (λ f q. let z = ap (λ (y : ℕ × ℕ × ℕ). y.1) q in omega (arith, z, le), other_beyond sent number time (n + 1) rows (omega (arith, le)))

pub other_here : (sent number time n at : ℕ) (rows : List Row) → number ≡ n + at → at < length rows → (is_flying (row_at rows at).state ≡ true → (row_at rows at).ordinal ≡ sent → ⊥) → AllOther (sent, number, time) n rows
other_here sent number time n at [] e lt h = tt
other_here sent number time n zero (r ∷ rows) e lt h = (λ f q. h f (ap (λ (y : ℕ × ℕ × ℕ). y.0) q), other_below sent number time (n + 1) rows (omega (arith, e)))
other_here sent number time n (suc at) (r ∷ rows) e lt h = (λ f q. let z = ap (λ (y : ℕ × ℕ × ℕ). y.1) q in omega (arith, z, e), other_here sent number time (n + 1) at rows (omega (arith, e)) (omega arith) h)

pub still_there : (queue left : List (ℕ × ℕ × ℕ)) (e : ℕ × ℕ × ℕ) (n : ℕ) (rows : List Row) → queue ≡ e ∷ left → AllThere queue n rows → AllOther e n rows → AllThere left n rows
still_there queue left e n [] q a o = tt
still_there queue left e n (r ∷ rows) q a o = (λ f. here (o.0 f) (subst (IsIn (r.ordinal, n, r.moment)) q (a.0 f)), still_there queue left e (n + 1) rows q a.1 o.1)
  where
    here : ((r.ordinal, n, r.moment) ≡ e → ⊥) → IsIn (r.ordinal, n, r.moment) (e ∷ left) → IsIn (r.ordinal, n, r.moment) left
    here ne (inl z) = absurd (ne z)
    here ne (inr j) = j

pub pruned : (old new : Ordered) (e : ℕ × ℕ × ℕ) (n : ℕ) (rows : List Row) → new.whole ≡ old.whole → old.queue ≡ e ∷ new.queue → AllOther e n rows → Follows old n rows → Follows new n rows
pruned old new e n rows w q o f = λ t. let c = f (sym w ∙ t) in record { rising = (subst Rising q c.rising).1; moments = (subst NonFalling q c.moments).1; there = still_there old.queue new.queue e n rows q c.there o }

-- ---- the oldest sending that stays

pub last_at : (sent number n at : ℕ) (rows : List Row) → number ≡ n + at → at < length rows → is_flying (row_at rows at).state ≡ true → (row_at rows at).ordinal ≡ sent → IsLast sent number n rows
last_at sent number n at [] e lt f o = absurd (omega (arith, lt))
last_at sent number n zero (r ∷ rows) e lt f o = inl (omega (arith, e), f, o)
last_at sent number n (suc at) (r ∷ rows) e lt f o = inr (last_at sent number (n + 1) at rows (omega (arith, e)) (omega arith) f o)

pub none_pruned : (queue : List (ℕ × ℕ × ℕ)) (n : ℕ) (rows : List Row) → queue ≡ [] → IsPruned queue n rows
none_pruned queue n rows q = subst (λ (xs : List (ℕ × ℕ × ℕ)). IsPruned xs n rows) (sym q) tt

-- ---- a queue that begins anew

none_there : (n : ℕ) (rows : List Row) → any_flying rows ≡ false → AllThere [] n rows
none_there n [] none = tt
none_there n (r ∷ rows) none = by (is_flying r.state) refl none (none_there (n + 1) rows)
  where
    by : (b : Bool) → is_flying r.state ≡ b → b || any_flying rows ≡ false → (any_flying rows ≡ false → AllThere [] (n + 1) rows) → AllThere [] n (r ∷ rows)
    by false is rest later = (λ e. absurd (let no : true ≡ false = sym e ∙ is in cc), later rest)
    by true is rest later = absurd (let no : true ≡ false = rest in cc)

-- where no row is in flight, a queue with nothing in it is complete
pub anew : (queue : List (ℕ × ℕ × ℕ)) (flying : Bool) (n : ℕ) (rows : List Row) → queue ≡ [] → flying ≡ any_flying rows → flying ≡ false → IsComplete queue n rows
anew queue flying n rows empty is unflown = subst (λ (q : List (ℕ × ℕ × ℕ)). IsComplete q n rows) (sym empty) (record { rising = tt; moments = tt; there = none_there n rows (sym is ∙ unflown) })

-- ---- what keeps the order

-- a row in flight was in flight before, since the same sending
abbrev pub KeepsFlight : (Row → Row → Type 0)
KeepsFlight r x = is_flying x.state ≡ true → (is_flying r.state ≡ true) × (x.ordinal ≡ r.ordinal) × (x.moment ≡ r.moment)

pub there_map : (queue : List (ℕ × ℕ × ℕ)) (f : ℕ → Row → Row) (n : ℕ) (rows : List Row) → ((k : ℕ) (r : Row) → KeepsFlight r (f k r)) → AllThere queue n rows → AllThere queue n (map_rows f n rows)
there_map queue f n [] h a = tt
there_map queue f n (r ∷ rows) h a = (λ e. let k = h n r e in subst (λ (i : ℕ). IsIn (i, n, (f n r).moment) queue) (sym k.1) (subst (λ (i : ℕ). IsIn (r.ordinal, n, i) queue) (sym k.2) (a.0 k.0)), there_map queue f (n + 1) rows h a.1)

pub follows_map : (o : Ordered) (f : ℕ → Row → Row) (n : ℕ) (rows : List Row) → ((k : ℕ) (r : Row) → KeepsFlight r (f k r)) → Follows o n rows → Follows o n (map_rows f n rows)
follows_map o f n rows h g = λ w. let c = g w in record { rising = c.rising; moments = c.moments; there = there_map o.queue f n rows h c.there }

there_append : (queue : List (ℕ × ℕ × ℕ)) (n : ℕ) (xs ys : List Row) → ((m : ℕ) → AllThere queue m ys) → AllThere queue n xs → AllThere queue n (xs ++ ys)
there_append queue n [] ys h a = h n
there_append queue n (x ∷ xs) ys h a = (a.0, there_append queue (n + 1) xs ys h a.1)

pub follows_append : (o : Ordered) (n : ℕ) (xs ys : List Row) → ((m : ℕ) → AllThere o.queue m ys) → Follows o n xs → Follows o n (xs ++ ys)
follows_append o n xs ys h g = λ w. let c = g w in record { rising = c.rising; moments = c.moments; there = there_append o.queue n xs ys h c.there }

there_drop : (queue : List (ℕ × ℕ × ℕ)) (n d : ℕ) (rows : List Row) → AllThere queue n rows → AllThere queue (n + d) (drop d rows)
there_drop queue n zero rows a = let e : n ≡ n + 0 = omega arith in subst (λ (i : ℕ). AllThere queue i rows) e a
there_drop queue n (suc d) [] a = tt
there_drop queue n (suc d) (r ∷ rows) a = let e : n + 1 + d ≡ n + suc d = omega arith in subst (λ (i : ℕ). AllThere queue i (drop d rows)) e (there_drop queue (n + 1) d rows a.1)

pub follows_drop : (o : Ordered) (f d : ℕ) (rows : List Row) → Follows o (f + 1) rows → Follows o (f + d + 1) (drop d rows)
follows_drop o f d rows g = λ w. let c = g w in let e : f + 1 + d ≡ f + d + 1 = omega arith in record { rising = c.rising; moments = c.moments; there = subst (λ (i : ℕ). AllThere o.queue i (drop d rows)) e (there_drop o.queue (f + 1) d rows c.there) }

-- one more sending
in_more : (x e : ℕ × ℕ × ℕ) (queue : List (ℕ × ℕ × ℕ)) → IsIn x queue → IsIn x (queue ++ e ∷ [])
in_more x e [] i = absurd i
in_more x e (y ∷ queue) (inl q) = inl q
in_more x e (y ∷ queue) (inr i) = inr (in_more x e queue i)

in_last : (e : ℕ × ℕ × ℕ) (queue : List (ℕ × ℕ × ℕ)) → IsIn e (queue ++ e ∷ [])
in_last e [] = inl refl
in_last e (y ∷ queue) = inr (in_last e queue)

from_more : (x e : ℕ × ℕ × ℕ) (queue : List (ℕ × ℕ × ℕ)) → IsIn x (queue ++ e ∷ []) → IsIn x queue ⊎ (x ≡ e)
from_more x e [] (inl q) = inr q
from_more x e [] (inr i) = absurd i
from_more x e (y ∷ queue) (inl q) = inl (inl q)
from_more x e (y ∷ queue) (inr i) = later (from_more x e queue i)
  where
    later : IsIn x queue ⊎ (x ≡ e) → IsIn x (y ∷ queue) ⊎ (x ≡ e)
    later (inl j) = inl (inr j)
    later (inr q) = inr q

below_end : (ordinal : ℕ) (e : ℕ × ℕ × ℕ) (queue : List (ℕ × ℕ × ℕ)) → Rising (e ∷ queue) → EndsBefore ordinal (e ∷ queue) → e.0 < ordinal
below_end ordinal e [] r b = b
below_end ordinal e (f ∷ queue) r b = let lt = below_end ordinal f queue r.1 b in let l = r.0 f (inl refl) in omega (arith, lt, l)

ends_later : (ordinal : ℕ) (e : ℕ × ℕ × ℕ) (queue : List (ℕ × ℕ × ℕ)) → EndsBefore ordinal (e ∷ queue) → EndsBefore ordinal queue
ends_later ordinal e [] b = tt
ends_later ordinal e (f ∷ queue) b = b

rising_more : (ordinal number moment : ℕ) (queue : List (ℕ × ℕ × ℕ)) → Rising queue → EndsBefore ordinal queue → Rising (queue ++ (ordinal, number, moment) ∷ [])
rising_more ordinal number moment [] r b = (λ x i. absurd i, tt)
rising_more ordinal number moment (e ∷ queue) r b = (
  λ x i. below x (from_more x (ordinal, number, moment) queue i),
  rising_more ordinal number moment queue r.1 (ends_later ordinal e queue b),
)
  where
    below : (x : ℕ × ℕ × ℕ) → IsIn x queue ⊎ (x ≡ (ordinal, number, moment)) → e.0 < x.0
    below x (inl i) = r.0 x i
    below x (inr q) = let z = ap (λ (y : ℕ × ℕ × ℕ). y.0) q in let lt = below_end ordinal e queue r b in omega (arith, z, lt)

falling_end : (moment : ℕ) (e : ℕ × ℕ × ℕ) (queue : List (ℕ × ℕ × ℕ)) → NonFalling (e ∷ queue) → EndsBy moment (e ∷ queue) → e.2 ≤ moment
falling_end moment e [] r b = b
falling_end moment e (f ∷ queue) r b = let lt = falling_end moment f queue r.1 b in let l = r.0 f (inl refl) in omega (arith, lt, l)

by_later : (moment : ℕ) (e : ℕ × ℕ × ℕ) (queue : List (ℕ × ℕ × ℕ)) → EndsBy moment (e ∷ queue) → EndsBy moment queue
by_later moment e [] b = tt
by_later moment e (f ∷ queue) b = b

moments_more : (ordinal number moment : ℕ) (queue : List (ℕ × ℕ × ℕ)) → NonFalling queue → EndsBy moment queue → NonFalling (queue ++ (ordinal, number, moment) ∷ [])
moments_more ordinal number moment [] r b = (λ x i. absurd i, tt)
moments_more ordinal number moment (e ∷ queue) r b = (
  λ x i. above x (from_more x (ordinal, number, moment) queue i),
  moments_more ordinal number moment queue r.1 (by_later moment e queue b),
)
  where
    above : (x : ℕ × ℕ × ℕ) → IsIn x queue ⊎ (x ≡ (ordinal, number, moment)) → e.2 ≤ x.2
    above x (inl i) = r.0 x i
    above x (inr q) = let z = ap (λ (y : ℕ × ℕ × ℕ). y.2) q in let lt = falling_end moment e queue r b in omega (arith, z, lt)

abbrev pub IsSent : ℕ → ℕ → ℕ → ℕ → Row → Row → Type 0
IsSent ordinal number moment k r x = (x ≡ r) ⊎ ((k ≡ number) × (x.ordinal ≡ ordinal) × (x.moment ≡ moment))

there_sent : (queue : List (ℕ × ℕ × ℕ)) (ordinal number moment n : ℕ) (f : ℕ → Row → Row) (rows : List Row) → ((k : ℕ) (r : Row) → IsSent ordinal number moment k r (f k r)) → AllThere queue n rows → AllThere (queue ++ (ordinal, number, moment) ∷ []) n (map_rows f n rows)
there_sent queue ordinal number moment n f [] h a = tt
there_sent queue ordinal number moment n f (r ∷ rows) h a = (λ e. here e (h n r), there_sent queue ordinal number moment (n + 1) f rows h a.1)
  where
    here : is_flying (f n r).state ≡ true → IsSent ordinal number moment n r (f n r) → IsIn ((f n r).ordinal, n, (f n r).moment) (queue ++ (ordinal, number, moment) ∷ [])
    here e (inl q) = subst (λ (x : Row). IsIn (x.ordinal, n, x.moment) (queue ++ (ordinal, number, moment) ∷ [])) (sym q) (in_more (r.ordinal, n, r.moment) (ordinal, number, moment) queue (a.0 (sym (ap (λ (x : Row). is_flying x.state) q) ∙ e)))
    here e (inr p) = subst (λ (y : ℕ × ℕ × ℕ). IsIn y (queue ++ (ordinal, number, moment) ∷ [])) (sym (ap (λ i. (i, n, (f n r).moment)) p.1 ∙ (ap (λ i. (ordinal, i, (f n r).moment)) p.0 ∙ ap (λ i. (ordinal, number, i)) p.2))) (in_last (ordinal, number, moment) queue)

pub follows_sent : (old new : Ordered) (ordinal number moment n : ℕ) (f : ℕ → Row → Row) (rows : List Row) → IsAdded ordinal number moment old new → ((k : ℕ) (r : Row) → IsSent ordinal number moment k r (f k r)) → Follows old n rows → Follows new n (map_rows f n rows)
follows_sent old new ordinal number moment n f rows added h g = λ w.
    let a = added w in
    let c = g a.0 in
    record {
      rising = subst Rising (sym a.3) (rising_more ordinal number moment old.queue c.rising a.1);
      moments = subst NonFalling (sym a.3) (moments_more ordinal number moment old.queue c.moments a.2);
      there = subst (λ (q : List (ℕ × ℕ × ℕ)). AllThere q n (map_rows f n rows)) (sym a.3) (there_sent old.queue ordinal number moment n f rows h c.there);
    }
