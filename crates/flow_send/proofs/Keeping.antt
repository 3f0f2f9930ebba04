-- What each change of the rows keeps.
use Rattle.std.proofs.Common.{◌≡◌, ℕ, zero, suc, ◌+◌, ◌<◌, ◌≤◌, cond, not, ◌==◌, Bool, true, false, ◌&&◌, ◌||◌, List, [], ◌∷◌, ◌++◌, length, drop, Some, refl, ap, sym, ◌∙◌, subst, arith}
use Rattle.std.specs.List.{filter, sum_by}
use Rattle.std.proofs.lemmas.Bool.{eqb-true}
use Rattle.std.proofs.lemmas.List.Sums.{sum_by-cons}
use Rattle.flow_send.specs.declared.waiting.Waiting.{Waiting}
use Rattle.flow_send.specs.Rows.{Row, is_settled, map_rows, settled_front}
use Rattle.flow_send.specs.Sender.{has_number, message_at, without_message}
use Rattle.flow_send.specs.Acks.{still_waits}
use Rattle.flow_send.specs.Steady.{RowOk, AllOk, Line, AllWait}

-- rows changed one by one
pub ok_map : (sent n : ℕ) (g : ℕ → Row → Row) (rows : List Row) → ((k : ℕ) (r : Row) → RowOk sent k r → RowOk sent k (g k r)) → AllOk sent n rows → AllOk sent n (map_rows g n rows)
ok_map sent n g [] h a = tt
ok_map sent n g (r ∷ rows) h a = (h n r a.0, ok_map sent (n + 1) g rows h a.1)

pub ok_append : (sent n : ℕ) (xs ys : List Row) → AllOk sent n xs → AllOk sent (n + length xs) ys → AllOk sent n (xs ++ ys)
ok_append sent n [] ys h k = let e : n + 0 ≡ n = omega arith in subst (λ (i : ℕ). AllOk sent i ys) e k
ok_append sent n (x ∷ xs) ys h k = (h.0, let e : n + length (x ∷ xs) ≡ n + 1 + length xs = omega arith in ok_append sent (n + 1) xs ys h.1 (subst (λ (i : ℕ). AllOk sent i ys) e k))

pub ok_drop : (sent n d : ℕ) (rows : List Row) → AllOk sent n rows → AllOk sent (n + d) (drop d rows)
ok_drop sent n zero rows h = let e : n + 0 ≡ n = omega arith in subst (λ (i : ℕ). AllOk sent i rows) (sym e) h
ok_drop sent n (suc d) [] h = tt
ok_drop sent n (suc d) (r ∷ rows) h = let e : n + 1 + d ≡ n + suc d = omega arith in subst (λ (i : ℕ). AllOk sent i (drop d rows)) e (ok_drop sent (n + 1) d rows h.1)

-- a message waits where it did, if what is settled in it is as before
or_eq : (a b c d : Bool) → a ≡ b → c ≡ d → (a || c) ≡ (b || d)
or_eq a b c d e f = ap (λ x. x || c) e ∙ ap (λ x. b || x) f

waits_at : (b : Bool) (s t : Bool) → (b ≡ true → s ≡ t) → (b && not s) ≡ (b && not t)
waits_at true s t h = ap not (h refl)
waits_at false s t h = refl

pub waits_map : (g : ℕ → Row → Row) (n : ℕ) (rows : List Row) (w : Waiting) → ((k : ℕ) (r : Row) → n ≤ k → has_number w k ≡ true → is_settled (g k r).state ≡ is_settled r.state) → still_waits n (map_rows g n rows) w ≡ still_waits n rows w
waits_map g n [] w h = refl
waits_map g n (r ∷ rows) w h =
    or_eq _ _ _ _ (waits_at (has_number w n) (is_settled (g n r).state) (is_settled r.state) (λ e. h n r (omega arith) e)) (waits_map g (n + 1) rows w (λ k x le e. h k x (omega (arith, le)) e))

waits_front_if : (b s : Bool) (c d : Bool) → s ≡ true → c ≡ d → ((b && not s) || c) ≡ d
waits_front_if true true c d e f = f
waits_front_if false true c d e f = f
waits_front_if b false c d e f = absurd cc

settle_if : (n : ℕ) (r : Row) (rows : List Row) (w : Waiting) (t : Bool) → is_settled r.state ≡ t → still_waits (n + 1) rows w ≡ still_waits (n + 1 + settled_front rows) (drop (settled_front rows) rows) w
    → still_waits n (r ∷ rows) w ≡ still_waits (n + cond t (settled_front rows + 1) 0) (drop (cond t (settled_front rows + 1) 0) (r ∷ rows)) w
settle_if n r rows w true e ih =
    let k : n + 1 + settled_front rows ≡ n + (settled_front rows + 1) = omega arith in
    let d : suc (settled_front rows) ≡ settled_front rows + 1 = omega arith in
    waits_front_if (has_number w n) (is_settled r.state) (still_waits (n + 1) rows w) (still_waits (n + 1 + settled_front rows) (drop (settled_front rows) rows) w) e ih
    ∙ (ap (λ i. still_waits i (drop (settled_front rows) rows) w) k ∙ ap (λ i. still_waits (n + (settled_front rows + 1)) (drop i (r ∷ rows)) w) d)
settle_if n r rows w false e ih = let k : n ≡ n + 0 = omega arith in ap (λ i. still_waits i (r ∷ rows) w) k

-- settled rows at the front make no difference
pub waits_settle : (n : ℕ) (rows : List Row) (w : Waiting) → still_waits n rows w ≡ still_waits (n + settled_front rows) (drop (settled_front rows) rows) w
waits_settle n [] w = refl
waits_settle n (r ∷ rows) w = settle_if n r rows w (is_settled r.state) refl (waits_settle (n + 1) rows w)

pub all_wait_by : (n m : ℕ) (rows other : List Row) (ws : List Waiting) → ((w : Waiting) → still_waits m other w ≡ still_waits n rows w) → AllWait n rows ws → AllWait m other ws
all_wait_by n m rows other [] h a = tt
all_wait_by n m rows other (w ∷ ws) h a = (h w ∙ a.0, all_wait_by n m rows other ws h a.1)

filter_if : (n : ℕ) (rows : List Row) (w : Waiting) (less : List Waiting) (t : Bool) → still_waits n rows w ≡ t → AllWait n rows less → AllWait n rows (cond t (w ∷ less) less)
filter_if n rows w less true e h = (e, h)
filter_if n rows w less false e h = h

pub all_wait_filter : (n : ℕ) (rows : List Row) (ws : List Waiting) → AllWait n rows (filter (still_waits n rows) ws)
all_wait_filter n rows [] = tt
all_wait_filter n rows (w ∷ ws) = filter_if n rows w (filter (still_waits n rows) ws) (still_waits n rows w) refl (all_wait_filter n rows ws)

true_or : (a b : Bool) → a ≡ true → (a || b) ≡ true
true_or true b e = refl
true_or false b e = absurd cc

or_true : (a b : Bool) → b ≡ true → (a || b) ≡ true
or_true true b e = refl
or_true false b e = e

or_true_if : (a b c : Bool) → (a || b) ≡ true → (b ≡ true → c ≡ true) → (a || c) ≡ true
or_true_if true b c e h = refl
or_true_if false b c e h = h e

pub waits_append : (n : ℕ) (xs ys : List Row) (w : Waiting) → still_waits n xs w ≡ true → still_waits n (xs ++ ys) w ≡ true
waits_append n [] ys w e = absurd cc
waits_append n (x ∷ xs) ys w e = or_true_if (has_number w n && not (is_settled x.state)) (still_waits (n + 1) xs w) (still_waits (n + 1) (xs ++ ys) w) e (waits_append (n + 1) xs ys w)

pub waits_later : (n : ℕ) (xs ys : List Row) (w : Waiting) → still_waits (n + length xs) ys w ≡ true → still_waits n (xs ++ ys) w ≡ true
waits_later n [] ys w e = let k : n + 0 ≡ n = omega arith in ap (λ i. still_waits i ys w) (sym k) ∙ e
waits_later n (x ∷ xs) ys w e =
    let k : n + 1 + length xs ≡ n + length (x ∷ xs) = omega arith in
    or_true (has_number w n && not (is_settled x.state)) (still_waits (n + 1) (xs ++ ys) w) (waits_later (n + 1) xs ys w (ap (λ i. still_waits i ys w) k ∙ e))

pub all_wait_append : (n : ℕ) (xs ys : List Row) (ws : List Waiting) → AllWait n xs ws → AllWait n (xs ++ ys) ws
all_wait_append n xs ys [] h = tt
all_wait_append n xs ys (w ∷ ws) h = (waits_append n xs ys w h.0, all_wait_append n xs ys ws h.1)

pub all_wait_push : (n : ℕ) (rows : List Row) (ws : List Waiting) (w : Waiting) → AllWait n rows ws → still_waits n rows w ≡ true → AllWait n rows (ws ++ w ∷ [])
all_wait_push n rows [] w h e = (e, tt)
all_wait_push n rows (x ∷ ws) w h e = (h.0, all_wait_push n rows ws w h.1 e)

-- messages in a line
pub line_lower : (low mid high : ℕ) (ws : List Waiting) → low ≤ mid → Line mid high ws → Line low high ws
line_lower low mid high [] le h = let e : low ≤ high = omega (arith, le, h) in e
line_lower low mid high (w ∷ ws) le h = (omega (arith, le, h.0), h.1, h.2)

pub line_higher : (low high more : ℕ) (ws : List Waiting) → high ≤ more → Line low high ws → Line low more ws
line_higher low high more [] le h = let e : low ≤ more = omega (arith, le, h) in e
line_higher low high more (w ∷ ws) le h = (h.0, h.1, line_higher (w.number + w.count) high more ws le h.2)

pub line_push : (low high more : ℕ) (ws : List Waiting) (w : Waiting) → Line low high ws → w.number ≡ high → 0 < w.count → w.number + w.count ≡ more → Line low more (ws ++ w ∷ [])
line_push low high more [] w h e c f = let le : low ≤ high = h in (omega (arith, le, e), c, omega (arith, f))
line_push low high more (x ∷ ws) w h e c f = (h.0, h.1, line_push (x.number + x.count) high more ws w h.2 e c f)

line_filter_if : (low high : ℕ) (w : Waiting) (less : List Waiting) (t : Bool) → low ≤ w.number → 0 < w.count → Line (w.number + w.count) high less → Line low high (cond t (w ∷ less) less)
line_filter_if low high w less true a b h = (a, b, h)
line_filter_if low high w less false a b h = line_lower low (w.number + w.count) high less (omega (arith, a)) h

pub line_filter : (low high : ℕ) (p : Waiting → Bool) (ws : List Waiting) → Line low high ws → Line low high (filter p ws)
line_filter low high p [] h = h
line_filter low high p (w ∷ ws) h = line_filter_if low high w (filter p ws) (p w) h.0 h.1 (line_filter (w.number + w.count) high p ws h.2)

line_without_if : (low high : ℕ) (w : Waiting) (later less : List Waiting) (t : Bool) → Line low high (w ∷ later) → Line (w.number + w.count) high less → Line low high (cond t later (w ∷ less))
line_without_if low high w later less true h k = line_lower low (w.number + w.count) high later (omega (arith, h.0)) h.2
line_without_if low high w later less false h k = (h.0, h.1, k)

pub line_without : (low high n : ℕ) (ws : List Waiting) → Line low high ws → Line low high (without_message n ws)
line_without low high n [] h = h
line_without low high n (w ∷ ws) h = line_without_if low high w ws (without_message n ws) (w.number == n) h (line_without (w.number + w.count) high n ws h.2)

pub line_order : (low high : ℕ) (ws : List Waiting) → Line low high ws → low ≤ high
line_order low high [] h = h
line_order low high (w ∷ ws) h = let k = line_order (w.number + w.count) high ws h.2 in omega (arith, k, h.0)

-- all numbers of messages in a line lie in it
pub line_inside_at : (low high n : ℕ) (x : Waiting) (ws : List Waiting) → Line low high ws → message_at n ws ≡ Some x → (low ≤ x.number) × (0 < x.count) × (x.number + x.count ≤ high) × (x.number ≡ n)
line_inside_at low high n x [] h e = absurd cc
line_inside_at low high n x (w ∷ ws) h e = inside_if low high n x w ws (w.number == n) refl h (line_inside_at (w.number + w.count) high n x ws h.2) e
  where
    inside_if : (low high n : ℕ) (x w : Waiting) (ws : List Waiting) (t : Bool) → (w.number == n) ≡ t → Line low high (w ∷ ws)
        → (message_at n ws ≡ Some x → (w.number + w.count ≤ x.number) × (0 < x.count) × (x.number + x.count ≤ high) × (x.number ≡ n))
        → cond t (Some w) (message_at n ws) ≡ Some x → (low ≤ x.number) × (0 < x.count) × (x.number + x.count ≤ high) × (x.number ≡ n)
    inside_if low high n x w ws true e h ih f =
        let same : w ≡ x = cc in
        let k = line_order (w.number + w.count) high ws h.2 in
        subst (λ (z : Waiting). (low ≤ z.number) × (0 < z.count) × (z.number + z.count ≤ high) × (z.number ≡ n)) same (h.0, h.1, k, eqb-true w.number n e)
    inside_if low high n x w ws false e h ih f = let r = ih f in (omega (arith, r.0, h.0), r.1, r.2, r.3)

-- sums fall where messages leave
pub sum_filter : (f : Waiting → ℕ) (p : Waiting → Bool) (ws : List Waiting) → sum_by f (filter p ws) ≤ sum_by f ws
sum_filter f p [] = omega arith
sum_filter f p (w ∷ ws) = sum_filter_if f w (filter p ws) ws (p w) (sum_filter f p ws)
  where
    sum_filter_if : (f : Waiting → ℕ) (w : Waiting) (less ws : List Waiting) (t : Bool) → sum_by f less ≤ sum_by f ws → sum_by f (cond t (w ∷ less) less) ≤ sum_by f (w ∷ ws)
    sum_filter_if f w less ws true h = let e : sum_by f (w ∷ less) ≤ sum_by f (w ∷ ws) = omega (arith, h, sum_by-cons f w less, sum_by-cons f w ws) in e
    sum_filter_if f w less ws false h = let e : sum_by f less ≤ sum_by f (w ∷ ws) = omega (arith, h, sum_by-cons f w ws) in e

pub sum_without : (f : Waiting → ℕ) (n : ℕ) (ws : List Waiting) → sum_by f (without_message n ws) ≤ sum_by f ws
sum_without f n [] = omega arith
sum_without f n (w ∷ ws) = sum_without_if f w (without_message n ws) ws (w.number == n) (sum_without f n ws)
  where
    sum_without_if : (f : Waiting → ℕ) (w : Waiting) (less ws : List Waiting) (t : Bool) → sum_by f less ≤ sum_by f ws → sum_by f (cond t ws (w ∷ less)) ≤ sum_by f (w ∷ ws)
    sum_without_if f w less ws true h = let e : sum_by f ws ≤ sum_by f (w ∷ ws) = omega (arith, sum_by-cons f w ws) in e
    sum_without_if f w less ws false h = let e : sum_by f (w ∷ less) ≤ sum_by f (w ∷ ws) = omega (arith, h, sum_by-cons f w less, sum_by-cons f w ws) in e

-- what is left at the front
front_fits_if : (t : Bool) (k n : ℕ) → k ≤ n → cond t (k + 1) 0 ≤ suc n
front_fits_if true k n le = let e : k + 1 ≤ suc n = omega arith in e
front_fits_if false k n le = let e : 0 ≤ suc n = omega arith in e

pub front_fits : (rows : List Row) → settled_front rows ≤ length rows
front_fits [] = omega arith
front_fits (r ∷ rows) = front_fits_if (is_settled r.state) (settled_front rows) (length rows) (front_fits rows)
