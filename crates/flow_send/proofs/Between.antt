-- Rows from one index to before another, changed one after another.
use Rattle.std.proofs.Common.{◌≡◌, ℕ, zero, suc, ◌+◌, ◌<◌, ◌≤◌, max, cond, Bool, true, false, ◌||◌, Option, Some, List, [], ◌∷◌, length, set, drop, refl, ap, sym, ◌∙◌, arith}
use Rattle.flow_send.specs.declared.state.State.{State}
use Rattle.flow_send.specs.Rows.{Row, front_settled, settled_front, is_settled, row_at, between, any_between, most_between}

pub between_length : (f : Row → Row) (lo hi : ℕ) (rows : List Row) → length (between f lo hi rows) ≡ length rows
between_length f lo hi [] = refl
between_length f zero zero (r ∷ rows) = refl
between_length f zero (suc hi) (r ∷ rows) = ap suc (between_length f zero hi rows)
between_length f (suc lo) zero (r ∷ rows) = refl
between_length f (suc lo) (suc hi) (r ∷ rows) = ap suc (between_length f lo hi rows)

pub between_none : (f : Row → Row) (lo hi : ℕ) (rows : List Row) → hi ≤ lo → between f lo hi rows ≡ rows
between_none f lo hi [] le = refl
between_none f zero zero (r ∷ rows) le = refl
between_none f zero (suc hi) (r ∷ rows) le = absurd (omega arith)
between_none f (suc lo) zero (r ∷ rows) le = refl
between_none f (suc lo) (suc hi) (r ∷ rows) le = ap (λ xs. r ∷ xs) (between_none f lo hi rows (omega arith))

pub between_get : (f : Row → Row) (lo hi at : ℕ) (rows : List Row) → hi ≤ at → row_at (between f lo hi rows) at ≡ row_at rows at
between_get f lo hi at [] le = refl
between_get f zero zero at (r ∷ rows) le = refl
between_get f zero (suc hi) zero (r ∷ rows) le = absurd (omega arith)
between_get f zero (suc hi) (suc at) (r ∷ rows) le = between_get f zero hi at rows (omega arith)
between_get f (suc lo) zero at (r ∷ rows) le = refl
between_get f (suc lo) (suc hi) zero (r ∷ rows) le = absurd (omega arith)
between_get f (suc lo) (suc hi) (suc at) (r ∷ rows) le = between_get f lo hi at rows (omega arith)

between_set : (f : Row → Row) (lo at : ℕ) (rows : List Row) → lo ≤ at → at < length rows → set (between f lo at rows) at (f (row_at rows at)) ≡ between f lo (suc at) rows
between_set f lo at [] le lt = absurd (omega arith)
between_set f zero zero (r ∷ rows) le lt = ap (λ xs. f r ∷ xs) (sym (between_none f zero zero rows (omega arith)))
between_set f zero (suc at) (r ∷ rows) le lt = ap (λ xs. f r ∷ xs) (between_set f zero at rows (omega arith) (omega arith))
between_set f (suc lo) zero (r ∷ rows) le lt = absurd (omega arith)
between_set f (suc lo) (suc at) (r ∷ rows) le lt = ap (λ xs. r ∷ xs) (between_set f lo at rows (omega arith) (omega arith))

-- one more row is changed
pub between_step : (f : Row → Row) (lo at : ℕ) (rows now : List Row) → lo ≤ at → at < length rows → now ≡ between f lo at rows → set now at (f (row_at now at)) ≡ between f lo (at + 1) rows
between_step f lo at rows now le lt e =
    let same : row_at now at ≡ row_at rows at = ap (λ (xs : List Row). row_at xs at) e ∙ between_get f lo at at rows (omega arith) in
    let n : suc at ≡ at + 1 = omega arith in
    ap (λ (xs : List Row). set xs at (f (row_at now at))) e ∙ (ap (λ (r : Row). set (between f lo at rows) at (f r)) same ∙ (between_set f lo at rows le lt ∙ ap (λ i. between f lo i rows) n))

true_or : (a b : Bool) → b ≡ true → (a || b) ≡ true
true_or true b e = refl
true_or false b e = e

-- one more row is looked at
or_next : (a b c : Bool) → (a || (b || c)) ≡ ((a || b) || c)
or_next true b c = refl
or_next false b c = refl

or_false : (a : Bool) → (a || false) ≡ (false || a)
or_false true = refl
or_false false = refl

pub any_none : (test : Row → Bool) (lo hi : ℕ) (rows : List Row) → hi ≤ lo → any_between test lo hi rows ≡ false
any_none test lo hi [] le = refl
any_none test zero zero (r ∷ rows) le = refl
any_none test zero (suc hi) (r ∷ rows) le = absurd (omega arith)
any_none test (suc lo) zero (r ∷ rows) le = refl
any_none test (suc lo) (suc hi) (r ∷ rows) le = any_none test lo hi rows (omega arith)

any_suc : (test : Row → Bool) (lo at : ℕ) (rows : List Row) → lo ≤ at → at < length rows → any_between test lo (suc at) rows ≡ (any_between test lo at rows || test (row_at rows at))
any_suc test lo at [] le lt = absurd (omega arith)
any_suc test zero zero (r ∷ rows) le lt = ap (λ b. test r || b) (any_none test zero zero rows (omega arith)) ∙ or_false (test r)
any_suc test zero (suc at) (r ∷ rows) le lt = ap (λ b. test r || b) (any_suc test zero at rows (omega arith) (omega arith)) ∙ or_next (test r) (any_between test zero at rows) (test (row_at rows at))
any_suc test (suc lo) zero (r ∷ rows) le lt = absurd (omega arith)
any_suc test (suc lo) (suc at) (r ∷ rows) le lt = any_suc test lo at rows (omega arith) (omega arith)

pub any_step : (test : Row → Bool) (lo at : ℕ) (rows : List Row) → lo ≤ at → at < length rows → any_between test lo (at + 1) rows ≡ (any_between test lo at rows || test (row_at rows at))
any_step test lo at rows le lt = let n : at + 1 ≡ suc at = omega arith in ap (λ i. any_between test lo i rows) n ∙ any_suc test lo at rows le lt

pub most_none : (f : Row → ℕ) (lo hi : ℕ) (rows : List Row) → hi ≤ lo → most_between f lo hi rows ≡ 0
most_none f lo hi [] le = refl
most_none f zero zero (r ∷ rows) le = refl
most_none f zero (suc hi) (r ∷ rows) le = absurd (omega arith)
most_none f (suc lo) zero (r ∷ rows) le = refl
most_none f (suc lo) (suc hi) (r ∷ rows) le = most_none f lo hi rows (omega arith)

most_suc : (f : Row → ℕ) (lo at : ℕ) (rows : List Row) → lo ≤ at → at < length rows → most_between f lo (suc at) rows ≡ max (most_between f lo at rows) (f (row_at rows at))
most_suc f lo at [] le lt = absurd (omega arith)
most_suc f zero zero (r ∷ rows) le lt = let n = most_none f zero zero rows (omega arith) in omega (arith, n)
most_suc f zero (suc at) (r ∷ rows) le lt = omega (arith, most_suc f zero at rows (omega arith) (omega arith))
most_suc f (suc lo) zero (r ∷ rows) le lt = absurd (omega arith)
most_suc f (suc lo) (suc at) (r ∷ rows) le lt = most_suc f lo at rows (omega arith) (omega arith)

pub most_step : (f : Row → ℕ) (lo at : ℕ) (rows : List Row) → lo ≤ at → at < length rows → most_between f lo (at + 1) rows ≡ max (most_between f lo at rows) (f (row_at rows at))
most_step f lo at rows le lt = let n : at + 1 ≡ suc at = omega arith in ap (λ i. most_between f lo i rows) n ∙ most_suc f lo at rows le lt

found_if : (n : ℕ) (o : Option ℕ) (b : Bool) → b ≡ true → cond b (Some n) o ≡ Some n
found_if n o true e = refl
found_if n o false e = absurd cc

-- one more row is taken from the front
front_if : (b : Bool) (n : ℕ) → b ≡ true → cond b (n + 1) 0 ≡ n + 1
front_if true n e = refl
front_if false n e = absurd cc

pub front_next : (rows : List Row) → front_settled rows ≡ true → settled_front rows ≡ settled_front (drop 1 rows) + 1
front_next [] e = absurd cc
front_next (r ∷ rows) e = front_if (is_settled r.state) (settled_front rows) e

none_if : (b : Bool) (n : ℕ) → b ≡ false → cond b (n + 1) 0 ≡ 0
none_if true n e = absurd cc
none_if false n e = refl

pub drop_next : (at : ℕ) (rows : List Row) → drop 1 (drop at rows) ≡ drop (at + 1) rows
drop_next zero [] = refl
drop_next (suc at) [] = let k : suc at + 1 ≡ suc (at + 1) = omega arith in ap (λ i. drop i []) (sym k)
drop_next zero (r ∷ rows) = refl
drop_next (suc at) (r ∷ rows) = let k : suc at + 1 ≡ suc (at + 1) = omega arith in drop_next at rows ∙ ap (λ i. drop i (r ∷ rows)) (sym k)

pub front_there : (rows : List Row) → front_settled rows ≡ true → 0 < length rows
front_there [] e = absurd cc
front_there (r ∷ rows) e = omega arith

pub any_true : (test : Row → Bool) (lo hi at : ℕ) (rows : List Row) → lo ≤ at → at < hi → at < length rows → test (row_at rows at) ≡ true → any_between test lo hi rows ≡ true
any_true test lo hi at [] a b c e = absurd (omega arith)
any_true test zero zero at (r ∷ rows) a b c e = absurd (omega arith)
any_true test zero (suc hi) zero (r ∷ rows) a b c e = rw e refl
any_true test zero (suc hi) (suc at) (r ∷ rows) a b c e = true_or (test r) (any_between test zero hi rows) (any_true test zero hi at rows (omega arith) (omega arith) (omega arith) e)
any_true test (suc lo) zero at (r ∷ rows) a b c e = absurd (omega arith)
any_true test (suc lo) (suc hi) zero (r ∷ rows) a b c e = absurd (omega arith)
any_true test (suc lo) (suc hi) (suc at) (r ∷ rows) a b c e = any_true test lo hi at rows (omega arith) (omega arith) (omega arith) e

both_false : (a b c : Bool) → a ≡ (b || c) → b ≡ false → c ≡ false → a ≡ false
both_false a b c e f g = e ∙ (ap (λ x. x || c) f ∙ g)

pub any_more : (test : Row → Bool) (lo at : ℕ) (rows : List Row) → lo ≤ at → at < length rows → any_between test lo at rows ≡ false → test (row_at rows at) ≡ false → any_between test lo (at + 1) rows ≡ false
any_more test lo at rows a b e f = both_false (any_between test lo (at + 1) rows) (any_between test lo at rows) (test (row_at rows at)) (any_step test lo at rows a b) e f
