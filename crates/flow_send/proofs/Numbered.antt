-- Rows changed and tested by their numbers.
use Rattle.std.proofs.Common.{◌≡◌, ℕ, zero, suc, ◌+◌, ◌-◌, nat_le, nat_lt, max, cond, map, Bool, true, false, ◌&&◌, ◌||◌, List, [], ◌∷◌, length, refl, ap, sym, ◌∙◌, arith}
use Rattle.std.proofs.lemmas.Bool.Decides.{nat_tests}
use Rattle.flow_send.specs.declared.waiting.Waiting.{Waiting}
use Rattle.flow_send.specs.Rows.{Row, map_rows, any_row, most_rows, between, any_between, most_between}
use Rattle.flow_send.specs.Sender.{has_number}
use Rattle.flow_send.proofs.Between.{between_none, any_none, most_none}

pub map_length : (f : ℕ → Row → Row) (n : ℕ) (rows : List Row) → length (map_rows f n rows) ≡ length rows
map_length f n [] = refl
map_length f n (r ∷ rows) = ap suc (map_length f (n + 1) rows)

pub map_is : (f : Row → Row) (n : ℕ) (rows : List Row) → map f rows ≡ map_rows (λ k r. f r) n rows
map_is f n [] = refl
map_is f n (r ∷ rows) = ap (λ xs. f r ∷ xs) (map_is f (n + 1) rows)

-- a test of numbers that stands from one index to before another
abbrev pub Stands_between : (ℕ → Bool) → ℕ → ℕ → ℕ → Type 0
Stands_between test n lo hi = (i : ℕ) → test (n + i) ≡ (nat_le lo i && nat_lt i hi)

tail_zero : (test : ℕ → Bool) (n : ℕ) → Stands_between test n zero zero → Stands_between test (n + 1) zero zero
tail_zero test n h i =
    let e : n + suc i ≡ n + 1 + i = omega arith in
    let f : (nat_le zero (suc i) && nat_lt (suc i) zero) ≡ (nat_le zero i && nat_lt i zero) = grind (arith, nat_tests) in
    ap test (sym e) ∙ (h (suc i) ∙ f)

tail_in : (test : ℕ → Bool) (n hi : ℕ) → Stands_between test n zero (suc hi) → Stands_between test (n + 1) zero hi
tail_in test n hi h i =
    let e : n + suc i ≡ n + 1 + i = omega arith in
    let f : (nat_le zero (suc i) && nat_lt (suc i) (suc hi)) ≡ (nat_le zero i && nat_lt i hi) = grind (arith, nat_tests) in
    ap test (sym e) ∙ (h (suc i) ∙ f)

tail_out : (test : ℕ → Bool) (n lo : ℕ) → Stands_between test n (suc lo) zero → Stands_between test (n + 1) lo zero
tail_out test n lo h i =
    let e : n + suc i ≡ n + 1 + i = omega arith in
    let f : (nat_le (suc lo) (suc i) && nat_lt (suc i) zero) ≡ (nat_le lo i && nat_lt i zero) = grind (arith, nat_tests) in
    ap test (sym e) ∙ (h (suc i) ∙ f)

tail_later : (test : ℕ → Bool) (n lo hi : ℕ) → Stands_between test n (suc lo) (suc hi) → Stands_between test (n + 1) lo hi
tail_later test n lo hi h i =
    let e : n + suc i ≡ n + 1 + i = omega arith in
    let f : (nat_le (suc lo) (suc i) && nat_lt (suc i) (suc hi)) ≡ (nat_le lo i && nat_lt i hi) = grind (arith, nat_tests) in
    ap test (sym e) ∙ (h (suc i) ∙ f)

head_is : (test : ℕ → Bool) (n lo hi : ℕ) → Stands_between test n lo hi → test n ≡ (nat_le lo 0 && nat_lt 0 hi)
head_is test n lo hi h = let e : n + 0 ≡ n = omega arith in ap test (sym e) ∙ h 0

choose : (b c : Bool) (x y : Row) → b ≡ c → cond b x y ≡ cond c x y
choose b c x y e = ap (λ t. cond t x y) e

pub map_between : (test : ℕ → Bool) (f : Row → Row) (n lo hi : ℕ) (rows : List Row) → Stands_between test n lo hi → map_rows (λ k r. cond (test k) (f r) r) n rows ≡ between f lo hi rows
map_between test f n lo hi [] h = refl
map_between test f n zero zero (r ∷ rows) h =
    ap (λ b. cond b (f r) r ∷ map_rows (λ k x. cond (test k) (f x) x) (n + 1) rows) (head_is test n zero zero h)
    ∙ ap (λ xs. r ∷ xs) (map_between test f (n + 1) zero zero rows (tail_zero test n h) ∙ between_none f zero zero rows (omega arith))
map_between test f n zero (suc hi) (r ∷ rows) h =
    let t : (nat_le zero 0 && nat_lt 0 (suc hi)) ≡ true = grind (arith, nat_tests) in
    ap (λ b. cond b (f r) r ∷ map_rows (λ k x. cond (test k) (f x) x) (n + 1) rows) (head_is test n zero (suc hi) h ∙ t)
    ∙ ap (λ xs. f r ∷ xs) (map_between test f (n + 1) zero hi rows (tail_in test n hi h))
map_between test f n (suc lo) zero (r ∷ rows) h =
    let t : (nat_le (suc lo) 0 && nat_lt 0 zero) ≡ false = grind (arith, nat_tests) in
    ap (λ b. cond b (f r) r ∷ map_rows (λ k x. cond (test k) (f x) x) (n + 1) rows) (head_is test n (suc lo) zero h ∙ t)
    ∙ ap (λ xs. r ∷ xs) (map_between test f (n + 1) lo zero rows (tail_out test n lo h) ∙ between_none f lo zero rows (omega arith))
map_between test f n (suc lo) (suc hi) (r ∷ rows) h =
    let t : (nat_le (suc lo) 0 && nat_lt 0 (suc hi)) ≡ false = grind (arith, nat_tests) in
    ap (λ b. cond b (f r) r ∷ map_rows (λ k x. cond (test k) (f x) x) (n + 1) rows) (head_is test n (suc lo) (suc hi) h ∙ t)
    ∙ ap (λ xs. r ∷ xs) (map_between test f (n + 1) lo hi rows (tail_later test n lo hi h))

pub any_row_between : (test : ℕ → Bool) (t : Row → Bool) (n lo hi : ℕ) (rows : List Row) → Stands_between test n lo hi → any_row (λ k r. test k && t r) n rows ≡ any_between t lo hi rows
any_row_between test t n lo hi [] h = refl
any_row_between test t n zero zero (r ∷ rows) h =
    ap (λ b. (b && t r) || any_row (λ k x. test k && t x) (n + 1) rows) (head_is test n zero zero h)
    ∙ (any_row_between test t (n + 1) zero zero rows (tail_zero test n h) ∙ any_none t zero zero rows (omega arith))
any_row_between test t n zero (suc hi) (r ∷ rows) h =
    let e : (nat_le zero 0 && nat_lt 0 (suc hi)) ≡ true = grind (arith, nat_tests) in
    ap (λ b. (b && t r) || any_row (λ k x. test k && t x) (n + 1) rows) (head_is test n zero (suc hi) h ∙ e)
    ∙ ap (λ b. t r || b) (any_row_between test t (n + 1) zero hi rows (tail_in test n hi h))
any_row_between test t n (suc lo) zero (r ∷ rows) h =
    let e : (nat_le (suc lo) 0 && nat_lt 0 zero) ≡ false = grind (arith, nat_tests) in
    ap (λ b. (b && t r) || any_row (λ k x. test k && t x) (n + 1) rows) (head_is test n (suc lo) zero h ∙ e)
    ∙ (any_row_between test t (n + 1) lo zero rows (tail_out test n lo h) ∙ any_none t lo zero rows (omega arith))
any_row_between test t n (suc lo) (suc hi) (r ∷ rows) h =
    let e : (nat_le (suc lo) 0 && nat_lt 0 (suc hi)) ≡ false = grind (arith, nat_tests) in
    ap (λ b. (b && t r) || any_row (λ k x. test k && t x) (n + 1) rows) (head_is test n (suc lo) (suc hi) h ∙ e)
    ∙ any_row_between test t (n + 1) lo hi rows (tail_later test n lo hi h)

max_zero : (n : ℕ) → max 0 n ≡ n
max_zero n = omega arith

pub most_row_between : (test : ℕ → Bool) (f : Row → ℕ) (n lo hi : ℕ) (rows : List Row) → Stands_between test n lo hi → most_rows (λ k r. cond (test k) (f r) 0) n rows ≡ most_between f lo hi rows
most_row_between test f n lo hi [] h = refl
most_row_between test f n zero zero (r ∷ rows) h =
    ap (λ b. max (cond b (f r) 0) (most_rows (λ k x. cond (test k) (f x) 0) (n + 1) rows)) (head_is test n zero zero h)
    ∙ (max_zero _ ∙ (most_row_between test f (n + 1) zero zero rows (tail_zero test n h) ∙ most_none f zero zero rows (omega arith)))
most_row_between test f n zero (suc hi) (r ∷ rows) h =
    let e : (nat_le zero 0 && nat_lt 0 (suc hi)) ≡ true = grind (arith, nat_tests) in
    ap (λ b. max (cond b (f r) 0) (most_rows (λ k x. cond (test k) (f x) 0) (n + 1) rows)) (head_is test n zero (suc hi) h ∙ e)
    ∙ ap (λ i. max (f r) i) (most_row_between test f (n + 1) zero hi rows (tail_in test n hi h))
most_row_between test f n (suc lo) zero (r ∷ rows) h =
    let e : (nat_le (suc lo) 0 && nat_lt 0 zero) ≡ false = grind (arith, nat_tests) in
    ap (λ b. max (cond b (f r) 0) (most_rows (λ k x. cond (test k) (f x) 0) (n + 1) rows)) (head_is test n (suc lo) zero h ∙ e)
    ∙ (max_zero _ ∙ (most_row_between test f (n + 1) lo zero rows (tail_out test n lo h) ∙ most_none f lo zero rows (omega arith)))
most_row_between test f n (suc lo) (suc hi) (r ∷ rows) h =
    let e : (nat_le (suc lo) 0 && nat_lt 0 (suc hi)) ≡ false = grind (arith, nat_tests) in
    ap (λ b. max (cond b (f r) 0) (most_rows (λ k x. cond (test k) (f x) 0) (n + 1) rows)) (head_is test n (suc lo) (suc hi) h ∙ e)
    ∙ (max_zero _ ∙ most_row_between test f (n + 1) lo hi rows (tail_later test n lo hi h))

-- the numbers of a message, by index
pub message_between : (w : Waiting) (n : ℕ) → Stands_between (has_number w) n (w.number - n) (w.number + w.count - n)
message_between w n i = same w.number (w.number + w.count) n i
  where
    same : (a b n i : ℕ) → (nat_le a (n + i) && nat_lt (n + i) b) ≡ (nat_le (a - n) i && nat_lt i (b - n))
    same a b n i = grind (arith, nat_tests)

pub span_between : (first last n : ℕ) → Stands_between (λ k. nat_le first k && nat_le k last) n (first - n) (last + 1 - n)
span_between first last n i = grind (arith, nat_tests)
