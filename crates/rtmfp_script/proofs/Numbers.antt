-- Decimal numbers.
use Rattle.std.proofs.Common.{◌≡◌, ℕ, ◌+◌, ◌-◌, ◌*◌, ◌/◌, ◌%◌, ◌^◌, ◌<◌, ◌≤◌, ◌==◌, true, false, List, [], ◌∷◌, ◌++◌, length, get_or, Some, None, refl, sym, ap, ◌∙◌, subst, arith, inl, inr, append_assoc, append-nil}
use Rattle.std.specs.Prelude.{nat_lt}
use Rattle.std.specs.Fmt.{decimal}
use Rattle.std.specs.Char.{is_ascii_digit}
use Rattle.std.specs.Str.Parse.{AllDigits}
use Rattle.std.proofs.lemmas.Bool.{and_parts, eq-eqb, ne_eqb, cases_Bool, cases_lt, lt-ltb}
use Rattle.std.proofs.lemmas.Bool.Decides.{nat_tests}
use Rattle.std.proofs.lemmas.Fmt.{decimal_by_steps, decimal_digit, decimal_nonempty, decimal_step, decimal_is_IsNumeral, first_decimal}
use Rattle.std.proofs.lemmas.Str.Parse.{digit_from_value}
use Rattle.rtmfp_script.specs.Fields.{with_digit, number_from, is_unwritten, number_of, number_below, ◌>>=◌, only_if}
use Rattle.rtmfp_script.proofs.Splits.{some_some, bind_some, only_if-some, Each}

-- ---- a number that was read

with_digit-some : (n d m : ℕ) → with_digit n d ≡ Some m → (48 ≤ d) × (d ≤ 57) × (m < 2 ^ 64) × (m ≡ n * 10 + (d - 48))
unfolding with_digit
with_digit-some n d m h =
    let found = only_if-some _ _ _ h in
    let parts = and_parts (is_ascii_digit d) (nat_lt (n * 10 + (d - 48)) (2 ^ 64)) found.0 in
    let value : n * 10 + (d - 48) ≡ m = found.1 in
    let low : (48 ≤ d) × (d ≤ 57) = grind (arith, parts.0) in
    let small : n * 10 + (d - 48) < 2 ^ 64 = grind (arith, nat_tests, parts.1) in
    (low.0, low.1, omega arith, sym value)

next : (n d m : ℕ) → 0 < n → 48 ≤ d → d ≤ 57 → m < 2 ^ 64 → m ≡ n * 10 + (d - 48) → decimal n ++ d ∷ [] ≡ decimal m
next n d m some low high small is =
    let step = decimal_step m (omega arith) small in
    let top : m / 10 ≡ n = omega arith in
    let last : 48 + m % 10 ≡ d = omega arith in
    sym (rw (top, last) at step)

-- digits behind a number that isn't 0
from-some : (n : ℕ) (xs : List ℕ) (v : ℕ) → 0 < n → n < 2 ^ 64 → number_from n xs ≡ Some v → (decimal n ++ xs ≡ decimal v) × (v < 2 ^ 64)
unfolding number_from
from-some n [] v some small h = let e : n ≡ v = some_some n v h in (append-nil (decimal n) ∙ ap decimal e, omega arith)
from-some n (d ∷ xs) v some small h =
    let found = bind_some (with_digit n d) (λ m. number_from m xs) v h in
    let digit = with_digit-some n d found.0 found.1 in
    let more = from-some found.0 xs v (omega arith) digit.2 found.2 in
    (sym (append_assoc (decimal n) (d ∷ []) xs) ∙ ap (λ ys. ys ++ xs) (next n d found.0 some digit.0 digit.1 digit.2 digit.3) ∙ more.0, more.1)

first-some : (d : ℕ) (xs : List ℕ) (v : ℕ) → (d ≡ 48 → xs ≡ []) → number_from 0 (d ∷ xs) ≡ Some v → (d ∷ xs ≡ decimal v) × (v < 2 ^ 64)
unfolding number_from
first-some d xs v zero_alone h =
    let found = bind_some (with_digit 0 d) (λ m. number_from m xs) v h in
    let digit = with_digit-some 0 d found.0 found.1 in
    let one : decimal found.0 ≡ d ∷ [] = decimal_digit found.0 (omega arith) ∙ ap (λ (x : ℕ). x ∷ []) (omega arith) in
    elim (cases_lt 0 found.0) [
      | inl some ↦ let more = from-some found.0 xs v some digit.2 found.2 in (ap (λ ys. ys ++ xs) (sym one) ∙ more.0, more.1)
      | inr none ↦
          let alone : xs ≡ [] = zero_alone (omega arith) in
          let same : found.0 ≡ v = some_some found.0 v (subst (λ (ys : List ℕ). number_from found.0 ys ≡ Some v) alone found.2) in
          (ap (λ ys. d ∷ ys) alone ∙ sym one ∙ ap decimal same, omega arith)
    ]

pub number_of-some : (xs : List ℕ) (v : ℕ) → number_of xs ≡ Some v → (xs ≡ decimal v) × (v < 2 ^ 64)
unfolding number_of
number_of-some [] v h = absurd (cc)
number_of-some (d ∷ []) v h = first-some d [] v (λ e. refl) h
number_of-some (d ∷ b ∷ xs) v h = elim (cases_Bool (d == 48)) [
  | inl is ↦ absurd (let none : None ≡ Some v = rw is at h in cc)
  | inr other ↦ first-some d (b ∷ xs) v (λ e. absurd (let t : (d == 48) ≡ true = eq-eqb d 48 e in let both : true ≡ false = sym t ∙ other in cc)) (rw other at h)
]

pub number_below-some : (limit : ℕ) (xs : List ℕ) (v : ℕ) → number_below limit xs ≡ Some v → (xs ≡ decimal v) × (v < limit)
unfolding number_below
number_below-some limit xs v h =
    let found = bind_some (number_of xs) (λ n. only_if (nat_lt n limit) n) v h in
    let is = number_of-some xs found.0 found.1 in
    let small = only_if-some (nat_lt found.0 limit) found.0 v found.2 in
    let same : found.0 ≡ v = small.1 in
    let lt : found.0 < limit = grind (arith, nat_tests, small.0) in
    (is.0 ∙ ap decimal same, omega arith)

-- ---- the text of a number is read

with_digit-gives : (n d : ℕ) → 48 ≤ d → d ≤ 57 → n * 10 + (d - 48) < 2 ^ 64 → with_digit n d ≡ Some (n * 10 + (d - 48))
unfolding with_digit
with_digit-gives n d low high small =
    let digit : is_ascii_digit d ≡ true = grind arith in
    let fits : nat_lt (n * 10 + (d - 48)) (2 ^ 64) ≡ true = lt-ltb _ _ small in
    rw (digit, fits) refl

from-more : (n d m : ℕ) (xs : List ℕ) → 48 ≤ d → d ≤ 57 → m < 2 ^ 64 → n * 10 + (d - 48) ≡ m → number_from n (d ∷ xs) ≡ number_from m xs
unfolding number_from
from-more n d m xs low high small is = ap (λ o. o >>= λ v. number_from v xs) (with_digit-gives n d low high (omega arith) ∙ ap Some is)

abbrev Runs : ℕ → List ℕ → Type 0
Runs n ds = n < 2 ^ 64 → (rest : List ℕ) → number_from 0 (ds ++ rest) ≡ number_from n rest

runs : (n : ℕ) → n < 2 ^ 64 → (rest : List ℕ) → number_from 0 (decimal n ++ rest) ≡ number_from n rest
runs n fits rest = decimal_by_steps Runs
    (λ k low small r. from-more 0 (48 + k) k r (omega arith) (omega arith) small (omega arith))
    (λ k ds big ih small r.
    ap (λ ys. number_from 0 ys) (append_assoc ds ((48 + k % 10) ∷ []) r)
    ∙ ih (omega arith) ((48 + k % 10) ∷ r)
    ∙ from-more (k / 10) (48 + k % 10) k r (omega arith) (omega arith) small (omega arith))
    n fits fits rest

written_list : (xs : List ℕ) → 0 < length xs → 48 < get_or xs 0 0 → is_unwritten xs ≡ false
written_list [] some first = absurd (omega arith)
written_list (d ∷ []) some first = refl
written_list (d ∷ b ∷ xs) some first = ne_eqb d 48 (λ e. omega arith)

written : (n : ℕ) → n < 2 ^ 64 → is_unwritten (decimal n) ≡ false
written n fits = elim (cases_lt 0 n) [
  | inl some ↦ written_list (decimal n) (decimal_nonempty n fits) (first_decimal n some fits)
  | inr none ↦
      let e : n ≡ 0 = omega arith in
      ap is_unwritten (ap decimal e ∙ decimal_digit 0 (omega arith))
]

pub number_of-decimal : (n : ℕ) → n < 2 ^ 64 → number_of (decimal n) ≡ Some n
unfolding number_of number_from
number_of-decimal n fits =
    let plain : is_unwritten (decimal n) ≡ false = written n fits in
    let all : number_from 0 (decimal n) ≡ Some n = ap (number_from 0) (sym (append-nil (decimal n))) ∙ runs n fits [] in
    rw (plain, all) refl

pub number_below-decimal : (limit n : ℕ) → n < 2 ^ 64 → n < limit → number_below limit (decimal n) ≡ Some n
unfolding number_below
number_below-decimal limit n fits below =
    let small : nat_lt n limit ≡ true = lt-ltb n limit below in
    rw (number_of-decimal n fits, small) refl

-- ---- the bytes of a number

abbrev pub IsDigit : ℕ → Type 0
IsDigit x = (48 ≤ x) × (x ≤ 57)

each_digit : (ds : List ℕ) → AllDigits 10 ds → Each IsDigit ds
each_digit [] all = tt
each_digit (d ∷ ds) all = let is = digit_from_value d all.0 in let range : IsDigit d = (omega arith, omega arith) in (range, each_digit ds all.1)

pub each_decimal : (n : ℕ) → n < 2 ^ 64 → Each IsDigit (decimal n)
each_decimal n fits = each_digit (decimal n) (decimal_is_IsNumeral n fits).0.1
