-- The value of a spelling, byte by byte.
use Rattle.std.proofs.Common.{◌≡◌, ℕ, ◌+◌, ◌*◌, ◌%◌, ◌^◌, ◌<◌, ◌≤◌, List, [], ◌∷◌, ◌++◌, length, ap, ◌∙◌, arith}
use Rattle.std.proofs.lemmas.List.{length-append}
use Rattle.std.proofs.lemmas.Nat.{pow-add, mul-add-lt}
use Rattle.std.proofs.Math.Nat.{pow-suc, pow-le-pow_right}
use Rattle.rtmfp_vlu.specs.Vlu.{value}

pub value-append : (xs ys : List ℕ) → value (xs ++ ys) ≡ value xs * 128 ^ length ys + value ys
value-append [] ys = omega arith
value-append (x ∷ xs) ys =
    let whole : 128 ^ length (xs ++ ys) ≡ 128 ^ length xs * 128 ^ length ys = ap (λ (n : ℕ). 128 ^ n) (length-append xs ys) ∙ pow-add 128 (length xs) (length ys) in
    rw (whole, value-append xs ys) (omega arith)

-- one more byte
pub value-push : (xs : List ℕ) (b : ℕ) → value (xs ++ b ∷ []) ≡ value xs * 128 + b % 128
value-push xs b = value-append xs (b ∷ []) ∙ omega arith

-- what n bytes can say at most
pub value-below : (xs : List ℕ) → value xs < 128 ^ length xs
value-below [] = omega arith
value-below (x ∷ xs) = rw (pow-suc 128 (length xs)) (omega (arith, mul-add-lt (x % 128) (128 ^ length xs) (value xs) 128 (omega arith) (value-below xs)))

pub value-at_most : (xs : List ℕ) (n : ℕ) → length xs ≤ n → value xs < 128 ^ n
value-at_most xs n h = omega (arith, value-below xs, pow-le-pow_right {n = 128} (omega arith) {i = length xs} {j = n} h)
