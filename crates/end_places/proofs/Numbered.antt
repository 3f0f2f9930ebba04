-- The thing at a number of a list.
use Rattle.std.proofs.Common.{◌≡◌, ◌<◌, ℕ, suc, zero, List, [], ◌∷◌, length, slice_index_or, slice_set, slice_get, Option, Some, None, refl, sym, ap, arith}

module _ {X : Type 0} where
  pub there : (xs : List X) (p : ℕ) (m : X) → p < length xs → m ≡ slice_index_or xs p m → slice_get xs p ≡ Some m
  there [] p m below is = absurd (none p below)
    where
      none : (p : ℕ) → p < 0 → ⊥
      none p below = omega (arith, below)
  there (x ∷ xs) zero m below is = ap (λ (y : X). Some y) (sym is)
  there (x ∷ xs) (suc p) m below is = there xs p m (omega (arith, below)) is

  pub absent : (xs : List X) (p : ℕ) → (p < length xs → ⊥) → slice_get xs p ≡ None
  absent [] p none = refl
  absent (x ∷ xs) zero none = absurd (none (omega arith))
  absent (x ∷ xs) (suc p) none = absent xs p (λ below. none (omega (arith, below)))

  pub set_same : (xs : List X) (p : ℕ) (m : X) → slice_get xs p ≡ Some m → slice_set xs p m ≡ xs
  set_same [] p m is = refl
  set_same (x ∷ xs) zero m is = ap (λ (y : X). y ∷ xs) (same x m is)
    where
      same : (x m : X) → Some x ≡ Some m → m ≡ x
      same x m is = ap (λ (o : Option X). unwrap x o) (sym is)
        where
          unwrap : X → Option X → X
          unwrap x None = x
          unwrap x (Some y) = y
  set_same (x ∷ xs) (suc p) m is = ap (λ (ys : List X). x ∷ ys) (set_same xs p m is)

  some_is : (x y : X) → Some x ≡ Some y → y ≡ x
  some_is x y e = ap (λ (o : Option X). either o) (sym e)
    where
      either : Option X → X
      either None = x
      either (Some z) = z

  pub is_below : (xs : List X) (p : ℕ) (m : X) → slice_get xs p ≡ Some m → p < length xs
  is_below [] p m e = absurd cc
  is_below (x ∷ xs) zero m e = omega arith
  is_below (x ∷ xs) (suc p) m e = omega (arith, is_below xs p m e)

  pub len_set : (xs : List X) (p : ℕ) (y : X) → length (slice_set xs p y) ≡ length xs
  len_set [] p y = refl
  len_set (x ∷ xs) zero y = refl
  len_set (x ∷ xs) (suc p) y = ap suc (len_set xs p y)

  -- what was put in is there, and what was there is put back
  pub get_set : (xs : List X) (p : ℕ) (m y d : X) → slice_get xs p ≡ Some m → slice_index_or (slice_set xs p y) p d ≡ y
  get_set [] p m y d e = absurd cc
  get_set (x ∷ xs) zero m y d e = refl
  get_set (x ∷ xs) (suc p) m y d e = get_set xs p m y d e

  pub set_back : (xs : List X) (p : ℕ) (m y : X) → slice_get xs p ≡ Some m → slice_set (slice_set xs p y) p m ≡ xs
  set_back [] p m y e = absurd cc
  set_back (x ∷ xs) zero m y e = ap (λ (z : X). z ∷ xs) (some_is x m e)
  set_back (x ∷ xs) (suc p) m y e = ap (λ (zs : List X). x ∷ zs) (set_back xs p m y e)

  pub not_there : (xs : List X) (p : ℕ) → slice_get xs p ≡ None → p < length xs → ⊥
  not_there [] p e below = omega (arith, below)
  not_there (x ∷ xs) zero e below = absurd cc
  not_there (x ∷ xs) (suc p) e below = not_there xs p e (omega (arith, below))
