-- Lists that are split at the first byte of a kind.
use Rattle.std.proofs.Common.{◌≡◌, ◌≢◌, ℕ, zero, suc, ◌<◌, ◌==◌, Bool, true, false, List, [], ◌∷◌, ◌++◌, length, get_or, take, drop, Option, Some, None, refl, sym, ap, ◌∙◌, arith}
use Rattle.std.proofs.lemmas.Bool.{and_parts, eq-eqb, ne_eqb, eqb-true, cases_Bool}
use Rattle.std.specs.List.{list_all}
use Rattle.std.proofs.Common.{inl, inr}
use Rattle.std.proofs.Common.{drop-cons}
use Rattle.memchr.specs.Find.{IsFirstByte, is_byte}
use Rattle.rtmfp_script.specs.Fields.{split_of, behind, ◌>>=◌, only_if}

-- ---- optional values

pub some_some : {A : Type 0} (a b : A) → Some a ≡ Some b → a ≡ b
some_some a b e = cc

-- what a second step that gave a value shows
pub bind_some : {A B : Type 0} (o : Option A) (f : A → Option B) (b : B) → (o >>= f) ≡ Some b → (a : A) × (o ≡ Some a) × (f a ≡ Some b)
bind_some None f b h = absurd (cc)
bind_some (Some a) f b h = (a, refl, h)

pub only_if-some : {A : Type 0} (test : Bool) (x y : A) → only_if test x ≡ Some y → (test ≡ true) × (x ≡ y)
only_if-some true x y h = (refl, some_some x y h)
only_if-some false x y h = absurd (cc)

-- ---- each byte of a list

abbrev pub Each : (ℕ → Type 0) → List ℕ → Type 0
Each P [] = Unit {0}
Each P (x ∷ xs) = P x × Each P xs

pub each_append : (P : ℕ → Type 0) (xs ys : List ℕ) → Each P xs → Each P ys → Each P (xs ++ ys)
each_append P [] ys a b = b
each_append P (x ∷ xs) ys a b = (a.0, each_append P xs ys a.1 b)

pub each_is : (P Q : ℕ → Type 0) → ((x : ℕ) → P x → Q x) → (xs : List ℕ) → Each P xs → Each Q xs
each_is P Q f [] a = tt
each_is P Q f (x ∷ xs) a = (f x a.0, each_is P Q f xs a.1)

pub each_passes : (p : ℕ → Bool) (xs : List ℕ) → list_all p xs ≡ true → Each (λ x. p x ≡ true) xs
each_passes p [] h = tt
each_passes p (x ∷ xs) h = let parts = and_parts (p x) (list_all p xs) h in (parts.0, each_passes p xs parts.1)

abbrev pub Lacks : ℕ → List ℕ → Type 0
Lacks b xs = Each (λ x. x ≢ b) xs

-- ---- splitting

pub split_text : (b : ℕ) (front back : List ℕ) → Lacks b front → split_of b (front ++ b ∷ back) ≡ Some (front, back)
unfolding split_of
split_text b [] back lacks = let e : (b == b) ≡ true = eq-eqb b b refl in rw e refl
split_text b (x ∷ front) back lacks =
    let e : (x == b) ≡ false = ne_eqb x b lacks.0 in
    rw (e, split_text b front back lacks.1) refl

pub split_nothing : (b : ℕ) (xs : List ℕ) → Lacks b xs → split_of b xs ≡ None
unfolding split_of
split_nothing b [] lacks = refl
split_nothing b (x ∷ xs) lacks =
    let e : (x == b) ≡ false = ne_eqb x b lacks.0 in
    rw (e, split_nothing b xs lacks.1) refl

behind-some : (x : ℕ) (o : Option (List ℕ × List ℕ)) (p : List ℕ × List ℕ) → behind x o ≡ Some p → (q : List ℕ × List ℕ) × (o ≡ Some q) × ((x ∷ q.0, q.1) ≡ p)
behind-some x None p h = absurd (cc)
behind-some x (Some q) p h = (q, refl, some_some _ _ h)

-- the parts make the list again
pub split_joined : (b : ℕ) (xs : List ℕ) (p : List ℕ × List ℕ) → split_of b xs ≡ Some p → xs ≡ p.0 ++ b ∷ p.1
unfolding split_of
split_joined b [] p h = absurd (cc)
split_joined b (x ∷ xs) p h = elim (cases_Bool (x == b)) [
  | inl is ↦
      let e : ([], xs) ≡ p = some_some _ _ (rw is at h) in
      ap (λ (y : ℕ). y ∷ xs) (eqb-true x b is) ∙ ap (λ (q : List ℕ × List ℕ). q.0 ++ b ∷ q.1) e
  | inr other ↦
      let found = behind-some x (split_of b xs) p (rw other at h) in
      ap (λ ys. x ∷ ys) (split_joined b xs found.0 found.1) ∙ ap (λ (q : List ℕ × List ℕ). q.0 ++ b ∷ q.1) found.2
]

-- ---- by the index of the byte

pub split_first : (b i : ℕ) (xs : List ℕ) → i < length xs → get_or xs i 0 ≡ b → ((k : ℕ) → k < i → get_or xs k 0 ≢ b) → split_of b xs ≡ Some (take i xs, drop (suc i) xs)
unfolding split_of
split_first b i [] lt is none = absurd (omega arith)
split_first b zero (x ∷ xs) lt is none = let e : (x == b) ≡ true = eq-eqb x b is in rw e refl
split_first b (suc i) (x ∷ xs) lt is none =
    let e : (x == b) ≡ false = ne_eqb x b (none 0 (omega arith)) in
    rw (e, split_first b i xs (omega arith) is (λ k l. none (suc k) (omega arith))) refl

pub split_without : (b : ℕ) (xs : List ℕ) → ((k : ℕ) → k < length xs → get_or xs k 0 ≢ b) → split_of b xs ≡ None
unfolding split_of
split_without b [] none = refl
split_without b (x ∷ xs) none =
    let e : (x == b) ≡ false = ne_eqb x b (none 0 (omega arith)) in
    rw (e, split_without b xs (λ k l. none (suc k) (omega arith))) refl

-- as the search for the byte tells it
pub split_none : (b : ℕ) (xs : List ℕ) → IsFirstByte (is_byte b) xs None → split_of b xs ≡ None
split_none b xs first = split_without b xs (λ k lt e. first k (omega arith) lt (eq-eqb (get_or xs k 0) b e))

pub split_found : (b i : ℕ) (xs front rest back : List ℕ) → IsFirstByte (is_byte b) xs (Some i) → front ≡ take i xs → rest ≡ drop i xs → back ≡ drop 1 rest →
    split_of b xs ≡ Some (front, back)
split_found b i xs front rest back first is_front is_rest is_back =
    let lt : i < length xs = first.0.high in
    let there : get_or xs i 0 ≡ b = eqb-true (get_or xs i 0) b first.1 in
    let e : drop i xs ≡ get_or xs i 0 ∷ drop (suc i) xs = drop-cons xs i 0 lt in
    let tails : drop (suc i) xs ≡ back = sym (is_back ∙ ap (drop 1) (is_rest ∙ e)) in
    split_first b i xs lt there (λ k l is. first.0.before k (omega arith) l (eq-eqb (get_or xs k 0) b is))
    ∙ ap (λ ys. Some (ys, drop (suc i) xs)) (sym is_front) ∙ ap (λ ys. Some (front, ys)) tails
