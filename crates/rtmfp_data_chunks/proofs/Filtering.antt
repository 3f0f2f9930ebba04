-- Lists that a test leaves.
use Rattle.std.proofs.Common.{◌≡◌, ◌⊎◌, cond, Bool, true, false, ◌&&◌, List, [], ◌∷◌, refl, ap, sym, ◌∙◌, inl, inr}
use Rattle.std.specs.List.{filter}
use Rattle.rtmfp_data_chunks.specs.HandsOver.{IsIn}

pub filter_same : {A : Type 0} (p q : A → Bool) (xs : List A) → ((y : A) → IsIn y xs → p y ≡ q y) → filter p xs ≡ filter q xs
filter_same p q [] h = refl
filter_same p q (y ∷ later) h = ap (λ t. cond t (y ∷ filter p later) (filter p later)) (h y (inl refl)) ∙ ap (λ zs. cond (q y) (y ∷ zs) zs) (filter_same p q later (λ z i. h z (inr i)))

pub filter_all : {A : Type 0} (p : A → Bool) (xs : List A) → ((y : A) → IsIn y xs → p y ≡ true) → filter p xs ≡ xs
filter_all p [] h = refl
filter_all p (y ∷ later) h = ap (λ t. cond t (y ∷ filter p later) (filter p later)) (h y (inl refl)) ∙ ap (λ zs. y ∷ zs) (filter_all p later (λ z i. h z (inr i)))

twice_if : {A : Type 0} (p q : A → Bool) (y : A) (later : List A) (s t : Bool) → q y ≡ t → filter q (filter p later) ≡ filter (λ z. p z && q z) later
    → filter q (cond s (y ∷ filter p later) (filter p later)) ≡ cond (s && t) (y ∷ filter (λ z. p z && q z) later) (filter (λ z. p z && q z) later)
twice_if p q y later true t e ih = ap (λ u. cond u (y ∷ filter q (filter p later)) (filter q (filter p later))) e ∙ ap (λ zs. cond t (y ∷ zs) zs) ih
twice_if p q y later false t e ih = ih

pub filter_twice : {A : Type 0} (p q : A → Bool) (xs : List A) → filter q (filter p xs) ≡ filter (λ z. p z && q z) xs
filter_twice p q [] = refl
filter_twice p q (y ∷ later) = twice_if p q y later (p y) (q y) refl (filter_twice p q later)

in_if : {A : Type 0} (y x : A) (zs : List A) (t : Bool) → t ≡ true → (y ≡ x) ⊎ IsIn y zs → IsIn y (cond t (x ∷ zs) zs)
in_if y x zs true e i = i
in_if y x zs false e i = absurd cc

later_if : {A : Type 0} (y x : A) (zs : List A) (t : Bool) → IsIn y zs → IsIn y (cond t (x ∷ zs) zs)
later_if y x zs true i = inr i
later_if y x zs false i = i

pub in_filter : {A : Type 0} (p : A → Bool) (xs : List A) (y : A) → IsIn y xs → p y ≡ true → IsIn y (filter p xs)
in_filter p [] y i e = absurd i
in_filter p (x ∷ later) y i e = elim i [
  | inl s ↦ in_if y x (filter p later) (p x) (ap p (sym s) ∙ e) (inl s)
  | inr j ↦ later_if y x (filter p later) (p x) (in_filter p later y j e)
]
