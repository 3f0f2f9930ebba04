-- Keys, of which each has the last index of its like before it.
use Rattle.std.proofs.Common.{◌≡◌, ◌≢◌, ℕ, zero, suc, ◌<◌, List, [], ◌∷◌, ◌++◌, length, take, slice_get, true, false, Option, Some, None, inl, inr, ◌⊎◌, refl, sym, ap, ◌∙◌, subst, arith, ◌==◌}
use Rattle.std.specs.Ordering.{nat_cmp}
use Rattle.std.specs.BTreeMap.{BTreeMap, get, is_at, Updates}
use Rattle.std.proofs.lemmas.Grind.{common_steps}
use Rattle.std.proofs.Math.Seq.{take-append_seam}
use Rattle.std.proofs.lemmas.List.{length-map, map-append, take-append-le}
use Rattle.rendezvous_world.specs.declared.keyed.Row.{Row}
use Rattle.rendezvous_world.specs.Keyed.{IsLast, keys_of, IsChained}
use Rattle.rendezvous_world.proofs.Ends.{tested}

-- ---- one more of a list

pub some_same : {A : Type 0} (x y : A) → ◌≡◌ {A = Option A} (Some x) (Some y) → x ≡ y
some_same x y e = cc

pub within : {A : Type 0} (xs : List A) (k : ℕ) (y : A) → slice_get xs k ≡ Some y → k < length xs
within [] k y e = absurd (cc)
within (x ∷ xs) zero y e = omega arith
within (x ∷ xs) (suc k) y e = let more : k < length xs = within xs k y e in omega arith

pub at_more : {A : Type 0} (xs : List A) (x : A) (k : ℕ) (y : A) → slice_get (xs ++ x ∷ []) k ≡ Some y → (slice_get xs k ≡ Some y) ⊎ ((k ≡ length xs) × (y ≡ x))
at_more [] x zero y e = inr (refl, sym (some_same x y e))
at_more [] x (suc k) y e = absurd (cc)
at_more (z ∷ xs) x zero y e = inl e
at_more (z ∷ xs) x (suc k) y e = elim (at_more xs x k y e) [
  | inl there ↦ inl there
  | inr new ↦ inr (ap suc new.0, new.1)
]

pub at_still : {A : Type 0} (xs : List A) (x : A) (k : ℕ) (y : A) → slice_get xs k ≡ Some y → slice_get (xs ++ x ∷ []) k ≡ Some y
at_still [] x k y e = absurd (cc)
at_still (z ∷ xs) x zero y e = e
at_still (z ∷ xs) x (suc k) y e = at_still xs x k y e

pub at_end : {A : Type 0} (xs : List A) (x : A) → slice_get (xs ++ x ∷ []) (length xs) ≡ Some x
at_end [] x = refl
at_end (z ∷ xs) x = at_end xs x

-- ---- the last index of a key

other_grows : (o : Option ℕ) (key new : ℕ) (keys : List ℕ) → key ≢ new → IsLast o key keys → IsLast o key (keys ++ new ∷ [])
other_grows None key new keys other last = λ k e. none k (at_more keys new k key e)
  where
    none : (k : ℕ) → (slice_get keys k ≡ Some key) ⊎ ((k ≡ length keys) × (key ≡ new)) → ⊥
    none k (inl there) = last k there
    none k (inr is) = other is.1
other_grows (Some at) key new keys other last =
    (at_still keys new at key last.0, λ k above e. later k above (at_more keys new k key e))
  where
    later : (k : ℕ) → at < k → (slice_get keys k ≡ Some key) ⊎ ((k ≡ length keys) × (key ≡ new)) → ⊥
    later k above (inl there) = last.1 k above there
    later k above (inr is) = other is.1

new_last : (keys : List ℕ) (key : ℕ) → IsLast (Some (length keys)) key (keys ++ key ∷ [])
new_last keys key = (at_end keys key, λ k above e. later k above (at_more keys key k key e))
  where
    later : (k : ℕ) → length keys < k → (slice_get keys k ≡ Some key) ⊎ ((k ≡ length keys) × (key ≡ key)) → ⊥
    later k above (inl there) = let inside : k < length keys = within keys k key there in omega arith
    later k above (inr is) = let same = is.0 in omega arith

not_at : (a b : ℕ) → a ≢ b → is_at (nat_cmp a) b ≡ false
not_at a b h = grind (arith, common_steps)

-- ---- one more key

module _ (rows : List Row) (tops more : BTreeMap ℕ ℕ) (key : ℕ) (before : Option ℕ) (is : IsChained rows tops) (found : before ≡ get nat_cmp tops key) (puts : Updates nat_cmp tops more key (Some (length rows))) where
  abbrev row : Row
  row = record { key = key; before = before }

  abbrev keys : List ℕ
  keys = keys_of rows

  grown : keys_of (rows ++ row ∷ []) ≡ keys ++ key ∷ []
  grown = map-append (λ (r : Row). r.key) rows (row ∷ [])

  as_long : length keys ≡ length rows
  as_long = length-map {B = ℕ} rows (λ (r : Row). r.key)

  row_before : (k : ℕ) (r : Row) → (slice_get rows k ≡ Some r) ⊎ ((k ≡ length rows) × (r ≡ row)) → IsLast r.before r.key (take k (keys ++ key ∷ []))
  row_before k r (inl there) =
      let inside : k < length rows = within rows k r there in
      let long = as_long in
      subst (λ (ks : List ℕ). IsLast r.before r.key ks) (sym (take-append-le k keys (key ∷ []) (omega arith))) (is.before k r there)
  row_before k r (inr new) =
      let all : take k (keys ++ key ∷ []) ≡ keys = ap (λ (n : ℕ). take n (keys ++ key ∷ [])) (new.0 ∙ sym as_long) ∙ take-append_seam keys (key ∷ []) in
      let here : IsLast before key keys = subst (λ (o : Option ℕ). IsLast o key keys) (sym found) (is.last key) in
      subst (λ (ks : List ℕ). IsLast r.before r.key ks) (sym all) (subst (λ (x : Row). IsLast x.before x.key keys) (sym new.1) here)

  last_now : (asked : ℕ) → ((key ≡ asked) × ((key == asked) ≡ true)) ⊎ ((key ≢ asked) × ((key == asked) ≡ false)) → IsLast (get nat_cmp more asked) asked (keys ++ key ∷ [])
  last_now asked (inl same) =
      let at : get nat_cmp more key ≡ Some (length keys) = puts.1 ∙ ap (λ (n : ℕ). Some n) (sym as_long) in
      subst (λ (k : ℕ). IsLast (get nat_cmp more k) k (keys ++ key ∷ [])) same.0 (subst (λ (o : Option ℕ). IsLast o key (keys ++ key ∷ [])) (sym at) (new_last keys key))
  last_now asked (inr other) =
      subst (λ (o : Option ℕ). IsLast o asked (keys ++ key ∷ [])) (sym (puts.2 asked (not_at key asked other.0)))
      (other_grows (get nat_cmp tops asked) asked key keys (λ e. other.0 (sym e)) (is.last asked))

  pub chained_more : IsChained (rows ++ row ∷ []) more
  chained_more = record {
    before = λ k r e. subst (λ (ks : List ℕ). IsLast r.before r.key (take k ks)) (sym grown) (row_before k r (at_more rows row k r e));
    last = λ asked. subst (λ (ks : List ℕ). IsLast (get nat_cmp more asked) asked ks) (sym grown) (last_now asked (tested key asked));
  }
