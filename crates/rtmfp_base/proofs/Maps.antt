-- Finite maps from numbers: what an insert and a removal leave.
use Rattle.std.proofs.Common.{ℕ, ◌≡◌, ◌+◌, ◌-◌, Bool, true, false, cond, Option, Some, None, is_some, sym, ap, refl, ◌∙◌, inl, inr, ◌⊎◌}
use Rattle.std.specs.Ordering.{nat_cmp, eq_by_cmp}
use Rattle.std.specs.Cmp.{nat_cmp_total, eq_by_cmp_equiv}
use Rattle.std.specs.FinMap.{FinMap, get, insert, remove, len, get-insert, get-remove, len-insert, len-remove, same_map, nat_cmp-IsAntisymmetric}
use Rattle.std.proofs.lemmas.Map.Views.{tells_apart}

-- two numbers are equal, and the test says so, or neither
pub same_or_not : (q k : ℕ) → ((q ≡ k) × (eq_by_cmp nat_cmp q k ≡ true)) ⊎ ((q ≡ k → ⊥) × (eq_by_cmp nat_cmp q k ≡ false))
same_or_not q k = decided (eq_by_cmp nat_cmp q k) refl
  where
    decided : (b : Bool) → eq_by_cmp nat_cmp q k ≡ b → ((q ≡ k) × (eq_by_cmp nat_cmp q k ≡ true)) ⊎ ((q ≡ k → ⊥) × (eq_by_cmp nat_cmp q k ≡ false))
    decided true e = inl (tells_apart nat_cmp-IsAntisymmetric q k e, e)
    decided false e = inr ((λ is. let clash : false ≡ true = sym e ∙ ap (eq_by_cmp nat_cmp q) (sym is) ∙ (eq_by_cmp_equiv nat_cmp_total).refl q in cc), e)

pub same_key : (k : ℕ) → eq_by_cmp nat_cmp k k ≡ true
same_key k = (eq_by_cmp_equiv nat_cmp_total).refl k

pub none_is_some : {A : Type 0} (x : A) (o : Option A) → o ≡ None → o ≡ Some x → ⊥
none_is_some x o n s = let clash : None ≡ Some x = sym n ∙ s in cc

module _ {V : Type 0} where
  pub same_tables : (a b : FinMap nat_cmp V) → ((q : ℕ) → get a q ≡ get b q) → a ≡ b
  same_tables a b same = same_map nat_cmp_total nat_cmp-IsAntisymmetric a b same

  pub get_inserted : (m : FinMap nat_cmp V) (k : ℕ) (v : V) → get (insert m k v) k ≡ Some v
  get_inserted m k v = get-insert nat_cmp_total m k v k ∙ ap (λ b. cond b (Some v) (get m k)) (same_key k)

  pub get_beside : (m : FinMap nat_cmp V) (k : ℕ) (v : V) (q : ℕ) → (q ≡ k → ⊥) → get (insert m k v) q ≡ get m q
  get_beside m k v q other = elim (same_or_not q k) [
    | inl is ↦ absurd (other is.0)
    | inr is ↦ get-insert nat_cmp_total m k v q ∙ ap (λ b. cond b (Some v) (get m q)) is.1
  ]

  pub get_removed : (m : FinMap nat_cmp V) (k : ℕ) → get (remove m k) k ≡ None
  get_removed m k = get-remove nat_cmp_total m k k ∙ ap (λ b. cond b None (get m k)) (same_key k)

  pub get_left : (m : FinMap nat_cmp V) (k q : ℕ) → (q ≡ k → ⊥) → get (remove m k) q ≡ get m q
  get_left m k q other = elim (same_or_not q k) [
    | inl is ↦ absurd (other is.0)
    | inr is ↦ get-remove nat_cmp_total m k q ∙ ap (λ b. cond b None (get m q)) is.1
  ]

  -- nothing leaves where nothing is
  pub removed_none : (m : FinMap nat_cmp V) (k : ℕ) → get m k ≡ None → m ≡ remove m k
  removed_none m k none = same_tables m (remove m k) (λ q. elim (same_or_not q k) [
    | inl is ↦ ap (get m) is.0 ∙ none ∙ sym (ap (get (remove m k)) is.0 ∙ get_removed m k)
    | inr is ↦ sym (get_left m k q is.0)
  ])

  -- where something is found after an insert, it was put there or was there before
  pub found_inserted : (m : FinMap nat_cmp V) (k : ℕ) (v : V) (q : ℕ) (w : V) → get (insert m k v) q ≡ Some w → ((q ≡ k) × (v ≡ w)) ⊎ ((q ≡ k → ⊥) × (get m q ≡ Some w))
  found_inserted m k v q w e = elim (same_or_not q k) [
    | inl is ↦ inl (is.0, (let here : Some v ≡ Some w = sym (get_inserted m k v) ∙ ap (get (insert m k v)) (sym is.0) ∙ e in cc))
    | inr is ↦ inr (is.0, sym (get_beside m k v q is.0) ∙ e)
  ]

  -- where something is found after a removal, it was there before
  pub found_left : (m : FinMap nat_cmp V) (k q : ℕ) (w : V) → get (remove m k) q ≡ Some w → (q ≡ k → ⊥) × (get m q ≡ Some w)
  found_left m k q w e = elim (same_or_not q k) [
    | inl is ↦ absurd (none_is_some w (get (remove m k) q) (ap (get (remove m k)) is.0 ∙ get_removed m k) e)
    | inr is ↦ (is.0, sym (get_left m k q is.0) ∙ e)
  ]

  -- of two values put under a key the later one stands
  pub insert_twice : (m : FinMap nat_cmp V) (k : ℕ) (v w : V) → insert (insert m k v) k w ≡ insert m k w
  insert_twice m k v w = same_tables _ _ (λ q. elim (same_or_not q k) [
    | inl is ↦ ap (get (insert (insert m k v) k w)) is.0 ∙ get_inserted (insert m k v) k w ∙ sym (get_inserted m k w) ∙ ap (get (insert m k w)) (sym is.0)
    | inr is ↦ get_beside (insert m k v) k w q is.0 ∙ get_beside m k v q is.0 ∙ sym (get_beside m k w q is.0)
  ])

  pub len_new : (m : FinMap nat_cmp V) (k : ℕ) (v : V) → get m k ≡ None → len (insert m k v) ≡ len m + 1
  len_new m k v none = len-insert nat_cmp_total m k v ∙ ap (λ o. cond (is_some o) (len m) (len m + 1)) none

  pub len_known : (m : FinMap nat_cmp V) (k : ℕ) (v w : V) → get m k ≡ Some w → len (insert m k v) ≡ len m
  len_known m k v w there = len-insert nat_cmp_total m k v ∙ ap (λ o. cond (is_some o) (len m) (len m + 1)) there

  pub len_less : (m : FinMap nat_cmp V) (k : ℕ) (w : V) → get m k ≡ Some w → len (remove m k) ≡ len m - 1
  len_less m k w there = len-remove nat_cmp_total m k ∙ ap (λ o. cond (is_some o) (len m - 1) (len m)) there
