-- The sum of the weights of a finite map's values, when one is put, changed or taken away.
use Rattle.std.proofs.Common.{ℕ, ◌≡◌, ◌+◌, cond, List, [], ◌∷◌, Some, None, refl, sym, ap, ◌∙◌, inl, inr, arith}
use Rattle.std.specs.Ordering.{nat_cmp, is_eq}
use Rattle.std.specs.declared.cmp.Ordering.{Ordering}
use Rattle.std.specs.declared.cmp.Ordering.TheVariants.{Less, Equal, Greater}
use Rattle.std.specs.Cmp.{nat_cmp_total}
use Rattle.std.specs.List.{sum_by}
use Rattle.std.specs.FinMap.{FinMap, get, insert, remove, entries, entries-insert, get-entries}
use Rattle.std.specs.FinMap as fin
use Rattle.std.specs.FinMap.Entries.{by_order}
use Rattle.std.proofs.lemmas.List.Sums.{sum_by-cons}
use Rattle.rtmfp_base.proofs.Maps.{same_or_not, same_tables, get_inserted, get_beside, get_removed, get_left}

module _ {V : Type 0} (weight : V → ℕ) where
  abbrev sum : List (ℕ × V) → ℕ
  sum es = sum_by (λ e. weight e.1) es

  abbrev pub sum_where : FinMap nat_cmp V → ℕ
  sum_where m = sum_by (λ e. weight e.1) (entries m)

  one_more : (e : ℕ × V) (es : List (ℕ × V)) → sum (e ∷ es) ≡ weight e.1 + sum es
  one_more e es = sum_by-cons (λ (x : ℕ × V). weight x.1) e es

  last_first : (a b c : ℕ) → a ≡ b + c → a ≡ c + b
  last_first a b c e = omega arith

  between : (whole part rest one : ℕ) (new : ℕ) → whole ≡ one + part → part ≡ rest + new → (before : ℕ) → before ≡ one + rest → whole ≡ before + new
  between whole part rest one new a b before c = omega arith

  -- an entry is put where its key has none
  sum_put_by : (k : ℕ) (v : V) (e : ℕ × V) (es : List (ℕ × V)) (o : Ordering) → nat_cmp k e.0 ≡ o → fin.find nat_cmp k (e ∷ es) ≡ None
      → (fin.find nat_cmp k es ≡ None → sum (fin.put nat_cmp k v es) ≡ sum es + weight v)
      → sum (by_order o ((k, v) ∷ e ∷ es) ((e.0, v) ∷ es) (e ∷ fin.put nat_cmp k v es)) ≡ sum (e ∷ es) + weight v
  sum_put_by k v e es Less is none rest = last_first _ _ _ (one_more (k, v) (e ∷ es))
  sum_put_by k v e es Equal is none rest =
      let clash : Some e.1 ≡ None = sym (ap (λ r. cond (is_eq r) (Some e.1) (fin.find nat_cmp k es)) is) ∙ none in
      absurd (cc)
  sum_put_by k v e es Greater is none rest =
      let later : fin.find nat_cmp k es ≡ None = sym (ap (λ r. cond (is_eq r) (Some e.1) (fin.find nat_cmp k es)) is) ∙ none in
      between _ _ _ _ _ (one_more e (fin.put nat_cmp k v es)) (rest later) _ (one_more e es)

  sum_put : (k : ℕ) (v : V) (es : List (ℕ × V)) → fin.find nat_cmp k es ≡ None → sum (fin.put nat_cmp k v es) ≡ sum es + weight v
  sum_put k v [] none = last_first _ _ _ (one_more (k, v) [])
  sum_put k v (e ∷ es) none = sum_put_by k v e es (nat_cmp k e.0) refl none (sum_put k v es)

  pub sum_new : (m : FinMap nat_cmp V) (k : ℕ) (v : V) → get m k ≡ None → sum_where (insert m k v) ≡ sum_where m + weight v
  sum_new m k v none = ap (sum_by (λ (e : ℕ × V). weight e.1)) (entries-insert nat_cmp_total m k v) ∙ sum_put k v (entries m) (sym (get-entries m k) ∙ none)

  put_back : (m : FinMap nat_cmp V) (k : ℕ) (v : V) → get m k ≡ Some v → insert (remove m k) k v ≡ m
  put_back m k v there = same_tables _ _ (λ q. elim (same_or_not q k) [
    | inl is ↦ ap (get (insert (remove m k) k v)) is.0 ∙ get_inserted (remove m k) k v ∙ sym there ∙ ap (get m) (sym is.0)
    | inr is ↦ get_beside (remove m k) k v q is.0 ∙ get_left m k q is.0
  ])

  put_over : (m : FinMap nat_cmp V) (k : ℕ) (v : V) → insert (remove m k) k v ≡ insert m k v
  put_over m k v = same_tables _ _ (λ q. elim (same_or_not q k) [
    | inl is ↦ ap (get (insert (remove m k) k v)) is.0 ∙ get_inserted (remove m k) k v ∙ sym (get_inserted m k v) ∙ ap (get (insert m k v)) (sym is.0)
    | inr is ↦ get_beside (remove m k) k v q is.0 ∙ get_left m k q is.0 ∙ sym (get_beside m k v q is.0)
  ])

  -- a value is taken away
  pub sum_removed : (m : FinMap nat_cmp V) (k : ℕ) (v : V) → get m k ≡ Some v → sum_where (remove m k) + weight v ≡ sum_where m
  sum_removed m k v there = sym (ap (λ (n : FinMap nat_cmp V). sum_where n) (sym (put_back m k v there)) ∙ sum_new (remove m k) k v (get_removed m k))

  -- another one is put in place of it
  pub sum_changed : (m : FinMap nat_cmp V) (k : ℕ) (v w : V) → get m k ≡ Some v → sum_where (insert m k w) + weight v ≡ sum_where m + weight w
  sum_changed m k v w there =
      let kept : sum_where (insert m k w) ≡ sum_where (remove m k) + weight w =
      ap (λ (n : FinMap nat_cmp V). sum_where n) (sym (put_over m k w)) ∙ sum_new (remove m k) k w (get_removed m k) in
      omega (arith, kept, sum_removed m k v there)
