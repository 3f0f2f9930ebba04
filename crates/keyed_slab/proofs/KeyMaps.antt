-- A hashed map from numbers as the finite map that contracts see.
use Rattle.std.proofs.Common.{◌≡◌, ◌==◌, ℕ, suc, ◌+◌, Bool, true, false, cond, List, [], ◌∷◌, length, Some, None, Result, Ok, Err, IsOk, refl, sym, ap, ◌∙◌, arith}
use Rattle.std.specs.Ordering.{nat_cmp, eq_by_cmp}
use Rattle.std.specs.Cmp.{nat_cmp_total, nat_eq_equiv}
use Rattle.std.specs.List.{IsDistinct}
use Rattle.std.specs.Map.{lookup, keys_of}
use Rattle.std.specs.HashMap.{HashMap, Updates, IsReordered}
use Rattle.std.specs.FinMap.{FinMap, get, insert, remove, len, from_entries, get-from_entries, get-insert, get-remove, len-empty}
use Rattle.std.specs.FinMap as fin
use Rattle.std.proofs.lemmas.Bool.Decides.{nat_tests}
use Rattle.std.proofs.lemmas.Map.{lookup-none}
use Rattle.std.proofs.lemmas.Map.Entries.{none_past_head}
use Rattle.std.proofs.lemmas.Map.Keys.{IsDistinct-tail}
use Rattle.rtmfp_base.proofs.Maps.{same_tables, len_new}

abbrev same : ℕ → ℕ → Bool
same a b = a == b

tests_alike : (a b : ℕ) → eq_by_cmp nat_cmp a b ≡ (a == b)
tests_alike a b = grind (arith, nat_tests)

turned : (a b : ℕ) → (a == b) ≡ (b == a)
turned a b = grind (arith, nat_tests)

one_more : {a b : ℕ} → a ≡ b → a + 1 ≡ suc b
one_more e = omega (arith, e)

-- what is there was put
pub never_ok : {A B : Type 0} (r : Result A B) (e : B) → IsOk r → r ≡ Err e → ⊥
never_ok (Ok x) e ok is = absurd cc
never_ok (Err x) e ok is = let clash : false ≡ true = ok in cc

module _ {V : Type 0} where
  found : (q : ℕ) (es : List (ℕ × V)) → fin.find nat_cmp q es ≡ lookup (same q) es
  found q [] = refl
  found q (e ∷ es) = ap (λ b. cond b (Some e.1) (fin.find nat_cmp q es)) (tests_alike q e.0) ∙ ap (cond (q == e.0) (Some e.1)) (found q es)

  pub get_keys : (es : List (ℕ × V)) (q : ℕ) → get {R = nat_cmp} (from_entries es) q ≡ lookup (same q) es
  get_keys es q = get-from_entries nat_cmp_total es q ∙ found q es

  -- There are as many keys as entries.
  pub len_keys : (es : List (ℕ × V)) → IsDistinct same (keys_of es) → len {R = nat_cmp} (from_entries es) ≡ length es
  len_keys [] distinct = len-empty nat_cmp V
  len_keys (e ∷ es) distinct =
      let none : get {R = nat_cmp} (from_entries es) e.0 ≡ None =
      get_keys es e.0 ∙ lookup-none (same e.0) es (none_past_head nat_eq_equiv e.0 e es distinct (nat_eq_equiv.refl e.0)) in
      len_new (from_entries es) e.0 e.1 none ∙ one_more (len_keys es (IsDistinct-tail same e.0 (keys_of es) distinct))

  -- A value is put under a key, or taken out.
  module _ {S : Type 0} (m n : HashMap ℕ V S) (k : ℕ) where
    pub keys_put : (value : V) → Updates same m n k (Some value) → ◌≡◌ {A = FinMap nat_cmp V} (from_entries n.entries) (insert (from_entries m.entries) k value)
    keys_put value updates = same_tables (from_entries n.entries) (insert (from_entries m.entries) k value) (λ q.
        get_keys n.entries q ∙ updates.0 q ∙ ap (cond (k == q) (Some value)) (sym (get_keys m.entries q))
        ∙ sym (get-insert nat_cmp_total (from_entries m.entries) k value q ∙ ap (λ b. cond b (Some value) (get {R = nat_cmp} (from_entries m.entries) q)) (tests_alike q k ∙ turned q k)))

    pub keys_taken : Updates same m n k None → ◌≡◌ {A = FinMap nat_cmp V} (from_entries n.entries) (remove (from_entries m.entries) k)
    keys_taken updates = same_tables (from_entries n.entries) (remove (from_entries m.entries) k) (λ q.
        get_keys n.entries q ∙ updates.0 q ∙ ap (cond (k == q) None) (sym (get_keys m.entries q))
        ∙ sym (get-remove nat_cmp_total (from_entries m.entries) k q ∙ ap (λ b. cond b None (get {R = nat_cmp} (from_entries m.entries) q)) (tests_alike q k ∙ turned q k)))

    pub keys_reordered : IsReordered same m n → ◌≡◌ {A = FinMap nat_cmp V} (from_entries n.entries) (from_entries m.entries)
    keys_reordered alike = same_tables (from_entries n.entries) (from_entries m.entries) (λ q. get_keys n.entries q ∙ alike.2 q ∙ sym (get_keys m.entries q))
