-- The first entry of a map whose value passes a test is that of the lowest such key.
use Rattle.std.proofs.Common.{inl, inr, ◌≡◌, ◌<◌, ◌+◌, ℕ, Bool, true, false, List, [], ◌∷◌, cond, find, T, ◌&&◌, refl, sym, ap, ◌∙◌, Some, None, subst, arith}
use Rattle.std.proofs.lemmas.Bool.Decides.{nat_tests}
use Rattle.std.proofs.lemmas.Bool.{cases_order, cases_Bool}
use Rattle.std.specs.Ordering.{nat_cmp, is_lt, eq_by_cmp}
use Rattle.std.specs.FinMap.{FinMap, entries, entries_sorted, is_sorted, get-entries, get}
use Rattle.std.specs.FinMap as fin
use Rattle.std.specs.FinMap.Entries.{below_all}

-- ---- entries in the order of their keys

less_than : (a b : ℕ) → T (is_lt (nat_cmp a b)) → a < b
less_than a b h = grind (arith, nat_tests)

first_of : (a b : Bool) → T (a && b) → T a
first_of true b h = tt
first_of false b h = h

second_of : (a b : Bool) → T (a && b) → T b
second_of true b h = h
second_of false b h = absurd h

apart : (a b : ℕ) → a < b → eq_by_cmp nat_cmp a b ≡ false
apart a b h = grind (arith, nat_tests)

apart_down : (a b : ℕ) → b < a → eq_by_cmp nat_cmp a b ≡ false
apart_down a b h = grind (arith, nat_tests)

same : (a : ℕ) → eq_by_cmp nat_cmp a a ≡ true
same a = grind (arith, nat_tests)

-- a key at most x isn't in a list of keys above x
above_none : {V : Type 0} (x q : ℕ) (es : List (ℕ × V)) → T (below_all nat_cmp x es) → q < x + 1 → fin.find nat_cmp q es ≡ None
above_none x q [] h lt = refl
above_none x q (e ∷ es) h lt =
    let up : x < e.0 = less_than x e.0 (first_of _ (below_all nat_cmp x es) h) in
    let bad : eq_by_cmp nat_cmp q e.0 ≡ false = apart q e.0 (omega arith) in
    ap (λ b. cond b (Some e.1) (fin.find nat_cmp q es)) bad ∙ above_none x q es (second_of (is_lt (nat_cmp x e.0)) (below_all nat_cmp x es) h) lt

at_head : {V : Type 0} (q : ℕ) (e : ℕ × V) (es : List (ℕ × V)) (b : Bool) → eq_by_cmp nat_cmp q e.0 ≡ b → fin.find nat_cmp q (e ∷ es) ≡ cond b (Some e.1) (fin.find nat_cmp q es)
at_head q e es b h = ap (λ c. cond c (Some e.1) (fin.find nat_cmp q es)) h

some_some : {V : Type 0} (v w : V) → Some v ≡ Some w → v ≡ w
some_some v w e = cc

-- what is found in the rest is found in the whole: the first key is below each of the rest
in_tail : {V : Type 0} (j : ℕ) (e : ℕ × V) (es : List (ℕ × V)) (w : V) → T (below_all nat_cmp e.0 es) → fin.find nat_cmp j es ≡ Some w → fin.find nat_cmp j (e ∷ es) ≡ Some w
in_tail j e es w below there =
    elim (cases_order j e.0) [
      | inl is ↦ let gone : fin.find nat_cmp j es ≡ None = above_none e.0 j es below (omega arith) in let clash : Some w ≡ None = sym there ∙ gone in cc
      | inr (inl lt) ↦ let gone : fin.find nat_cmp j es ≡ None = above_none e.0 j es below (omega arith) in let clash : Some w ≡ None = sym there ∙ gone in cc
      | inr (inr gt) ↦ at_head j e es false (apart_down j e.0 gt) ∙ there
    ]

passes : {V : Type 0} (p : V → Bool) (e : ℕ × V) (es : List (ℕ × V)) (b : Bool) → p e.1 ≡ b → find (λ x. p x.1) (e ∷ es) ≡ cond b (Some e) (find (λ x. p x.1) es)
passes p e es b h = ap (λ c. cond c (Some e) (find (λ x. p x.1) es)) h

lowest : {V : Type 0} (p : V → Bool) (es : List (ℕ × V)) (k : ℕ) (v : V) → T (is_sorted nat_cmp es) → fin.find nat_cmp k es ≡ Some v → p v ≡ true →
    ((j : ℕ) (w : V) → j < k → fin.find nat_cmp j es ≡ Some w → p w ≡ false) → find (λ e. p e.1) es ≡ Some (k, v)
lowest p [] k v s f t low = cc
lowest {V} p (e ∷ es) k v s f t low =
    let below : T (below_all nat_cmp e.0 es) = first_of _ (is_sorted nat_cmp es) s in
    let rest : T (is_sorted nat_cmp es) = second_of (below_all nat_cmp e.0 es) _ s in
    elim (cases_order k e.0) [
      | inl is ↦
          let here : fin.find nat_cmp k (e ∷ es) ≡ Some e.1 = at_head k e es true (subst (λ (n : ℕ). eq_by_cmp nat_cmp k n ≡ true) is (same k)) in
          let value : e.1 ≡ v = some_some e.1 v (sym here ∙ f) in
          passes p e es true (ap p value ∙ t) ∙ ap (λ (n : ℕ). Some (n, e.1)) (sym is) ∙ ap (λ (w : V). Some (k, w)) value
      | inr (inl lt) ↦
          let gone : fin.find nat_cmp k (e ∷ es) ≡ None = at_head k e es false (apart k e.0 lt) ∙ above_none e.0 k es below (omega arith) in
          let clash : Some v ≡ None = sym f ∙ gone in
          cc
      | inr (inr gt) ↦
          let first : fin.find nat_cmp e.0 (e ∷ es) ≡ Some e.1 = at_head e.0 e es true (same e.0) in
          let bad : p e.1 ≡ false = low e.0 e.1 gt first in
          let later : fin.find nat_cmp k es ≡ Some v = sym (at_head k e es false (apart_down k e.0 gt)) ∙ f in
          passes p e es false bad ∙ lowest p es k v rest later t (λ j w lt there. low j w lt (in_tail j e es w below there))
    ]

none_passes : {V : Type 0} (p : V → Bool) (es : List (ℕ × V)) → T (is_sorted nat_cmp es) → ((j : ℕ) (w : V) → fin.find nat_cmp j es ≡ Some w → p w ≡ false) → find (λ e. p e.1) es ≡ None
none_passes p [] s all = refl
none_passes p (e ∷ es) s all =
    let below : T (below_all nat_cmp e.0 es) = first_of _ (is_sorted nat_cmp es) s in
    let rest : T (is_sorted nat_cmp es) = second_of (below_all nat_cmp e.0 es) _ s in
    passes p e es false (all e.0 e.1 (at_head e.0 e es true (same e.0))) ∙ none_passes p es rest (λ j w there. all j w (in_tail j e es w below there))

-- ---- the entries of a map

-- of the entries of a map whose values pass, the first is that of the lowest key
pub lowest_is_first : {V : Type 0} (p : V → Bool) (m : FinMap nat_cmp V) (k : ℕ) (v : V) → get m k ≡ Some v → p v ≡ true → ((j : ℕ) (w : V) → j < k → get m j ≡ Some w → p w ≡ false) →
    find (λ e. p e.1) (entries m) ≡ Some (k, v)
lowest_is_first p m k v f t low = lowest p (entries m) k v (entries_sorted m) (sym (get-entries m k) ∙ f) t (λ j w lt there. low j w lt (get-entries m j ∙ there))

pub none_is_first : {V : Type 0} (p : V → Bool) (m : FinMap nat_cmp V) → ((j : ℕ) (w : V) → get m j ≡ Some w → p w ≡ false) → find (λ e. p e.1) (entries m) ≡ None
none_is_first p m all = none_passes p (entries m) (entries_sorted m) (λ j w there. all j w (get-entries m j ∙ there))

found_first : {V : Type 0} (p : V → Bool) (es : List (ℕ × V)) (e : ℕ × V) → T (is_sorted nat_cmp es) → find (λ x. p x.1) es ≡ Some e → (fin.find nat_cmp e.0 es ≡ Some e.1) × (p e.1 ≡ true)
found_first p [] e s f = absurd (cc)
found_first p (first ∷ es) e s f =
    let below : T (below_all nat_cmp first.0 es) = first_of _ (is_sorted nat_cmp es) s in
    let rest : T (is_sorted nat_cmp es) = second_of (below_all nat_cmp first.0 es) _ s in
    elim (cases_Bool (p first.1)) [
      | inl good ↦
          let is : first ≡ e = some_some first e (sym (passes p first es true good) ∙ f) in
          (subst (λ (x : ℕ × _). fin.find nat_cmp x.0 (first ∷ es) ≡ Some x.1) is (at_head first.0 first es true (same first.0)), subst (λ (x : ℕ × _). p x.1 ≡ true) is good)
      | inr bad ↦
          let there = found_first p es e rest (sym (passes p first es false bad) ∙ f) in
          (in_tail e.0 first es e.1 below there.0, there.1)
    ]

-- the first entry that passes is in the map, and passes
pub first_is_there : {V : Type 0} (p : V → Bool) (m : FinMap nat_cmp V) (e : ℕ × V) → find (λ x. p x.1) (entries m) ≡ Some e → (get m e.0 ≡ Some e.1) × (p e.1 ≡ true)
first_is_there p m e f = let there = found_first p (entries m) e (entries_sorted m) f in (get-entries m e.0 ∙ there.0, there.1)
