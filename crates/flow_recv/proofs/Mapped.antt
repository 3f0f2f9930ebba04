-- The spans of a map's entries, and what its calls do with them.
use Rattle.std.proofs.Common.{◌≡◌, ℕ, ◌+◌, ◌<◌, nat_le, nat_lt, ◌==◌, cond, not, Bool, true, false, ◌&&◌, List, [], ◌∷◌, ◌++◌, Some, None, refl, ap, sym, ◌∙◌, arith}
use Rattle.std.proofs.lemmas.Bool.Decides.{nat_tests}
use Rattle.std.specs.List.{filter}
use Rattle.std.specs.Option.{unwrap_or}
use Rattle.std.specs.Ordering.{nat_cmp, is_eq, is_lt, match_ordering}
use Rattle.std.specs.declared.cmp.Ordering.TheVariants.{Less, Equal, Greater}
use Rattle.std.specs.Map.{lookup, remove_entry, set_value}
use Rattle.std.specs.BTreeMap.{insert_entry, is_at}
use Rattle.flow_recv.specs.Receiver.{span}
use Rattle.flow_recv.specs.Above.{spans_of, last_from, end_of, without, with_end, with_number}

eq_if : (t u : Bool) → (t ≡ true → u ≡ false) → is_eq (cond t Less (cond u Equal Greater)) ≡ u
eq_if true true h = sym (h refl)
eq_if true false h = refl
eq_if false true h = refl
eq_if false false h = refl

at_eq : (n k : ℕ) → is_eq (nat_cmp n k) ≡ (n == k)
at_eq n k = eq_if (nat_lt n k) (n == k) (λ e. grind (arith, nat_tests))

spans_if : (t : Bool) (xs ys : List (ℕ × ℕ)) → spans_of (cond t xs ys) ≡ cond t (spans_of xs) (spans_of ys)
spans_if true xs ys = refl
spans_if false xs ys = refl

pub looked_up : (n : ℕ) (es : List (ℕ × ℕ)) → lookup (is_at (nat_cmp n)) es ≡ end_of n (spans_of es)
looked_up n [] = refl
looked_up n (e ∷ es) =
    ap (λ x. cond x (Some e.1) (lookup (is_at (nat_cmp n)) es)) (at_eq n e.0) ∙ ap (λ o. cond (n == e.0) (Some e.1) o) (looked_up n es)

pub removed : (n : ℕ) (es : List (ℕ × ℕ)) → spans_of (remove_entry (is_at (nat_cmp n)) es) ≡ without n (spans_of es)
removed n [] = refl
removed n (e ∷ es) =
    let rest : List (ℕ × ℕ) = remove_entry (is_at (nat_cmp n)) es in
    ap (λ x. spans_of (cond x es (e ∷ rest))) (at_eq n e.0)
    ∙ (spans_if (n == e.0) es (e ∷ rest) ∙ ap (λ zs. cond (n == e.0) (spans_of es) (span e.0 e.1 ∷ zs)) (removed n es))

pub set_is : (n last : ℕ) (es : List (ℕ × ℕ)) → spans_of (set_value (is_at (nat_cmp n)) es last) ≡ with_end n last (spans_of es)
set_is n last [] = refl
set_is n last (e ∷ es) =
    let rest : List (ℕ × ℕ) = set_value (is_at (nat_cmp n)) es last in
    ap (λ x. spans_of (cond x ((e.0, last) ∷ es) (e ∷ rest))) (at_eq n e.0)
    ∙ (spans_if (n == e.0) ((e.0, last) ∷ es) (e ∷ rest) ∙ ap (λ zs. cond (n == e.0) (span e.0 last ∷ spans_of es) (span e.0 e.1 ∷ zs)) (set_is n last es))

placed_if : (t u : Bool) (xs ys zs : List (ℕ × ℕ)) → spans_of (match_ordering (cond t Less (cond u Equal Greater)) xs ys zs) ≡ cond t (spans_of xs) (cond u (spans_of ys) (spans_of zs))
placed_if true u xs ys zs = refl
placed_if false true xs ys zs = refl
placed_if false false xs ys zs = refl

pub put_in : (n : ℕ) (es : List (ℕ × ℕ)) → spans_of (insert_entry nat_cmp es n n) ≡ with_number n (spans_of es)
put_in n [] = refl
put_in n (e ∷ es) =
    placed_if (nat_lt n e.0) (n == e.0) ((n, n) ∷ e ∷ es) ((e.0, n) ∷ es) (e ∷ insert_entry nat_cmp es n n)
    ∙ ap (λ zs. cond (nat_lt n e.0) (span n n ∷ span e.0 e.1 ∷ spans_of es) (cond (n == e.0) (span e.0 n ∷ spans_of es) (span e.0 e.1 ∷ zs))) (put_in n es)

-- ---- the entries that a search goes over

before_if : (t u : Bool) → (true && not (is_lt (cond t Less (cond u Equal Greater)))) ≡ not t
before_if true u = refl
before_if false true = refl
before_if false false = refl

before_is : (n k : ℕ) → (true && not (is_lt (nat_cmp n k))) ≡ nat_le k n
before_is n k = before_if (nat_lt n k) (n == k) ∙ grind (arith, nat_tests)

abbrev Before : ℕ → List (ℕ × ℕ) → List (ℕ × ℕ)
Before n es = filter (λ e. true && not (is_lt (nat_cmp n e.0))) es

none_if : (n : ℕ) (e : ℕ × ℕ) (es : List (ℕ × ℕ)) (t : Bool) → cond t (e ∷ Before n es) (Before n es) ≡ [] → (Before n es ≡ [] → last_from n (spans_of es) ≡ None)
    → cond t (Some (unwrap_or (last_from n (spans_of es)) (span e.0 e.1))) (last_from n (spans_of es)) ≡ None
none_if n e es true h ih = absurd cc
none_if n e es false h ih = ih h

pub none_from : (n : ℕ) (es : List (ℕ × ℕ)) → Before n es ≡ [] → last_from n (spans_of es) ≡ None
none_from n [] h = refl
none_from n (e ∷ es) h =
    ap (λ x. cond x (Some (unwrap_or (last_from n (spans_of es)) (span e.0 e.1))) (last_from n (spans_of es))) (sym (before_is n e.0))
    ∙ none_if n e es (true && not (is_lt (nat_cmp n e.0))) h (none_from n es)

found_if : (n : ℕ) (e : ℕ × ℕ) (es rest : List (ℕ × ℕ)) (k v : ℕ) (t : Bool) → cond t (e ∷ Before n es) (Before n es) ≡ rest ++ (k, v) ∷ []
    → ((xs : List (ℕ × ℕ)) → Before n es ≡ xs ++ (k, v) ∷ [] → last_from n (spans_of es) ≡ Some (span k v))
    → cond t (Some (unwrap_or (last_from n (spans_of es)) (span e.0 e.1))) (last_from n (spans_of es)) ≡ Some (span k v)
found_if n e es rest k v false h ih = ih rest h
found_if n e es [] k v true h ih =
    let same : e ≡ (k, v) = cc in
    let none : last_from n (spans_of es) ≡ None = none_from n es cc in
    ap (λ o. Some (unwrap_or o (span e.0 e.1))) none ∙ ap (λ (p : ℕ × ℕ). Some (span p.0 p.1)) same
found_if n e es (x ∷ xs) k v true h ih =
    let there : last_from n (spans_of es) ≡ Some (span k v) = ih xs cc in ap (λ o. Some (unwrap_or o (span e.0 e.1))) there

pub found_from : (n : ℕ) (es rest : List (ℕ × ℕ)) (k v : ℕ) → Before n es ≡ rest ++ (k, v) ∷ [] → last_from n (spans_of es) ≡ Some (span k v)
found_from n [] [] k v h = absurd cc
found_from n [] (x ∷ xs) k v h = absurd cc
found_from n (e ∷ es) rest k v h =
    ap (λ x. cond x (Some (unwrap_or (last_from n (spans_of es)) (span e.0 e.1))) (last_from n (spans_of es))) (sym (before_is n e.0))
    ∙ found_if n e es rest k v (true && not (is_lt (nat_cmp n e.0))) h (λ xs i. found_from n es xs k v i)

pub first_is : (es : List (ℕ × ℕ)) (k v : ℕ) → Rattle.std.proofs.Common.slice_get es 0 ≡ Some (k, v) → Some (span k v) ≡ Rattle.std.proofs.Common.slice_get (spans_of es) 0
first_is [] k v h = absurd cc
first_is (e ∷ es) k v h = let same : e ≡ (k, v) = cc in ap (λ (p : ℕ × ℕ). Some (span p.0 p.1)) (sym same)
