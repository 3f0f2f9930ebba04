-- What a range of a map of runs finds.
use Rattle.std.proofs.Common.{◌≡◌, ℕ, ◌≤◌, List, [], ◌∷◌, ◌++◌, Some, None, refl, ap, sym, ◌∙◌, subst, arith, inl, inr}
use Rattle.std.specs.Prelude.{IfSome, IsSome}
use Rattle.std.specs.Ordering.{nat_cmp, is_gt}
use Rattle.std.specs.declared.ops.Bound.{Bound}
use Rattle.std.specs.declared.ops.Bound.TheVariants.{Included, Excluded, Unbounded}
use Rattle.std.specs.List.{slice_get}
use Rattle.std.specs.Map.{lookup}
use Rattle.std.specs.BTreeMap.{BTreeMap}
use Rattle.std.specs.BTreeMap.Range.{IsRangeOf, IsEntryInRange, IsFromStart, IsLeBy}
use Rattle.std.proofs.lemmas.Map.Keys.{le_from_not_gt, ge_from_not_lt}
use Rattle.std.proofs.lemmas.Bool.{cases_lt}
use Rattle.rtmfp_data_chunks.specs.Runs.{Run}
use Rattle.flow_recv.specs.Keyed.{run_at, keyed, IsFirstFrom, IsLastBelow}
use Rattle.rtmfp_data_chunks.proofs.Keys.{less_lt, lt_less, eq_equal, is_key}
use Rattle.flow_recv.proofs.Keeping.{lookup_keyed}

pub get_is : (q : ℕ) (es : List (ℕ × Run)) (runs : List Run) → es ≡ keyed runs → lookup (is_key q) es ≡ run_at q runs
get_is q es runs e = ap (λ ds. lookup (is_key q) ds) e ∙ lookup_keyed q runs

pub from_le : (n q : ℕ) → n ≤ q → IsFromStart nat_cmp (Included n) q
from_le n q le = elim (cases_lt n q) [
  | inl lt ↦ ap is_gt (lt_less n q lt)
  | inr ge ↦ ap is_gt (eq_equal n q (omega (arith, le, ge)))
]

pub first_in : (n : ℕ) (lo : Bound ℕ) (m : BTreeMap ℕ Run) (runs : List Run) (r rest : List (ℕ × Run)) (k : ℕ) (y : Run) → m.entries ≡ keyed runs → IsRangeOf nat_cmp lo Unbounded m r → r ≡ (k, y) ∷ rest
    → ((q : ℕ) → n ≤ q → IsFromStart nat_cmp lo q) → (IsFromStart nat_cmp lo k → n ≤ k) → IsFirstFrom n runs (Some k)
first_in n lo m runs r rest k y e h s to back =
    let here : IsEntryInRange nat_cmp lo Unbounded m (k, y) = subst (λ es. IfSome (slice_get es 0) (IsEntryInRange nat_cmp lo Unbounded m)) s h.1 in
    let found : run_at k runs ≡ Some y = sym (get_is k m.entries runs e) ∙ here.1 in (
      back here.0.0,
      subst IsSome (sym found) refl,
      λ q le i. le_from_not_gt k q (subst (λ (es : List (ℕ × Run)). IfSome (slice_get es 0) (λ x. IsLeBy nat_cmp x.0 q)) s (h.2 q (to q le, tt) (subst IsSome (sym (get_is q m.entries runs e)) i))),
    )

pub none_in : (n : ℕ) (lo : Bound ℕ) (m : BTreeMap ℕ Run) (runs : List Run) (r : List (ℕ × Run)) → m.entries ≡ keyed runs → IsRangeOf nat_cmp lo Unbounded m r → r ≡ []
    → ((q : ℕ) → n ≤ q → IsFromStart nat_cmp lo q) → IsFirstFrom n runs None
none_in n lo m runs r e h s to = λ q le. sym (get_is q m.entries runs e) ∙ h.5 s q (to q le, tt)

pub last_in : (n : ℕ) (m : BTreeMap ℕ Run) (runs : List Run) (r rest : List (ℕ × Run)) (k : ℕ) (y : Run) → m.entries ≡ keyed runs → IsRangeOf nat_cmp Unbounded (Excluded n) m r → r ≡ rest ++ (k, y) ∷ []
    → IsLastBelow n runs (Some k)
last_in n m runs r rest k y e h s =
    let here : IsEntryInRange nat_cmp Unbounded (Excluded n) m (k, y) = h.3 (k, y) rest s in
    let found : run_at k runs ≡ Some y = sym (get_is k m.entries runs e) ∙ here.1 in (
      less_lt k n here.0.1,
      subst IsSome (sym found) refl,
      λ q lt i. ge_from_not_lt k q (h.4 (k, y) rest s q (tt, lt_less q n lt) (subst IsSome (sym (get_is q m.entries runs e)) i)),
    )

pub none_below : (n : ℕ) (m : BTreeMap ℕ Run) (runs : List Run) (r : List (ℕ × Run)) → m.entries ≡ keyed runs → IsRangeOf nat_cmp Unbounded (Excluded n) m r → r ≡ [] → IsLastBelow n runs None
none_below n m runs r e h s = λ q lt. sym (get_is q m.entries runs e) ∙ h.5 s q (tt, lt_less q n lt)
