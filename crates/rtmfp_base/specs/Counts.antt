-- How many values of a finite map pass a test.
use Rattle.std.specs.Prelude.{ℕ, Bool}
use Rattle.std.specs.Ordering.{nat_cmp}
use Rattle.std.specs.List.{count_by}
use Rattle.std.specs.FinMap.{FinMap, entries}

abbrev pub count_where : {V : Type 0} → (V → Bool) → FinMap nat_cmp V → ℕ
count_where test m = count_by (λ e. test e.1) (entries m)
