-- How many values of a finite map pass a test, when one is put, changed or taken away: each that passes weighs one.
use Rattle.std.proofs.Common.{ℕ, ◌≡◌, ◌+◌, Bool, true, false, cond, Some, sym, ap, ◌∙◌, arith}
use Rattle.std.specs.Ordering.{nat_cmp}
use Rattle.std.specs.FinMap.{FinMap, get, insert, remove}
use Rattle.rtmfp_base.specs.Counts.{count_where}
use Rattle.rtmfp_base.proofs.Weights.{sum_removed, sum_changed}

module _ {V : Type 0} (test : V → Bool) where
  abbrev one_where : V → ℕ
  one_where v = cond (test v) 1 0

  -- a value that passes is taken away
  pub count_removed : (m : FinMap nat_cmp V) (k : ℕ) (v : V) → get m k ≡ Some v → test v ≡ true → count_where test (remove m k) + 1 ≡ count_where test m
  count_removed m k v there good = ap (λ b. count_where test (remove m k) + cond b 1 0) (sym good) ∙ sum_removed one_where m k v there

  -- one that passes is put in place of it, or one that doesn't
  pub count_changed : (m : FinMap nat_cmp V) (k : ℕ) (v w : V) → get m k ≡ Some v → test v ≡ true → test w ≡ false → count_where test (insert m k w) + 1 ≡ count_where test m
  count_changed m k v w there good bad =
      ap (λ b. count_where test (insert m k w) + cond b 1 0) (sym good) ∙ sum_changed one_where m k v w there ∙ ap (λ b. count_where test m + cond b 1 0) bad ∙ nothing_more (count_where test m)
    where
      nothing_more : (n : ℕ) → n + 0 ≡ n
      nothing_more n = omega arith
