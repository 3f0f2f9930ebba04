-- Parts of lists.
use Rattle.std.proofs.Common.{◌≡◌, ℕ, List, ◌++◌, length, drop, sym, ap, ◌∙◌}
use Rattle.std.proofs.Math.Seq.{drop-append_seam}

-- what follows a front of this length
pub past_front : {A : Type 0} (n : ℕ) (front back : List A) → length front ≡ n → drop n (front ++ back) ≡ back
past_front n front back h = ap (λ m. drop m (front ++ back)) (sym h) ∙ drop-append_seam front back
