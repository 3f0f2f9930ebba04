-- Each generation below the bound has its secret, and no other has one.
use Rattle.std.proofs.Common.{ℕ, zero, suc, ◌≡◌, ◌≢◌, ◌<◌, ◌≤◌, Some, None, sym, ap, ◌∙◌, inl, inr, arith}
use Rattle.std.specs.Ordering.{nat_cmp}
use Rattle.std.specs.FinMap.{get, insert, get-empty}
use Rattle.rtmfp_base.proofs.Maps.{same_or_not, get_inserted, get_beside}
use Rattle.counted_secrets.specs.Secrets.{counted_secret, secrets_below}

pub known_below : (bound generation : ℕ) → generation < bound → get (secrets_below bound) generation ≡ Some (counted_secret generation)
unfolding secrets_below
known_below zero generation less = absurd (omega (arith, less))
known_below (suc bound) generation less = elim (same_or_not generation bound) [
  | inl is ↦ ap (get (insert (secrets_below bound) bound (counted_secret bound))) is.0
      ∙ get_inserted (secrets_below bound) bound (counted_secret bound) ∙ ap (λ (n : ℕ). Some (counted_secret n)) (sym is.0)
  | inr is ↦ get_beside (secrets_below bound) bound (counted_secret bound) generation is.0
      ∙ known_below bound generation (let other : generation ≢ bound = is.0 in omega (arith, other, less))
]

pub none_above : (bound generation : ℕ) → bound ≤ generation → get (secrets_below bound) generation ≡ None
unfolding secrets_below
none_above zero generation least = get-empty nat_cmp generation
none_above (suc bound) generation least =
    get_beside (secrets_below bound) bound (counted_secret bound) generation (λ is. absurd (omega (arith, is, least)))
    ∙ none_above bound generation (omega (arith, least))
