-- The secrets of a group in each generation.
use Rattle.std.proofs.Common.{ℕ, ◌≡◌, ◌<◌, ◌^◌, List, Option, Some, None, sym, ap, ◌∙◌, arith}
use Rattle.std.specs.Ordering.{nat_cmp}
use Rattle.std.specs.FinMap.{get, insert, empty, get-empty}
use Rattle.rtmfp_base.proofs.Maps.{get_inserted, get_beside}
use Rattle.counted_secrets.specs.Secrets.{counted_secret}
use Rattle.counted_secrets.proofs.Counted.{known_below}
use Rattle.rtmfp_report.specs.declared.group_secrets.GroupSecrets.{GroupSecrets}
use Rattle.rtmfp_report.specs.declared.group_secrets.GroupSecrets.TheVariants.{Counted, Given}
use Rattle.rtmfp_report.specs.KeptKeys.{given_secrets, secrets_in}

pub counted_is : (s : GroupSecrets) (generation : ℕ) (secret : List ℕ) → s ≡ Counted → generation < 2 ^ 64 → secret ≡ counted_secret generation → Some secret ≡ get (secrets_in s) generation
counted_is s generation secret is less same =
    ap (λ (x : List ℕ). Some x) same ∙ sym (known_below (2 ^ 64) generation less)
    ∙ ap (λ (g : GroupSecrets). get (secrets_in g) generation) (sym is)

first_at : (first : List ℕ) (next : Option (List ℕ)) → get (given_secrets first next) 0 ≡ Some first
first_at first None = get_inserted empty 0 first
first_at first (Some next) = get_beside (insert empty 0 first) 1 next 0 (λ is. absurd (omega (arith, is))) ∙ get_inserted empty 0 first

next_at : (first : List ℕ) (next : Option (List ℕ)) → get (given_secrets first next) 1 ≡ next
next_at first None = get_beside empty 0 first 1 (λ is. absurd (omega (arith, is))) ∙ get-empty nat_cmp 1
next_at first (Some next) = get_inserted (insert empty 0 first) 1 next

none_at : (first : List ℕ) (next : Option (List ℕ)) (generation : ℕ) → (generation ≡ 0 → ⊥) → (generation ≡ 1 → ⊥) → get (given_secrets first next) generation ≡ None
none_at first None generation not_0 not_1 = get_beside empty 0 first generation not_0 ∙ get-empty nat_cmp generation
none_at first (Some next) generation not_0 not_1 =
    get_beside (insert empty 0 first) 1 next generation not_1 ∙ get_beside empty 0 first generation not_0 ∙ get-empty nat_cmp generation

module _ (s : GroupSecrets) (first : List ℕ) (next : Option (List ℕ)) (generation : ℕ) (is : s ≡ Given first next) where
  found : (o : Option (List ℕ)) → get (given_secrets first next) generation ≡ o → o ≡ get (secrets_in s) generation
  found o e = sym e ∙ ap (λ (g : GroupSecrets). get (secrets_in g) generation) (sym is)

  pub first_is : generation ≡ 0 → Some first ≡ get (secrets_in s) generation
  first_is at = found (Some first) (ap (get (given_secrets first next)) at ∙ first_at first next)

  pub next_is : generation ≡ 1 → next ≡ get (secrets_in s) generation
  next_is at = found next (ap (get (given_secrets first next)) at ∙ next_at first next)

  pub none_is : (generation ≡ 0 → ⊥) → (generation ≡ 1 → ⊥) → None ≡ get (secrets_in s) generation
  none_is not_0 not_1 = found None (none_at first next generation not_0 not_1)
