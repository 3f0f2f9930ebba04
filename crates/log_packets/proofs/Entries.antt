-- The secrets of the entries of a hashed map.
use Rattle.std.proofs.Common.{ℕ, ◌≡◌, ◌==◌, Bool, true, false, cond, List, [], ◌∷◌, Option, Some, None, refl, sym, ap, ◌∙◌, arith}
use Rattle.std.specs.Ordering.{nat_cmp, eq_by_cmp}
use Rattle.std.specs.Cmp.{nat_cmp_total}
use Rattle.std.specs.Borrow.{Bor}
use Rattle.std.specs.Option.{option_copied}
use Rattle.std.specs.Prelude.{IfSome, IfNone}
use Rattle.std.specs.Map.{lookup}
use Rattle.std.specs.HashMap.{HashMap, Updates}
use Rattle.std.specs.FinMap.{get, insert, get-insert}
use Rattle.std.proofs.lemmas.Bool.Decides.{nat_tests}
use Rattle.rtmfp_base.proofs.Maps.{same_tables}
use Rattle.keyed_slab.proofs.KeyMaps.{get_keys}
use Rattle.crypto_profile.specs.declared.group.GroupSecret.{GroupSecret}
use Rattle.endpoint_laws.specs.Contexts.{Secrets}
use Rattle.log_packets.specs.Secrets.{plain_entries, secrets_of, AreNumbered}

abbrev same : ℕ → ℕ → Bool
same a b = a == b

tests_alike : (a b : ℕ) → eq_by_cmp nat_cmp a b ≡ (b == a)
tests_alike a b = grind (arith, nat_tests)

abbrev pub plain_secret : Option GroupSecret → Option (List ℕ)
plain_secret None = None
plain_secret (Some group) = Some group.secret

plain_of : (b : Bool) (group : GroupSecret) (o : Option GroupSecret) → cond b (Some group.secret) (plain_secret o) ≡ plain_secret (cond b (Some group) o)
plain_of true group o = refl
plain_of false group o = refl

found_plain : (q : ℕ) (es : List (ℕ × GroupSecret)) → lookup (same q) (plain_entries es) ≡ plain_secret (lookup (same q) es)
found_plain q [] = refl
found_plain q (e ∷ es) = ap (cond (q == e.0) (Some e.1.secret)) (found_plain q es) ∙ plain_of (q == e.0) e.1 (lookup (same q) es)

-- what the map has
pub secret_found : (es : List (ℕ × GroupSecret)) (q : ℕ) → get (secrets_of es) q ≡ plain_secret (lookup (same q) es)
secret_found es q = get_keys (plain_entries es) q ∙ found_plain q es

which : (b : Bool) (g group : GroupSecret) (o : Option GroupSecret) (k q : ℕ) → (k == q) ≡ b → g.generation ≡ k → (o ≡ Some group → group.generation ≡ q) → cond b (Some g) o ≡ Some group → group.generation ≡ q
which true g group o k q is number before e =
    let here : k ≡ q = grind (arith, nat_tests) in
    ap (λ (s : Option GroupSecret). generation_or q s) (sym e) ∙ number ∙ here
  where
    generation_or : ℕ → Option GroupSecret → ℕ
    generation_or n None = n
    generation_or n (Some s) = s.generation
which false g group o k q is number before e = before e

module _ {S : Type 0} (m n : HashMap ℕ GroupSecret S) (k : ℕ) (group : GroupSecret) (updates : Updates same m n k (Some group)) where
  pub secret_put : secrets_of n.entries ≡ insert (secrets_of m.entries) k group.secret
  secret_put = same_tables (secrets_of n.entries) (insert (secrets_of m.entries) k group.secret) (λ q.
      secret_found n.entries q ∙ ap plain_secret (updates.0 q) ∙ sym (plain_of (k == q) group (lookup (same q) m.entries))
      ∙ ap (cond (k == q) (Some group.secret)) (sym (secret_found m.entries q))
      ∙ sym (get-insert nat_cmp_total (secrets_of m.entries) k group.secret q ∙ ap (λ b. cond b (Some group.secret) (get (secrets_of m.entries) q)) (tests_alike q k)))

  pub still_numbered : AreNumbered m.entries → group.generation ≡ k → AreNumbered n.entries
  still_numbered are number = record {
    number = λ q g e. which (k == q) group g (lookup (same q) m.entries) k q refl number (are.number q g) (sym (updates.0 q) ∙ e);
  }

-- ---- what a look at the map finds

found_some : (r : Option (Bor GroupSecret)) (o : Option (List ℕ)) → o ≡ plain_secret (option_copied r) → IfSome r (λ group. o ≡ Some group.now.secret)
found_some None o e = tt
found_some (Some group) o e = e

found_none : (r : Option (Bor GroupSecret)) (o : Option (List ℕ)) → o ≡ plain_secret (option_copied r) → IfNone r (o ≡ None)
found_none None o e = e
found_none (Some group) o e = tt

found_number : (r : Option (Bor GroupSecret)) (q : ℕ) → ((group : GroupSecret) → option_copied r ≡ Some group → group.generation ≡ q) → IfSome r (λ group. group.now.generation ≡ q)
found_number None q number = tt
found_number (Some group) q number = number group.now refl

module _ (es : List (ℕ × GroupSecret)) (view : Secrets) (q : ℕ) (r : Option (Bor GroupSecret)) (is : secrets_of es ≡ view) (found : option_copied r ≡ lookup (same q) es) where
  in_view : get view q ≡ plain_secret (option_copied r)
  in_view = ap (λ (s : Secrets). get s q) (sym is) ∙ secret_found es q ∙ ap plain_secret (sym found)

  pub get_some : IfSome r (λ group. get view q ≡ Some group.now.secret)
  get_some = found_some r (get view q) in_view

  pub get_none : IfNone r (get view q ≡ None)
  get_none = found_none r (get view q) in_view

  pub get_number : AreNumbered es → IfSome r (λ group. group.now.generation ≡ q)
  get_number are = found_number r q (λ group e. are.number q group (sym found ∙ e))
