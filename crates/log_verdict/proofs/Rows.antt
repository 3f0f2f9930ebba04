-- Short audits, check by check.
use Rattle.std.proofs.Common.{ℕ, List, [], ◌∷◌, ◌≡◌, ◌∙◌, refl, sym, subst, Option, Some, None, inl, inr}
use Rattle.std.specs.FinMap.{empty, get, get-empty}
use Rattle.std.specs.Ordering.{nat_cmp}
use Rattle.rtmfp_base.proofs.Maps.{get_inserted, get_beside}
use Rattle.glare_core.specs.Steps.{Among}
use Rattle.endpoint_model.specs.Event.{own_of}
use Rattle.endpoint_laws.specs.Contexts.{Secrets}
use Rattle.log_packets.specs.Secrets.{added_to, with_secret}
use Rattle.log_verdict.specs.declared.verdict.AuditFault.TheVariants.{Secrets as ForSecrets, NotFresh}
use Rattle.log_verdict.specs.Told.{secrets_in}
use Rattle.log_verdict.specs.Checks.{found, AllPass, FailsFirst}
use Rattle.log_verdict.specs.Edges.{end, learns, quiet}

-- ---- the map

abbrev pub no_secrets : Secrets
no_secrets = empty

none_there : (generation : ℕ) → get no_secrets generation ≡ None
none_there generation = get-empty {X = List ℕ} nat_cmp generation

-- a number that has none gets this one
pub put_first : (secrets : Secrets) (generation : ℕ) (secret : List ℕ) → get secrets generation ≡ None → get (with_secret generation secret secrets) generation ≡ Some secret
put_first secrets generation secret none = rw none (get_inserted secrets generation secret)

-- what counts goes on counting
pub kept_first : (secrets : Secrets) (generation : ℕ) (secret : List ℕ) (number : ℕ) (first : List ℕ) → get secrets number ≡ Some first → get (with_secret generation secret secrets) number ≡ Some first
kept_first secrets generation secret number first there = go (get secrets generation) refl
  where
    go : (o : Option (List ℕ)) → get secrets generation ≡ o → get (added_to o generation secret secrets) number ≡ Some first
    go None new = get_beside secrets generation secret number (λ same. let known = subst (λ (k : ℕ). get secrets k ≡ Some first) same there in cc) ∙ there
    go (Some known) old = there

none_beside : (secrets : Secrets) (generation : ℕ) (secret : List ℕ) (number : ℕ) → (number ≡ generation → ⊥) → get secrets number ≡ None → get (with_secret generation secret secrets) number ≡ None
none_beside secrets generation secret number other none = go (get secrets generation)
  where
    go : (o : Option (List ℕ)) → get (added_to o generation secret secrets) number ≡ None
    go None = get_beside secrets generation secret number other ∙ none
    go (Some known) = none

pub one : (generation : ℕ) (secret : List ℕ) → get (with_secret generation secret no_secrets) generation ≡ Some secret
one generation secret = put_first no_secrets generation secret (none_there generation)

pub two : (generation : ℕ) (first second : List ℕ) → get (with_secret generation second (with_secret generation first no_secrets)) generation ≡ Some first
two generation first second = kept_first (with_secret generation first no_secrets) generation second generation first (one generation first)

pub beside : (generation number : ℕ) (first second : List ℕ) → (number ≡ generation → ⊥) → get (with_secret number second (with_secret generation first no_secrets)) number ≡ Some second
beside generation number first second other = put_first (with_secret generation first no_secrets) number second (none_beside no_secrets generation first number other (none_there number))

pub neither : (generation number : ℕ) (first : List ℕ) → (number ≡ generation → ⊥) → get (with_secret generation first no_secrets) number ≡ None
neither generation number first other = none_beside no_secrets generation first number other (none_there number)

-- ---- the rows

pub one_passes : AllPass (end 1 0 7 ∷ []) []
one_passes = ((one 0 (7 ∷ []), (λ a. a), tt), tt)

pub two_pass : (own_of (end 1 0 7) ≡ own_of (end 2 0 7) → ⊥) → AllPass (end 1 0 7 ∷ end 2 0 7 ∷ []) []
two_pass apart = ((two 0 (7 ∷ []) (7 ∷ []), (λ a. a), (two 0 (7 ∷ []) (7 ∷ []), alone, tt)), tt)
  where
    alone : Among (own_of (end 2 0 7)) (own_of (end 1 0 7) ∷ []) → ⊥
    alone (inl same) = apart (sym same)
    alone (inr none) = none

pub secret_fails : FailsFirst (end 1 0 7 ∷ end 2 0 8 ∷ []) [] (found 0 2 ForSecrets)
secret_fails = inl (inr (two 0 (7 ∷ []) (8 ∷ []), inr ((λ a. a), inl ((λ e. differs e), refl))))
  where
    differs : get (secrets_in (end 1 0 7 ∷ end 2 0 8 ∷ []) []) 0 ≡ Some (8 ∷ []) → ⊥
    differs e = let f = two 0 (7 ∷ []) (8 ∷ []) in absurd cc

pub both_fail : FailsFirst (end 1 0 7 ∷ end 1 0 8 ∷ []) [] (found 0 2 ForSecrets)
both_fail = inl (inr (two 0 (7 ∷ []) (8 ∷ []), inr ((λ a. a), inl ((λ e. differs e), refl))))
  where
    differs : get (secrets_in (end 1 0 7 ∷ end 1 0 8 ∷ []) []) 0 ≡ Some (8 ∷ []) → ⊥
    differs e = let f = two 0 (7 ∷ []) (8 ∷ []) in absurd cc

pub print_fails : FailsFirst (end 1 0 7 ∷ end 1 0 7 ∷ []) [] (found 0 2 NotFresh)
print_fails = inl (inr (two 0 (7 ∷ []) (7 ∷ []), inr ((λ a. a), inr (two 0 (7 ∷ []) (7 ∷ []), inl ((λ new. new (inl refl)), refl)))))

pub earlier_fails : FailsFirst (end 1 0 7 ∷ end 1 0 7 ∷ end 2 0 8 ∷ []) [] (found 0 2 NotFresh)
earlier_fails = inl (inr (three, inr ((λ a. a), inr (three, inl ((λ new. new (inl refl)), refl)))))
  where
    three : get (secrets_in (end 1 0 7 ∷ end 1 0 7 ∷ end 2 0 8 ∷ []) []) 0 ≡ Some (7 ∷ [])
    three = kept_first (with_secret 0 (7 ∷ []) (with_secret 0 (7 ∷ []) no_secrets)) 0 (8 ∷ []) 0 (7 ∷ []) (two 0 (7 ∷ []) (7 ∷ []))

pub learn_fails : FailsFirst (end 1 1 7 ∷ []) (learns 0 1 9 ∷ []) (found 1 0 ForSecrets)
learn_fails = inr ((two 1 (7 ∷ []) (9 ∷ []), (λ a. a), tt), inr (tt, inl ((λ counts. differs counts.0), refl)))
  where
    differs : get (secrets_in (end 1 1 7 ∷ []) (learns 0 1 9 ∷ [])) 1 ≡ Some (9 ∷ []) → ⊥
    differs e = let f = two 1 (7 ∷ []) (9 ∷ []) in absurd cc

pub later_fails : FailsFirst (end 1 1 7 ∷ []) (learns 0 1 9 ∷ quiet 0 ∷ []) (found 2 0 ForSecrets)
later_fails = inr ((two 1 (7 ∷ []) (9 ∷ []), (λ a. a), tt), inr ((tt, (tt, tt, tt)), inl ((λ counts. differs counts.0), refl)))
  where
    differs : get (secrets_in (end 1 1 7 ∷ []) (learns 0 1 9 ∷ quiet 0 ∷ [])) 1 ≡ Some (9 ∷ []) → ⊥
    differs e = let f = two 1 (7 ∷ []) (9 ∷ []) in absurd cc
