-- Where a datagram of session ID 0 opens, by the generations in which it does.
use Rattle.std.proofs.Common.{ℕ, ◌≡◌, List, [], ◌∷◌, Option, Some, None, inl, inr, refl, sym, ap, subst}
use Rattle.crypto_profile.specs.declared.keys.Context.{Context}
use Rattle.crypto_profile.specs.declared.keys.Context.TheVariants.{Startup}
use Rattle.endpoint_laws.specs.Contexts.{Secrets, OpensUnder, OpensFirst}
use Rattle.log_arrivals.specs.declared.arrival.Arrival.TheVariants.{Nowhere, Startup as InStartup}
use Rattle.log_arrivals.specs.Contexts.{IsOpenedFirst, arrival_of}

module _ (secrets : Secrets) (sid : ℕ) (bytes : List ℕ) where
  -- in the first one
  pub in_first : (generation : ℕ) (later : List Context) (found : Option Context) (plain other : List ℕ) → OpensUnder secrets (Startup generation) sid bytes other →
      IsOpenedFirst secrets (Startup generation ∷ later) sid bytes found plain → arrival_of found ≡ InStartup generation
  in_first generation later found plain other o is = ap arrival_of (is.no (Startup generation) other (inl (refl, o))).0

  -- in the second one
  pub in_second : (first generation : ℕ) (found : Option Context) (plain other : List ℕ) → ((p : List ℕ) → OpensUnder secrets (Startup first) sid bytes p → ⊥) → OpensUnder secrets (Startup generation) sid bytes other →
      IsOpenedFirst secrets (Startup first ∷ Startup generation ∷ []) sid bytes found plain → arrival_of found ≡ InStartup generation
  in_second first generation found plain other never o is = ap arrival_of (is.no (Startup generation) other (inr (never, inl (refl, o)))).0

  -- in none
  pub in_none : (contexts : List Context) (found : Option Context) (plain : List ℕ) → ((context : Context) → OpensFirst secrets contexts sid bytes context plain → ⊥) →
      IsOpenedFirst secrets contexts sid bytes found plain → arrival_of found ≡ Nowhere
  in_none contexts None plain never is = refl
  in_none contexts (Some context) plain never is = absurd (never context (is.yes context refl))

  pub not_in_one : (first : ℕ) (plain : List ℕ) → ((p : List ℕ) → OpensUnder secrets (Startup first) sid bytes p → ⊥) → (context : Context) → OpensFirst secrets (Startup first ∷ []) sid bytes context plain → ⊥
  not_in_one first plain never context (inl here) = never plain (subst (λ (c : Context). OpensUnder secrets c sid bytes plain) (sym here.0) here.1)
  not_in_one first plain never context (inr later) = later.1

  pub not_in_two : (first second : ℕ) (plain : List ℕ) → ((p : List ℕ) → OpensUnder secrets (Startup first) sid bytes p → ⊥) → ((p : List ℕ) → OpensUnder secrets (Startup second) sid bytes p → ⊥) →
      (context : Context) → OpensFirst secrets (Startup first ∷ Startup second ∷ []) sid bytes context plain → ⊥
  not_in_two first second plain never also context (inl here) = never plain (subst (λ (c : Context). OpensUnder secrets c sid bytes plain) (sym here.0) here.1)
  not_in_two first second plain never also context (inr later) = not_in_one second plain also context later.1
