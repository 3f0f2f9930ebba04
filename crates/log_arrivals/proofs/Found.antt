-- The first of some contexts in which a datagram opens.
use Rattle.std.proofs.Common.{ℕ, ◌≡◌, true, false, List, [], ◌∷◌, Option, Some, None, inl, inr, refl, sym, ap, subst, ◌∙◌}
use Rattle.crypto_profile.specs.declared.keys.Context.{Context}
use Rattle.crypto_profile.specs.declared.keys.Context.TheVariants.{Startup}
use Rattle.glare_core.specs.declared.facts.Held.{Held}
use Rattle.glare_core.specs.declared.facts.Held.TheVariants.{Opening, HalfOpen, KeptAsResponder, KeptAsInitiator}
use Rattle.endpoint_model.specs.Event.{Setup, own_of}
use Rattle.endpoint_laws.specs.Contexts.{Secrets, OpensUnder, OpensFirst, inward}
use Rattle.log_packets.specs.Opening.{startup_of, IsOpened, IsFirstOpened}
use Rattle.log_packets.proofs.Opens.{one_of}
use Rattle.log_contexts.specs.declared.taking.Taking.{Taking}
use Rattle.log_contexts.specs.declared.taking.Taking.TheVariants.{Nothing, Startup as AsStartup, Attempt, Session as InThing}
use Rattle.log_contexts.specs.Taking.{contexts_in}
use Rattle.log_arrivals.specs.Contexts.{IsOpenedFirst, contexts_to, inward_to}

module _ (secrets : Secrets) (sid : ℕ) (bytes : List ℕ) where
  -- of none
  pub of_none : (plain : List ℕ) → IsOpenedFirst secrets [] sid bytes None plain
  of_none plain = record {
    yes = λ context e. absurd (let clash : None ≡ Some context = e in cc);
    no = λ context other o. absurd o;
  }

  -- of one
  pub of_one : (context : Context) (plain : List ℕ) → IsOpened secrets context sid bytes true plain → IsOpenedFirst secrets (context ∷ []) sid bytes (Some context) plain
  of_one context plain is = record {
    yes = λ other e. let same : context ≡ other = one_of context other e in
        subst (λ (c : Context). OpensFirst secrets (context ∷ []) sid bytes c plain) same (inl (refl, is.yes refl));
    no = λ found other o. elim o [
      | inl here ↦ (ap (λ (c : Context). Some c) here.0, (is.no other (subst (λ (c : Context). OpensUnder secrets c sid bytes other) (sym here.0) here.1)).1)
      | inr later ↦ absurd later.1
    ];
  }

  pub not_of_one : (context : Context) (plain : List ℕ) → IsOpened secrets context sid bytes false plain → IsOpenedFirst secrets (context ∷ []) sid bytes None plain
  not_of_one context plain is = record {
    yes = λ other e. absurd (let clash : None ≡ Some other = e in cc);
    no = λ found other o. elim o [
      | inl here ↦ absurd (let clash : false ≡ true = (is.no other (subst (λ (c : Context). OpensUnder secrets c sid bytes other) (sym here.0) here.1)).0 in cc)
      | inr later ↦ absurd later.1
    ];
  }

  -- of startup
  pub of_startup : (current : ℕ) (next : Option ℕ) (generation : ℕ) (plain : List ℕ) → IsFirstOpened secrets current next sid bytes (Some generation) plain →
      IsOpenedFirst secrets (startup_of current next) sid bytes (Some (Startup generation)) plain
  of_startup current next generation plain is = record {
    yes = λ context e. subst (λ (c : Context). OpensFirst secrets (startup_of current next) sid bytes c plain) (one_of (Startup generation) context e) (is.yes generation refl);
    no = λ context other o. let t = is.no context other o in
        (ap (λ (g : ℕ). Some (Startup g)) (one_of generation t.0 t.2) ∙ ap (λ (c : Context). Some c) (sym t.1), t.3);
  }

  pub not_of_startup : (current : ℕ) (next : Option ℕ) (plain : List ℕ) → IsFirstOpened secrets current next sid bytes None plain → IsOpenedFirst secrets (startup_of current next) sid bytes None plain
  not_of_startup current next plain is = record {
    yes = λ context e. absurd (let clash : None ≡ Some context = e in cc);
    no = λ context other o. let t = is.no context other o in absurd (let clash : None ≡ Some t.0 = t.2 in cc);
  }

-- ---- the contexts, by the fingerprint of the end alone

inward_is : (setup : Setup) (generation : ℕ) (thing : Held) → inward_to (own_of setup) generation thing ≡ inward setup generation thing
inward_is setup generation (Opening n near ni) = refl
inward_is setup generation (HalfOpen j) = refl
inward_is setup generation (KeptAsResponder j) = refl
inward_is setup generation (KeptAsInitiator j) = refl

pub contexts_are : (setup : Setup) (taking : Taking) → contexts_to (own_of setup) taking ≡ contexts_in setup taking
contexts_are setup Nothing = refl
contexts_are setup (AsStartup current next) = refl
contexts_are setup (Attempt generation) = refl
contexts_are setup (InThing thing generation) = ap (λ (c : Context). c ∷ []) (inward_is setup generation thing)
