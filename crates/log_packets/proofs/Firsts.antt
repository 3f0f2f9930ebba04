-- The first context in which a datagram opens.
use Rattle.std.proofs.Common.{ℕ, ◌≡◌, Bool, true, false, List, Option, Some, None, Result, Ok, Err, inl, inr, refl, sym, ap, subst, arith}
use Rattle.std.specs.Prelude.{IfOk}
use Rattle.crypto_profile.specs.declared.keys.Context.{Context}
use Rattle.crypto_profile.specs.declared.keys.Context.TheVariants.{Startup}
use Rattle.endpoint_laws.specs.Contexts.{Secrets, generation_of, OpensUnder, OpensFirst, next_contexts}
use Rattle.log_packets.specs.Opening.{startup_of, IsOpened, IsFirstOpened, IsOpenedIn}
use Rattle.log_packets.proofs.Opens.{one_of}

module _ (secrets : Secrets) (sid : ℕ) (bytes : List ℕ) where
  -- ---- of this generation alone

  pub in_none : (plain : List ℕ) → IsOpenedIn secrets None sid bytes None plain
  in_none plain = record {
    yes = λ generation e. absurd (let clash : None ≡ Some generation = e in cc);
    no = λ context other o. absurd o;
  }

  pub in_next : (generation : ℕ) (plain : List ℕ) → IsOpened secrets (Startup generation) sid bytes true plain → IsOpenedIn secrets (Some generation) sid bytes (Some generation) plain
  in_next generation plain is = record {
    yes = λ g e. let same : generation ≡ g = one_of generation g e in
        subst (λ (n : ℕ). OpensFirst secrets (next_contexts (Some generation)) sid bytes (Startup n) plain) same (inl (refl, is.yes refl));
    no = λ context other o. elim o [
      | inl here ↦ (generation, sym here.0, refl, (is.no other (subst (λ (c : Context). OpensUnder secrets c sid bytes other) (sym here.0) here.1)).1)
      | inr later ↦ absurd later.1
    ];
  }

  pub not_next : (generation : ℕ) (before plain : List ℕ) → IsOpened secrets (Startup generation) sid bytes false before → IsOpenedIn secrets (Some generation) sid bytes None plain
  not_next generation before plain is = record {
    yes = λ g e. absurd (let clash : None ≡ Some g = e in cc);
    no = λ context other o. elim o [
      | inl here ↦ absurd (let clash : false ≡ true = (is.no other (subst (λ (c : Context). OpensUnder secrets c sid bytes other) (sym here.0) here.1)).0 in cc)
      | inr later ↦ absurd later.1
    ];
  }

  -- ---- of the current one first

  pub in_current : (current : ℕ) (next : Option ℕ) (plain : List ℕ) → IsOpened secrets (Startup current) sid bytes true plain → IsFirstOpened secrets current next sid bytes (Some current) plain
  in_current current next plain is = record {
    yes = λ g e. let same : current ≡ g = one_of current g e in
        subst (λ (n : ℕ). OpensFirst secrets (startup_of current next) sid bytes (Startup n) plain) same (inl (refl, is.yes refl));
    no = λ context other o. elim o [
      | inl here ↦ (current, sym here.0, refl, (is.no other (subst (λ (c : Context). OpensUnder secrets c sid bytes other) (sym here.0) here.1)).1)
      | inr later ↦ absurd (later.0 plain (is.yes refl))
    ];
  }

  in_later : (current : ℕ) (next found : Option ℕ) (before plain : List ℕ) → IsOpened secrets (Startup current) sid bytes false before → IsOpenedIn secrets next sid bytes found plain → IsFirstOpened secrets current next sid bytes found plain
  in_later current next found before plain not_here is = record {
    yes = λ g e. inr ((λ other o. (let clash : false ≡ true = (not_here.no other o).0 in cc)), is.yes g e);
    no = λ context other o. elim o [
      | inl here ↦ absurd (let clash : false ≡ true = (not_here.no other (subst (λ (c : Context). OpensUnder secrets c sid bytes other) (sym here.0) here.1)).0 in cc)
      | inr later ↦ is.no context other later.1
    ];
  }

  pub else_next : {E : Type 0} (current : ℕ) (next : Option ℕ) (before plain : List ℕ) (r : Result (Option ℕ) E) → IsOpened secrets (Startup current) sid bytes false before → IfOk r (λ found. IsOpenedIn secrets next sid bytes found plain) →
      IfOk r (λ found. IsFirstOpened secrets current next sid bytes found plain)
  else_next current next before plain (Ok found) not_here is = in_later current next found before plain not_here is
  else_next current next before plain (Err e) not_here is = tt

  -- an answer that was tested
  pub tested : (context : Context) (plain : List ℕ) (opens b : Bool) → opens ≡ b → IsOpened secrets context sid bytes opens plain → IsOpened secrets context sid bytes b plain
  tested context plain opens b e is = subst (λ (o : Bool). IsOpened secrets context sid bytes o plain) e is

  pub in_the_next : (next : Option ℕ) (generation : ℕ) (found : Option ℕ) (plain : List ℕ) → next ≡ Some generation → IsOpenedIn secrets (Some generation) sid bytes found plain → IsOpenedIn secrets next sid bytes found plain
  in_the_next next generation found plain e is = subst (λ (n : Option ℕ). IsOpenedIn secrets n sid bytes found plain) (sym e) is

  -- ---- one that opens in generation 7

  apart : ◌≡◌ {A = Context} (Startup 7) (Startup 8) → ⊥
  apart e = let same : 7 ≡ 8 = ap generation_of e in absurd (omega (arith, same))

  pub first_stands : (plain : List ℕ) → OpensUnder secrets (Startup 7) sid bytes plain → OpensFirst secrets (startup_of 7 (Some 8)) sid bytes (Startup 7) plain
  first_stands plain opens = inl (refl, opens)

  pub next_never : (plain other : List ℕ) → OpensUnder secrets (Startup 7) sid bytes plain → OpensFirst secrets (startup_of 7 (Some 8)) sid bytes (Startup 8) other → ⊥
  next_never plain other opens first = elim first [
    | inl here ↦ apart here.0
    | inr later ↦ later.0 plain opens
  ]

  pub alone_never : (other : List ℕ) → OpensFirst secrets (startup_of 7 None) sid bytes (Startup 8) other → ⊥
  alone_never other first = elim first [
    | inl here ↦ apart here.0
    | inr later ↦ later.1
  ]
