-- What ends are given first.
use Rattle.std.proofs.Common.{ℕ, zero, suc, List, [], ◌∷◌, ◌≡◌, ◌<◌, length, refl, sym, ap, arith, inl, inr}
use Rattle.glare_core.specs.Steps.{Among}
use Rattle.endpoint_model.specs.Event.{Setup, own_of}
use Rattle.endpoint_laws.specs.Contexts.{Secrets}
use Rattle.log_verdict.specs.Told.{end_of}
use Rattle.log_verdict.specs.Checks.{Counts, HeadersPass}

module _ (secrets : Secrets) where
  pub header_counts : (prints : List (List ℕ)) (setups : List Setup) → HeadersPass secrets prints setups → (who : ℕ) → who < length setups → Counts secrets (end_of setups who).generation (end_of setups who).secret
  header_counts prints [] pass who lt = absurd (omega (arith, lt))
  header_counts prints (setup ∷ setups) pass zero lt = pass.0
  header_counts prints (setup ∷ setups) pass (suc who) lt = header_counts (own_of setup ∷ prints) setups pass.2 who (omega (arith, lt))

  header_new : (prints : List (List ℕ)) (setups : List Setup) → HeadersPass secrets prints setups → (who : ℕ) → who < length setups → Among (own_of (end_of setups who)) prints → ⊥
  header_new prints [] pass who lt among = absurd (omega (arith, lt))
  header_new prints (setup ∷ setups) pass zero lt among = pass.1 among
  header_new prints (setup ∷ setups) pass (suc who) lt among = header_new (own_of setup ∷ prints) setups pass.2 who (omega (arith, lt)) (inr among)

  pub headers_differ : (prints : List (List ℕ)) (setups : List Setup) → HeadersPass secrets prints setups → (a b : ℕ) → a < length setups → b < length setups → own_of (end_of setups a) ≡ own_of (end_of setups b) → a ≡ b
  headers_differ prints [] pass a b lt lu e = absurd (omega (arith, lt))
  headers_differ prints (setup ∷ setups) pass zero zero lt lu e = refl
  headers_differ prints (setup ∷ setups) pass zero (suc b) lt lu e = absurd (header_new (own_of setup ∷ prints) setups pass.2 b (omega (arith, lu)) (inl (sym e)))
  headers_differ prints (setup ∷ setups) pass (suc a) zero lt lu e = absurd (header_new (own_of setup ∷ prints) setups pass.2 a (omega (arith, lt)) (inl e))
  headers_differ prints (setup ∷ setups) pass (suc a) (suc b) lt lu e = ap (λ (n : ℕ). suc n) (headers_differ (own_of setup ∷ prints) setups pass.2 a b (omega (arith, lt)) (omega (arith, lu)) e)

  pub headers_pass : (prints : List (List ℕ)) (setups : List Setup) → ((who : ℕ) → who < length setups → Counts secrets (end_of setups who).generation (end_of setups who).secret) →
      ((who : ℕ) → who < length setups → Among (own_of (end_of setups who)) prints → ⊥) →
      ((a b : ℕ) → a < length setups → b < length setups → own_of (end_of setups a) ≡ own_of (end_of setups b) → a ≡ b) → HeadersPass secrets prints setups
  headers_pass prints [] counts new differ = tt
  headers_pass prints (setup ∷ setups) counts new differ = (
    counts 0 (omega arith),
    new 0 (omega arith),
    headers_pass (own_of setup ∷ prints) setups (λ who lt. counts (suc who) (omega (arith, lt))) later (λ a b lt lu e. omega (arith, differ (suc a) (suc b) (omega (arith, lt)) (omega (arith, lu)) e)),
  )
    where
      later : (who : ℕ) → who < length setups → Among (own_of (end_of setups who)) (own_of setup ∷ prints) → ⊥
      later who lt (inl e) = absurd (omega (arith, differ (suc who) 0 (omega (arith, lt)) (omega arith) e))
      later who lt (inr among) = new (suc who) (omega (arith, lt)) among
