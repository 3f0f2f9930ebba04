-- The nonces that entries state: those of attempts that are started, and of sessions that are born.
use Rattle.std.specs.Prelude.{ℕ, List, [], ◌∷◌, ◌++◌, ◌≡◌, Option, Some, None}
use Rattle.glare_core.specs.Steps.{Among}
use Rattle.endpoint_model.specs.declared.entry.Entry.{Entry}
use Rattle.endpoint_model.specs.Event.{Event}
use Rattle.endpoint_model.specs.Views.{fact_in}
use Rattle.endpoint_laws.specs.Past.{Past, fact_and, facts_of, with_begun, with_entry}
use Rattle.endpoint_laws.specs.Lawful.{nonces_of}
use Rattle.endpoint_laws.specs.History.{Happened, History, nonces_in}

-- what an entry states: one nonce, or none
abbrev pub stated_at : Entry → List (List ℕ)
stated_at entry = nonces_of (fact_and (fact_in entry) [])

abbrev pub listed : Option (List ℕ) → List (List ℕ)
listed None = []
listed (Some nonce) = nonce ∷ []

-- what entries state, in their order, on top of others
abbrev pub stated_onto : List Entry → List (List ℕ) → List (List ℕ)
stated_onto [] nonces = nonces
stated_onto (entry ∷ rest) nonces = stated_onto rest (stated_at entry ++ nonces)

-- None of these is among those.
abbrev pub AreNew : List (List ℕ) → List (List ℕ) → Type 0
AreNew new old = (one : List ℕ) → Among one new → Among one old → ⊥

-- ---- the law

-- Entry by entry they are those of an end, and those of all ends.
pub record NoncesAreStated : Type 0 where
  pub begins : (moment : ℕ) (e : Event) (past : Past) →
      nonces_of (facts_of (with_begun moment e past)) ≡ nonces_of (facts_of past)
  pub entry : (moment : ℕ) (entry : Entry) (past : Past) →
      nonces_of (facts_of (with_entry moment entry past))
      ≡ stated_at entry ++ nonces_of (facts_of past)
  pub event : (h : Happened) (earlier : History) →
      nonces_in (h ∷ earlier) ≡ stated_onto h.event.entries (nonces_in earlier)
  pub more : (done : List Entry) (entry : Entry) (nonces : List (List ℕ)) →
      stated_onto (done ++ entry ∷ []) nonces ≡ stated_at entry ++ stated_onto done nonces
