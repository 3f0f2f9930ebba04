-- The beginning of an event, in which nothing was done yet.
use Rattle.std.proofs.Common.{◌≡◌, ℕ, ◌∷◌, inl, inr, refl, ap, subst}
use Rattle.glare_core.specs.declared.facts.Held.{Held}
use Rattle.endpoint_model.specs.Event.{Setup, Event}
use Rattle.endpoint_laws.specs.Past.{Past, begun, before_event, facts_of}
use Rattle.endpoint_laws.specs.Contexts.{Secrets, BegunUnder}

pub record IsOutset (past : Past) : Type 0 where
  pub moment : ℕ
  pub event : Event
  pub is : past ≡ begun moment event ∷ before_event past

pub outset_begun : (moment : ℕ) (event : Event) (past : Past) → IsOutset (begun moment event ∷ past)
outset_begun moment event past = record { moment = moment; event = event; is = refl }

-- what was stated then was stated before
pub facts_before : (past : Past) → IsOutset past → facts_of past ≡ facts_of (before_event past)
facts_before past outset = ap facts_of outset.is

-- and what had begun
pub begun_before : (secrets : Secrets) (setup : Setup) (thing : Held) (generation : ℕ) (past : Past) → IsOutset past → BegunUnder secrets setup thing generation past → BegunUnder secrets setup thing generation (before_event past)
begun_before secrets setup thing generation past outset under = elim (subst (BegunUnder secrets setup thing generation) outset.is under) [ inl now ↦ absurd now.0 | inr before ↦ before.1 ]
