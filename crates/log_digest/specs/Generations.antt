-- The generations of the group's secret that an end is in and knows.
use Rattle.std.specs.Prelude.{ℕ, List, ◌∷◌, ◌≡◌, Option, None, refl}
use Rattle.std.specs.Coded.{Coded, code_by, coded×, coded_ℕ, coded_option}
use Rattle.crypto_profile.specs.declared.keys.Context.{Context}
use Rattle.crypto_profile.specs.declared.keys.Context.TheVariants.{Startup}
use Rattle.endpoint_model.specs.Event.{Setup, Event}
use Rattle.endpoint_model.specs.declared.entry.Entry.{Entry}
use Rattle.endpoint_model.specs.Views.{learnt_in, advanced_in}
use Rattle.endpoint_laws.specs.Past.{Past, current_of, next_of, current_after, next_after, next_left, with_begun}
use Rattle.endpoint_laws.specs.Contexts.{next_contexts, startup_contexts}

-- the current one, and the next one where that is known
pub record Known : Type 0 where
  pub current : ℕ
  pub next : Option ℕ

abbrev pub known_code : Coded Known
known_code =
    code_by (ℕ × Option ℕ) (coded× coded_ℕ (coded_option coded_ℕ)) (λ k. (k.current, k.next))
    (λ p. record { current = p.0; next = p.1 }) (λ _. refl)

-- those of an end that begins in this generation
abbrev pub begun_in : ℕ → Known
begun_in generation = record { current = generation; next = None }

-- with what was learnt or became the current one, if anything
abbrev pub succeeded : Option ℕ → Option ℕ → Known → Known
succeeded learnt advanced k = record {
  current = current_after advanced k.current;
  next = next_after learnt (next_left advanced k.next);
}

abbrev pub gone_on : Entry → Known → Known
gone_on entry k = succeeded (learnt_in entry) (advanced_in entry) k

-- They are those of an end that was given this and did this.
pub record AreGenerationsOf (setup : Setup) (past : Past) (k : Known) : Type 0 where
  pub current_is : k.current ≡ current_of setup past
  pub next_is : k.next ≡ next_of past

-- ---- laws

-- the contexts of session ID 0, in order
abbrev pub contexts_in : Known → List Context
contexts_in k = Startup k.current ∷ next_contexts k.next

-- By them an end takes startup datagrams, and what begins changes none.
pub record TheyTellStartup : Type 0 where
  pub contexts : (setup : Setup) (past : Past) (k : Known) → AreGenerationsOf setup past k →
      contexts_in k ≡ startup_contexts setup past
  pub begins : (setup : Setup) (past : Past) (k : Known) (moment : ℕ) (e : Event) →
      AreGenerationsOf setup past k → AreGenerationsOf setup (with_begun moment e past) k
