-- In which contexts an end takes datagrams that go under a session ID.
use Rattle.std.specs.Prelude.{ℕ, List, [], ◌∷◌, ◌==◌, ◌≡◌, Option, Some, None, if◌then◌else◌}
use Rattle.std.specs.FinMap.{get}
use Rattle.crypto_profile.specs.declared.keys.Context.{Context}
use Rattle.crypto_profile.specs.declared.keys.Context.TheVariants.{Startup as InStartup}
use Rattle.glare_core.specs.declared.facts.Held.{Held}
use Rattle.glare_core.specs.declared.facts.Held.TheVariants.{Opening, HalfOpen, KeptAsResponder, KeptAsInitiator}
use Rattle.glare_core.specs.Ledger.{row_in}
use Rattle.glare_core.specs.Things.{IsSession}
use Rattle.fact_digest.specs.Roll.{Rolled}
use Rattle.endpoint_model.specs.Event.{Setup}
use Rattle.endpoint_laws.specs.Past.{Past}
use Rattle.endpoint_laws.specs.Contexts.{Secrets, BegunUnder, StandsUnder, StartupContextsOf, inward, next_contexts}
use Rattle.log_digest.specs.declared.spot.Spot.{Spot}
use Rattle.log_digest.specs.declared.spot.Spot.TheVariants.{Searching, Holding, Closing}
use Rattle.log_digest.specs.Generations.{Known}
use Rattle.log_digest.specs.Kept.{Digested}
use Rattle.log_contexts.specs.declared.taking.Taking.{Taking}
use Rattle.log_contexts.specs.declared.taking.Taking.TheVariants.{Nothing, Startup, Attempt, Session}
use Rattle.log_contexts.specs.Kept.{KeptContexts, generation_in, keying_at}

-- the contexts, in order
abbrev pub contexts_in : Setup → Taking → List Context
contexts_in setup Nothing = []
contexts_in setup (Startup current next) = InStartup current ∷ next_contexts next
contexts_in setup (Attempt generation) = InStartup generation ∷ []
contexts_in setup (Session thing generation) = inward setup generation thing ∷ []

-- They are startup contexts.
abbrev pub IsOutside : Taking → Type 0
IsOutside Nothing = ⊥
IsOutside (Startup current next) = Unit {0}
IsOutside (Attempt generation) = Unit {0}
IsOutside (Session thing generation) = ⊥

-- It is how an end that did this takes datagrams under this session ID: outside of sessions in
-- these contexts and no others, and in this session that stands there and no other.
pub record IsTakingOf (secrets : Secrets) (setup : Setup) (past : Past) (sid : ℕ)
    (taking : Taking) : Type 0 where
  pub startup : (contexts : List Context) → StartupContextsOf secrets setup past sid contexts →
      IsOutside taking × (contexts ≡ contexts_in setup taking)
  pub outside : IsOutside taking →
      StartupContextsOf secrets setup past sid (contexts_in setup taking)
  pub session : (thing : Held) (generation : ℕ) → StandsUnder past sid thing → IsSession thing →
      BegunUnder secrets setup thing generation past → taking ≡ Session thing generation
  pub inside : (thing : Held) (generation : ℕ) → taking ≡ Session thing generation →
      StandsUnder past sid thing × IsSession thing ×
      BegunUnder secrets setup thing generation past

-- ---- by what is kept

-- an attempt or a search, whose keying went out in this generation, if it did
abbrev pub attempt_in : Known → Option ℕ → Taking
attempt_in k None = Attempt k.current
attempt_in k (Some generation) = Attempt generation

-- this thing, where a generation is kept in which it began
abbrev pub session_in : Held → Option ℕ → Taking
session_in thing None = Nothing
session_in thing (Some generation) = Session thing generation

-- what is held or closing
abbrev pub closing_in : Held → Option ℕ → Taking
closing_in (Opening n near ni) began = Nothing
closing_in (HalfOpen j) began = session_in (HalfOpen j) began
closing_in (KeptAsResponder j) began = session_in (KeptAsResponder j) began
closing_in (KeptAsInitiator j) began = session_in (KeptAsInitiator j) began

abbrev pub held_in : Known → Option ℕ → Option ℕ → Option Held → Taking
held_in k keying began None = Nothing
held_in k keying began (Some (Opening n near ni)) = attempt_in k keying
held_in k keying began (Some (HalfOpen j)) = session_in (HalfOpen j) began
held_in k keying began (Some (KeptAsResponder j)) = session_in (KeptAsResponder j) began
held_in k keying began (Some (KeptAsInitiator j)) = session_in (KeptAsInitiator j) began

abbrev pub spot_in : Known → Option ℕ → Option ℕ → Rolled → Option Spot → Taking
spot_in k keying began roll None = Nothing
spot_in k keying began roll (Some (Searching name tag ni at)) = attempt_in k keying
spot_in k keying began roll (Some (Holding peer at)) =
    held_in k keying began (row_in roll.rows peer).held
spot_in k keying began roll (Some (Closing thing at)) = closing_in thing began

abbrev pub taking_at : ℕ → Known → Digested → KeptContexts → Taking
taking_at sid k d c = if sid == 0 then Startup k.current k.next
    else spot_in k (keying_at sid c.threads) (generation_in (get c.sessions sid)) d.roll
    (get d.spots sid)
