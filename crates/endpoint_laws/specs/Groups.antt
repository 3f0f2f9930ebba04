-- What an end keeps of the secrets of its group is what its log says.
use Rattle.std.specs.Prelude.{ℕ, ◌≡◌, List, length, true, false, Option, Some, None}
use Rattle.std.specs.FinMap.{get}
use Rattle.crypto_profile.specs.declared.group.GroupSecret.{GroupSecret}
use Rattle.crypto_profile.specs.declared.keys.Context.TheVariants.{Startup}
use Rattle.crypto_profile.specs.Keys.{keys_of}
use Rattle.glare_core.specs.declared.facts.Joined.{Joined}
use Rattle.glare_core.specs.declared.facts.Held.{Held}
use Rattle.glare_core.specs.declared.facts.Held.TheVariants.{HalfOpen}
use Rattle.glare_core.specs.Standing.{held}
use Rattle.session_core.specs.Session.{SessionState, context_of}
use Rattle.startup.specs.declared.kept.KeptKeying.{KeptKeying}
use Rattle.startup.specs.declared.attempt.Stage.{Stage}
use Rattle.startup.specs.declared.attempt.Stage.TheVariants.{Hello, Keying}
use Rattle.startup.specs.State.{AttemptState}
use Rattle.endpoint_model.specs.declared.row.Row.{Row}
use Rattle.endpoint_model.specs.Event.{Setup, Event}
use Rattle.endpoint_model.specs.State.{State}
use Rattle.endpoint_model.specs.Log.{StandsFor}
use Rattle.endpoint_laws.specs.Past.{Past, facts_of, past_of_log, current_of, next_of}
use Rattle.endpoint_laws.specs.Contexts.{Secrets, Knows, KeyingWent, IsInHello, BegunUnder}
use Rattle.endpoint_laws.specs.Lawful.{IsBornHere}
use Rattle.endpoint_laws.specs.OfTheLog.{WasThing}
use Rattle.endpoint_laws.specs.Laws.{IsSetup, AreCalls}

-- the number of a generation, where there is one
abbrev pub number_in : Option GroupSecret → Option ℕ
number_in None = None
number_in (Some group) = Some group.generation

-- The map has the secret of this generation.
abbrev pub HasSecret : Secrets → GroupSecret → Type 0
HasSecret secrets group = get secrets group.generation ≡ Some group.secret

-- An attempt is in the keying stage exactly where its keying went out, and keeps the one generation
-- in which it did.
abbrev pub IsStageOf : Secrets → Past → ℕ → Stage → Type 0
IsStageOf secrets past near Hello = IsInHello secrets near past
IsStageOf secrets past near (Keying at cookie under) =
    KeyingWent secrets near under.generation past × HasSecret secrets under

-- What answers repeated keyings of a session goes out in the generation in which it was born, with
-- a signature of 32 bytes.
pub record IsKeptOf (secrets : Secrets) (setup : Setup) (past : Past) (peer : List ℕ)
    (kept : KeptKeying) : Type 0 where
  pub j : Joined
  pub is_held : IsBornHere (held peer (facts_of past)) j
  pub born : BegunUnder secrets setup (HalfOpen j) kept.generation past
  pub secret : List ℕ
  pub known : get secrets kept.generation ≡ Some secret
  pub keys : kept.keys ≡ keys_of secret (Startup kept.generation)
  pub sign : length kept.sign ≡ 32

-- A session keeps the generation in which it began, and the keys that this gives its contexts.
pub record IsSessionOf (secrets : Secrets) (setup : Setup) (past : Past)
    (session : SessionState) : Type 0 where
  pub thing : Held
  pub is : WasThing session.role session.joined thing
  pub begun : BegunUnder secrets setup thing session.generation past
  pub secret : List ℕ
  pub known : get secrets session.generation ≡ Some secret
  pub inward : session.inward ≡ keys_of secret (context_of session false)
  pub outward : session.outward ≡ keys_of secret (context_of session true)

pub record KeepsItsGroups (secrets : Secrets) (setup : Setup) (past : Past) (s : State)
    : Type 0 where
  -- the current secret, and the next one where it is known
  pub current : s.group.generation ≡ current_of setup past
  pub current_known : HasSecret secrets s.group
  pub next : number_in s.next ≡ next_of past
  pub next_known : (group : GroupSecret) → s.next ≡ Some group → HasSecret secrets group
  pub attempts : (near : ℕ) (a : AttemptState) → get s.startup.attempts near ≡ Some a →
      IsStageOf secrets past near a.stage
  pub kept : (peer : List ℕ) (kept : KeptKeying) → get s.startup.kept peer ≡ Some kept →
      IsKeptOf secrets setup past peer kept
  pub sessions : (near : ℕ) (row : Row) → get s.sessions near ≡ Some row →
      IsSessionOf secrets setup past row.session

-- It is so for whatever log the end stands for.
abbrev pub TheGroupsAreOfTheLog : Type 0
TheGroupsAreOfTheLog = (secrets : Secrets) (setup : Setup) (log : List Event) (s : State) →
    Knows secrets setup (past_of_log log) → IsSetup setup → AreCalls log → StandsFor setup log s →
    KeepsItsGroups secrets setup (past_of_log log) s
