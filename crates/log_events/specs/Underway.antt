-- What is so of an event while its entries are judged, one after another.
use Rattle.std.specs.Prelude.{ℕ, [], ◌≡◌, ◌⊎◌, true, Some}
use Rattle.glare_core.specs.declared.facts.Held.{Held}
use Rattle.glare_core.specs.declared.facts.Held.TheVariants.{Opening, HalfOpen, KeptAsResponder, KeptAsInitiator}
use Rattle.glare_core.specs.Things.{IsSession}
use Rattle.endpoint_model.specs.Event.{Setup, Call, Event, is_advance, learn_in, receive_in}
use Rattle.endpoint_laws.specs.Past.{Past, before_event, current_of, last_call, next_of, taken_since, with_begun}
use Rattle.endpoint_laws.specs.Contexts.{Secrets, BegunUnder, CallOpensIn, StandsUnder}
use Rattle.endpoint_laws.specs.Lawful.{LearnsIn}

-- The call neither learns a generation's secret nor advances.
pub record KeepsGenerations (call : Call) : Type 0 where
  pub learns : LearnsIn (learn_in call) → ⊥
  pub advances : is_advance call ≡ true → ⊥

-- ---- what stands, by what was done before the event

-- what a thing was before it was confirmed, if it is a session that is confirmed
abbrev pub unconfirmed : Held → Held
unconfirmed (Opening n near ni) = Opening n near ni
unconfirmed (HalfOpen j) = HalfOpen j
unconfirmed (KeptAsResponder j) = HalfOpen j
unconfirmed (KeptAsInitiator j) = KeptAsInitiator j

-- The session stood there before the event, or the half-open one did that it was until it was
-- confirmed. It began in the same generation, and took the event's datagram after the same ones.
pub record Stayed (secrets : Secrets) (setup : Setup) (now : ℕ) (e : Event) (before past : Past)
    (near : ℕ) (thing : Held) : Type 0 where
  pub was : Held
  pub is : (was ≡ thing) ⊎ (was ≡ unconfirmed thing)
  pub stands : StandsUnder before near was
  pub generation : ℕ
  pub begun_before : BegunUnder secrets setup was generation before
  pub begun : BegunUnder secrets setup thing generation past
  pub taken : taken_since near past ≡ taken_since near (with_begun now e before)

-- It began in the event, whose datagram opened outside of sessions, and took nothing since.
pub record BeganNow (secrets : Secrets) (setup : Setup) (e : Event) (before past : Past)
    (near : ℕ) : Type 0 where
  pub generation : ℕ
  pub opened : CallOpensIn secrets setup before (receive_in e.call) generation
  pub taken : taken_since near past ≡ []

-- ---- the event

-- An event that began at this moment, after what was done before, is judged so far.
pub record IsUnderway (secrets : Secrets) (setup : Setup) (now : ℕ) (e : Event)
    (before past : Past) : Type 0 where
  pub last : last_call past ≡ Some e.call
  pub since : before_event past ≡ before
  pub current : KeepsGenerations e.call → current_of setup past ≡ current_of setup before
  pub next : KeepsGenerations e.call → next_of past ≡ next_of before
  pub alone : (near : ℕ) (a b : Held) → StandsUnder before near a → StandsUnder before near b →
      a ≡ b
  pub sessions : (near : ℕ) (thing : Held) → StandsUnder past near thing → IsSession thing →
      Stayed secrets setup now e before past near thing ⊎
      BeganNow secrets setup e before past near
