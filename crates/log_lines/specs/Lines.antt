-- Lines of the table of lawful logs, as far as they hang on no datagram.
use Rattle.std.specs.Prelude.{ℕ, List, ◌≡◌, ◌+◌, ◌≤◌, Bool, true, false, Option, Some}
use Rattle.glare_core.specs.declared.facts.Why.{Why}
use Rattle.glare_core.specs.declared.facts.Why.TheVariants.{Far, Idle}
use Rattle.glare_core.specs.declared.facts.Held.{Held}
use Rattle.glare_core.specs.Standing.{held}
use Rattle.glare_core.specs.Things.{IsSession}
use Rattle.endpoint_model.specs.Event.{Setup, Call}
use Rattle.endpoint_laws.specs.Past.{Past, facts_of, taken_since, IsClosing}
use Rattle.endpoint_laws.specs.Contexts.{Secrets, BegunUnder, inward}
use Rattle.endpoint_laws.specs.Taken.{TookAt, inward_mode}
use Rattle.endpoint_laws.specs.Lawful.{IsTick}
use Rattle.log_digest.specs.Hearing.{Heard, IsHearingOf}

-- the causes of an Ended that hang on the datagrams of a session
abbrev pub hangs_on_datagrams : Why → Bool
hangs_on_datagrams Far = true
hangs_on_datagrams Idle = true
hangs_on_datagrams why = false

-- It is the moment of the last datagram that this session under this session ID took; None where it
-- took none.
pub record IsLastTaken (secrets : Secrets) (setup : Setup) (past : Past) (thing : Held) (near : ℕ)
    (last : Option ℕ) : Type 0 where
  pub generation : ℕ
  pub begun : BegunUnder secrets setup thing generation past
  pub took : (moment : ℕ) → last ≡ Some moment →
      TookAt secrets setup generation thing near moment (taken_since near past)
  pub within : (moment : ℕ) →
      TookAt secrets setup generation thing near moment (taken_since near past) →
      (latest : ℕ) × (last ≡ Some latest) × (moment ≤ latest)

-- It is that of the session that is held with this peer, if one is.
pub record IsLastWith (secrets : Secrets) (setup : Setup) (past : Past) (peer : List ℕ) (near : ℕ)
    (last : Option ℕ) : Type 0 where
  pub session : (thing : Held) → held peer (facts_of past) ≡ Some thing → IsSession thing →
      IsLastTaken secrets setup past thing near last

-- The session under this session ID is closing, and time has gone on for 19,000 ms since it was
-- closed.
pub record IsClosedByTime (now : ℕ) (call : Call) (past : Past) (near : ℕ) : Type 0 where
  pub thing : Held
  pub at : ℕ
  pub closing : IsClosing near thing at past
  pub by : IsTick call × (at + 19000 ≤ now)

-- ---- the law

-- What is kept of a session that is held tells when it took the last datagram.
abbrev pub HearingsTellTheLast : Type 0
HearingsTellTheLast = (secrets : Secrets) (setup : Setup) (past : Past) (thing : Held) (near : ℕ)
    (generation : ℕ) (h : Heard) → BegunUnder secrets setup thing generation past →
    IsHearingOf secrets (inward setup generation thing) (inward_mode thing) near
    (taken_since near past) h → IsLastTaken secrets setup past thing near h.last
