-- Histories of many ends, and when one is honest and fresh.
use Rattle.std.specs.Prelude.{ℕ, ◌≡◌, ◌==◌, ◌⊎◌, List, [], ◌∷◌, ◌++◌, if◌then◌else◌, Option, Some, None}
use Rattle.crypto_profile.specs.declared.keys.Context.{Context}
use Rattle.packet_scramble.specs.Datagram.{sid_of}
use Rattle.glare_core.specs.declared.facts.Fact.{Fact}
use Rattle.glare_core.specs.Told.{AllDifferent}
use Rattle.endpoint_model.specs.declared.entry.Entry.{Entry}
use Rattle.endpoint_model.specs.Views.{Sending, out_in}
use Rattle.endpoint_model.specs.Event.{Setup, own_of, Call, ReceiveCall, receive_in, Event}
use Rattle.endpoint_laws.specs.Past.{Past, facts_of, past_of_log}
use Rattle.endpoint_laws.specs.Contexts.{Secrets, ContextsOf, OpensFirst}
use Rattle.endpoint_laws.specs.Lawful.{IsLawful, nonces_of}

-- an event, and the number of its end
pub record Happened : Type 0 where
  pub who : ℕ
  pub event : Event

-- the newest is the first
abbrev pub History : Type 0
History = List Happened

-- the events of an end, the oldest first
abbrev pub log_of : ℕ → History → List Event
log_of who [] = []
log_of who (h ∷ earlier) = if h.who == who then log_of who earlier ++ h.event ∷ []
    else log_of who earlier

-- what an end did, and the facts that it stated, the newest first
abbrev pub past_at : ℕ → History → Past
past_at who history = past_of_log (log_of who history)

abbrev pub facts_at : ℕ → History → List Fact
facts_at who history = facts_of (past_at who history)

-- Each end's log is lawful.
abbrev pub AreLawful : Secrets → (ℕ → Setup) → History → Type 0
AreLawful secrets ends history = (who : ℕ) → IsLawful secrets (ends who) (log_of who history)

-- ---- honest

abbrev pub IsOut : List ℕ → Context → Option Sending → Type 0
IsOut sent context None = ⊥
IsOut sent context (Some out) = (out.datagram ≡ sent) × (out.context ≡ context)

abbrev pub HasOut : List ℕ → Context → List Entry → Type 0
HasOut sent context [] = ⊥
HasOut sent context (entry ∷ rest) = IsOut sent context (out_in entry) ⊎ HasOut sent context rest

-- An end sent these bytes in this context.
abbrev pub WasSent : List ℕ → Context → History → Type 0
WasSent sent context [] = ⊥
WasSent sent context (h ∷ earlier) = HasOut sent context h.event.entries ⊎
    WasSent sent context earlier

-- A datagram was sent in the first of the contexts of its session ID, at the end that takes it, in
-- which it opens.
abbrev pub IsHonestReceive : Secrets → Setup → Past → History → Option ReceiveCall → Type 0
IsHonestReceive secrets setup past earlier None = Unit {0}
IsHonestReceive secrets setup past earlier (Some r) =
    (contexts : List Context) (context : Context) (plain : List ℕ) →
    ContextsOf secrets setup past (sid_of r.datagram) contexts →
    OpensFirst secrets contexts (sid_of r.datagram) r.datagram context plain →
    WasSent r.datagram context earlier

abbrev pub IsHonestCall : Secrets → Setup → Past → History → Call → Type 0
IsHonestCall secrets setup past earlier call =
    IsHonestReceive secrets setup past earlier (receive_in call)

abbrev pub IsHonest : Secrets → (ℕ → Setup) → History → Type 0
IsHonest secrets ends [] = Unit {0}
IsHonest secrets ends (h ∷ earlier) =
    IsHonestCall secrets (ends h.who) (past_at h.who earlier) earlier h.event.call ×
    IsHonest secrets ends earlier

-- ---- fresh

-- the nonces of all attempts and of all sessions that were born, at whatever end
abbrev pub nonces_in : History → List (List ℕ)
nonces_in [] = []
nonces_in (h ∷ earlier) = nonces_of (facts_of (past_of_log (h.event ∷ []))) ++ nonces_in earlier

-- An event of this end is in the history.
abbrev pub TakesPart : ℕ → History → Type 0
TakesPart who [] = ⊥
TakesPart who (h ∷ earlier) = (who ≡ h.who) ⊎ TakesPart who earlier

-- No nonce was drawn twice, and different ends have different fingerprints.
pub record IsFresh (ends : ℕ → Setup) (history : History) : Type 0 where
  pub nonces : AllDifferent (nonces_in history)
  pub prints : (a b : ℕ) → TakesPart a history → TakesPart b history →
      own_of (ends a) ≡ own_of (ends b) → a ≡ b
