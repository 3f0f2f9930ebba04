-- The checks of an audit in their order, and which of them is the first that fails.
use Rattle.std.specs.Prelude.{ℕ, zero, suc, ◌≡◌, ◌+◌, ◌⊎◌, List, [], ◌∷◌, ◌++◌, length, filter, Bool, true, false, Option, Some, None}
use Rattle.std.specs.FinMap.{get}
use Rattle.glare_core.specs.declared.facts.Fact.{Fact}
use Rattle.glare_core.specs.declared.facts.Held.{Held}
use Rattle.glare_core.specs.declared.facts.Held.TheVariants.{Opening, HalfOpen, KeptAsResponder, KeptAsInitiator}
use Rattle.glare_core.specs.Standing.{held, peers_in}
use Rattle.glare_core.specs.Steps.{Among}
use Rattle.endpoint_model.specs.declared.entry.Entry.{Entry}
use Rattle.endpoint_model.specs.Event.{Setup, own_of, Call, learn_in, moment_at}
use Rattle.endpoint_model.specs.Views.{fact_in, learnt_in}
use Rattle.endpoint_laws.specs.Past.{Past, fact_and, last_moment, with_begun, with_entry}
use Rattle.endpoint_laws.specs.Contexts.{Secrets}
use Rattle.endpoint_laws.specs.Lawful.{Line, nonces_of}
use Rattle.endpoint_laws.specs.History.{Happened, History, log_of, past_at, facts_at, IsHonestCall, nonces_in}
use Rattle.log_values.specs.declared.log.EndLog.{EndLog}
use Rattle.log_values.specs.Told.{history_of}
use Rattle.log_verdict.specs.declared.verdict.AuditFault.{AuditFault}
use Rattle.log_verdict.specs.declared.verdict.AuditFault.TheVariants.{Secrets as ForSecrets, Unlawful, NotHonest, NotFresh}
use Rattle.log_verdict.specs.declared.verdict.Finding.{Finding}
use Rattle.log_verdict.specs.declared.verdict.Verdict.{Verdict}
use Rattle.log_verdict.specs.declared.verdict.Verdict.TheVariants.{Yes, No}
use Rattle.log_verdict.specs.Told.{setups_of, end_of, secrets_in}

abbrev pub found : ℕ → ℕ → AuditFault → Finding
found event entry fault = record { event = event; entry = entry; fault = fault }

-- A check fails, and this is found; or it passes, and something later is found.
abbrev pub Checked : Type 0 → Finding → (Finding → Type 0) → Finding → Type 0
Checked So here Later f = ((So → ⊥) × (f ≡ here)) ⊎ (So × Later f)

-- None of these is among those.
abbrev pub AreNew : List (List ℕ) → List (List ℕ) → Type 0
AreNew new old = (one : List ℕ) → Among one new → Among one old → ⊥

-- the nonce that an entry states, where it does
abbrev pub nonces_at : Entry → List (List ℕ)
nonces_at entry = nonces_of (fact_and (fact_in entry) [])

-- the moment of an event
abbrev pub now_of : Happened → History → ℕ
now_of h earlier = moment_at (last_moment 0 (log_of h.who earlier)) h.event

module _ (secrets : Secrets) where
  -- ---- what ends were given first

  -- This is the secret that counts for this number.
  abbrev pub Counts : ℕ → List ℕ → Type 0
  Counts generation secret = get secrets generation ≡ Some secret

  -- The secret of each end counts, and its fingerprint is none of these and of no end before it.
  abbrev pub HeadersPass : List (List ℕ) → List Setup → Type 0
  HeadersPass prints [] = Unit {0}
  HeadersPass prints (setup ∷ setups) = Counts setup.generation setup.secret ×
      (Among (own_of setup) prints → ⊥) × HeadersPass (own_of setup ∷ prints) setups

  -- This is found first of these ends, of which so many come before.
  abbrev pub HeadersFail : List (List ℕ) → ℕ → List Setup → Finding → Type 0
  HeadersFail prints before [] f = ⊥
  HeadersFail prints before (setup ∷ setups) f =
      Checked (Counts setup.generation setup.secret) (found 0 (before + 1) ForSecrets)
      (Checked (Among (own_of setup) prints → ⊥) (found 0 (before + 1) NotFresh)
      (HeadersFail (own_of setup ∷ prints) (before + 1) setups)) f

  -- ---- the entries of an event

  -- The secret that a call learns counts for the number of a Learnt, where there are both.
  abbrev pub LearntCounts : Option (List ℕ) → Option ℕ → Type 0
  LearntCounts None learnt = Unit {0}
  LearntCounts (Some secret) None = Unit {0}
  LearntCounts (Some secret) (Some generation) = Counts generation secret

  abbrev pub LearnsCount : Option (List ℕ) → List Entry → Type 0
  LearnsCount learns [] = Unit {0}
  LearnsCount learns (entry ∷ rest) = LearntCounts learns (learnt_in entry) ×
      LearnsCount learns rest

  -- Each entry meets its line, and states no nonce that was stated before.
  abbrev pub EntriesPass : Setup → ℕ → Call → Past → List (List ℕ) → List Entry → Type 0
  EntriesPass setup now call past nonces [] = Unit {0}
  EntriesPass setup now call past nonces (entry ∷ rest) =
      Line secrets setup now call past rest entry × AreNew (nonces_at entry) nonces ×
      EntriesPass setup now call (with_entry now entry past) (nonces_at entry ++ nonces) rest

  -- This is found first of these entries of this event, of which so many come before.
  abbrev pub EntriesFail : ℕ → Setup → ℕ → Call → Past → List (List ℕ) → ℕ → List Entry →
      Finding → Type 0
  EntriesFail event setup now call past nonces before [] f = ⊥
  EntriesFail event setup now call past nonces before (entry ∷ rest) f =
      Checked (Line secrets setup now call past rest entry) (found event (before + 1) Unlawful)
      (Checked (AreNew (nonces_at entry) nonces) (found event (before + 1) NotFresh)
      (EntriesFail event setup now call (with_entry now entry past) (nonces_at entry ++ nonces)
      (before + 1) rest)) f

  -- ---- the events

  module _ (ends : ℕ → Setup) where
    abbrev pub EventEntriesPass : Happened → History → Type 0
    EventEntriesPass h earlier = EntriesPass (ends h.who) (now_of h earlier) h.event.call
        (with_begun (now_of h earlier) h.event (past_at h.who earlier)) (nonces_in earlier)
        h.event.entries

    -- What its call learns counts, the datagram that it was given is honest, and its entries pass.
    abbrev pub EventPasses : Happened → History → Type 0
    EventPasses h earlier = LearnsCount (learn_in h.event.call) h.event.entries ×
        IsHonestCall secrets (ends h.who) (past_at h.who earlier) earlier h.event.call ×
        EventEntriesPass h earlier

    abbrev pub EventEntriesFail : Happened → History → Finding → Type 0
    EventEntriesFail h earlier = EntriesFail (length earlier + 1) (ends h.who) (now_of h earlier)
        h.event.call (with_begun (now_of h earlier) h.event (past_at h.who earlier))
        (nonces_in earlier) 0 h.event.entries

    abbrev pub EventFails : Happened → History → Finding → Type 0
    EventFails h earlier f =
        Checked (LearnsCount (learn_in h.event.call) h.event.entries)
        (found (length earlier + 1) 0 ForSecrets)
        (Checked (IsHonestCall secrets (ends h.who) (past_at h.who earlier) earlier h.event.call)
        (found (length earlier + 1) 0 NotHonest) (EventEntriesFail h earlier)) f

    -- Each event passes, after those before it.
    abbrev pub EventsPass : History → Type 0
    EventsPass [] = Unit {0}
    EventsPass (h ∷ earlier) = EventsPass earlier × EventPasses h earlier

    -- This is found first of these events.
    abbrev pub EventsFail : History → Finding → Type 0
    EventsFail [] f = ⊥
    EventsFail (h ∷ earlier) f = EventsFail earlier f ⊎ (EventsPass earlier × EventFails h earlier f)

-- ---- the whole

abbrev pub AllPass : List Setup → History → Type 0
AllPass setups history = HeadersPass (secrets_in setups history) [] setups ×
    EventsPass (secrets_in setups history) (end_of setups) history

-- This check is the first that fails: of what the ends were given, and then of the events.
abbrev pub FailsFirst : List Setup → History → Finding → Type 0
FailsFirst setups history f = HeadersFail (secrets_in setups history) [] 0 setups f ⊎
    (HeadersPass (secrets_in setups history) [] setups ×
    EventsFail (secrets_in setups history) (end_of setups) history f)

-- ---- what is kept at the end

abbrev pub is_kept : Option Held → Bool
is_kept None = false
is_kept (Some (Opening n near ni)) = false
is_kept (Some (HalfOpen j)) = false
is_kept (Some (KeptAsResponder j)) = true
is_kept (Some (KeptAsInitiator j)) = true

-- with how many peers an end keeps a session, by its facts
abbrev pub kept_with : List Fact → ℕ
kept_with facts = length (filter (λ peer. is_kept (held peer facts)) (peers_in facts))

-- the same of the first ends, so many of them, together
abbrev pub kept_in : ℕ → History → ℕ
kept_in zero history = 0
kept_in (suc ends) history = kept_in ends history + kept_with (facts_at ends history)

-- ---- the verdict

-- The audit of these logs in this order answers so.
abbrev pub IsVerdict : List EndLog → List ℕ → Verdict → Type 0
IsVerdict logs order (Yes events kept) = AllPass (setups_of logs) (history_of logs order) ×
    (events ≡ length order) × (kept ≡ kept_in (length logs) (history_of logs order))
IsVerdict logs order (No f) = FailsFirst (setups_of logs) (history_of logs order) f
