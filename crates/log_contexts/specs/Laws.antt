-- The laws of what is kept of session IDs.
use Rattle.std.specs.Prelude.{ℕ, List, ◌≡◌, ◌≤◌, true, false, Option, Some, None}
use Rattle.std.specs.FinMap.{get}
use Rattle.crypto_profile.specs.declared.keys.Context.TheVariants.{Startup as InStartup}
use Rattle.packet_scramble.specs.Datagram.{sid_of}
use Rattle.glare_core.specs.declared.facts.Held.{Held}
use Rattle.glare_core.specs.Things.{IsSession}
use Rattle.endpoint_model.specs.declared.entry.Entry.{Entry}
use Rattle.endpoint_model.specs.Event.{Setup, Call, ReceiveCall, receive_in, Event}
use Rattle.endpoint_model.specs.Views.{fact_in}
use Rattle.endpoint_laws.specs.Past.{Past, before_event, is_in_use, last_call, nothing_done, taken_since, with_begun, with_entry}
use Rattle.endpoint_laws.specs.Contexts.{Secrets, BegunUnder, EventOpenedIn, IsInHello, KeyingWent, OpensFirst, OpensInStartup, OpensUnder, StandsUnder, inward, startup_contexts}
use Rattle.endpoint_laws.specs.Taken.{TookAt}
use Rattle.endpoint_laws.specs.Lawful.{IsTagged, Line}
use Rattle.log_digest.specs.Kept.{Digested}
use Rattle.log_digest.specs.Digest.{IsDigestOf}
use Rattle.log_contexts.specs.declared.taking.Taking.{Taking}
use Rattle.log_contexts.specs.declared.taking.Taking.TheVariants.{Session}
use Rattle.log_contexts.specs.Kept.{KeptContexts, generation_in, keying_at, last_in, tag_at}
use Rattle.log_contexts.specs.Changes.{begun_id}
use Rattle.log_contexts.specs.Lowest.{is_underway}
use Rattle.log_contexts.specs.Contexts.{AreContextsOf, OpensInNone}
use Rattle.log_contexts.specs.Taking.{IsOutside, IsTakingOf, contexts_in}

-- What is said of a generation is said of one alone: in which a keying went out, in which the
-- datagram of the last event opened, and in which a session began.
pub record GenerationsAreOne : Type 0 where
  pub keying : (secrets : Secrets) (near g h : ℕ) (past : Past) → KeyingWent secrets near g past →
      KeyingWent secrets near h past → g ≡ h
  pub event : (secrets : Secrets) (setup : Setup) (past : Past) (g h : ℕ) →
      EventOpenedIn secrets setup past g → EventOpenedIn secrets setup past h → g ≡ h
  pub begun : (secrets : Secrets) (setup : Setup) (thing : Held) (g h : ℕ) (past : Past) →
      BegunUnder secrets setup thing g past → BegunUnder secrets setup thing h past → g ≡ h

-- In a log that has a digest one thing is held or closing under a session ID.
abbrev pub OneThingStands : Type 0
OneThingStands = (last : ℕ) (past : Past) (d : Digested) → IsDigestOf last past d →
    (near : ℕ) (a b : Held) → StandsUnder past near a → StandsUnder past near b → a ≡ b

-- By how an end takes datagrams under the session ID of one it is told whether the datagram opens
-- in no session, and in which generation outside of sessions.
pub record TakingTells : Type 0 where
  pub none : (secrets : Secrets) (setup : Setup) (past : Past) (taking : Taking)
      (datagram : List ℕ) → IsTakingOf secrets setup past (sid_of datagram) taking →
      ((thing : Held) (generation : ℕ) (plain : List ℕ) → taking ≡ Session thing generation →
      OpensUnder secrets (inward setup generation thing) (sid_of datagram) datagram plain → ⊥) →
      OpensInNone secrets setup past (Some datagram)
  pub startup : (secrets : Secrets) (setup : Setup) (past : Past) (taking : Taking)
      (datagram : List ℕ) (generation : ℕ) (plain : List ℕ) →
      IsTakingOf secrets setup past (sid_of datagram) taking → IsOutside taking →
      OpensFirst secrets (contexts_in setup taking) (sid_of datagram) datagram
      (InStartup generation) plain → OpensInStartup secrets setup past datagram generation
  pub outside : (secrets : Secrets) (setup : Setup) (past : Past) (taking : Taking)
      (datagram : List ℕ) (generation : ℕ) →
      IsTakingOf secrets setup past (sid_of datagram) taking →
      OpensInStartup secrets setup past datagram generation → IsOutside taking ×
      ((plain : List ℕ) × OpensFirst secrets (contexts_in setup taking) (sid_of datagram) datagram
      (InStartup generation) plain)

-- In an event that takes a datagram the startup contexts of session ID 0 stay, and where a session
-- begins by its line of the table of lawful logs the datagram opened outside of sessions.
pub record BirthsOpen : Type 0 where
  pub stays : (secrets : Secrets) (setup : Setup) (now : ℕ) (call : Call) (past : Past)
      (rest : List Entry) (entry : Entry) (moment : ℕ) (r : ReceiveCall) →
      receive_in call ≡ Some r → Line secrets setup now call past rest entry →
      startup_contexts setup (with_entry moment entry past) ≡ startup_contexts setup past
  pub opens : (secrets : Secrets) (setup : Setup) (now : ℕ) (call : Call) (past : Past)
      (rest : List Entry) (entry : Entry) (near : ℕ) → last_call past ≡ Some call →
      startup_contexts setup past ≡ startup_contexts setup (before_event past) →
      Line secrets setup now call past rest entry → begun_id (fact_in entry) ≡ Some near →
      (generation : ℕ) × EventOpenedIn secrets setup past generation

-- In this generation the session began, and at this moment it took the last datagram, if it took
-- one: at none later.
pub record IsToldOf (secrets : Secrets) (setup : Setup) (past : Past) (near : ℕ) (thing : Held)
    (began last : Option ℕ) : Type 0 where
  pub generation : ℕ
  pub began_is : began ≡ Some generation
  pub begun : BegunUnder secrets setup thing generation past
  pub took : (moment : ℕ) → last ≡ Some moment →
      TookAt secrets setup generation thing near moment (taken_since near past)
  pub within : (moment : ℕ) →
      TookAt secrets setup generation thing near moment (taken_since near past) →
      (latest : ℕ) × (last ≡ Some latest) × (moment ≤ latest)

-- What is kept tells of an attempt or a search whether it is in the hello stage, and of a session
-- that is held or closing the generation in which it began, and when it took the last datagram.
pub record KeptTells : Type 0 where
  pub hello : (secrets : Secrets) (setup : Setup) (past : Past) (c : KeptContexts) (near : ℕ) →
      AreContextsOf secrets setup past c → keying_at near c.threads ≡ None →
      IsInHello secrets near past
  pub in_hello : (secrets : Secrets) (setup : Setup) (past : Past) (c : KeptContexts)
      (near : ℕ) → AreContextsOf secrets setup past c → IsInHello secrets near past →
      keying_at near c.threads ≡ None
  pub session : (secrets : Secrets) (setup : Setup) (past : Past) (c : KeptContexts) (near : ℕ)
      (thing : Held) → AreContextsOf secrets setup past c → StandsUnder past near thing →
      IsSession thing →
      IsToldOf secrets setup past near thing (generation_in (get c.sessions near))
      (last_in (get c.sessions near))

-- An attempt or a search stands under a session ID with this tag exactly where what is kept says so.
pub record TaggedTell : Type 0 where
  pub kept : (secrets : Secrets) (setup : Setup) (last : ℕ) (past : Past) (d : Digested)
      (c : KeptContexts) (tag : List ℕ) (near : ℕ) → AreContextsOf secrets setup past c →
      IsDigestOf last past d → IsTagged past tag near →
      (is_underway d near ≡ true) × (tag_at near c.threads ≡ Some tag)
  pub stands : (secrets : Secrets) (setup : Setup) (last : ℕ) (past : Past) (d : Digested)
      (c : KeptContexts) (tag : List ℕ) (near : ℕ) → AreContextsOf secrets setup past c →
      IsDigestOf last past d → is_underway d near ≡ true → tag_at near c.threads ≡ Some tag →
      IsTagged past tag near

-- Nothing has session ID 0 in a lawful log: not at first, and not after an event or an entry where
-- nothing had it before.
pub record NoIdIsZero : Type 0 where
  pub first : is_in_use 0 nothing_done ≡ false
  pub begins : (past : Past) (moment : ℕ) (e : Event) → is_in_use 0 past ≡ false →
      is_in_use 0 (with_begun moment e past) ≡ false
  pub adds : (secrets : Secrets) (setup : Setup) (now : ℕ) (call : Call) (past : Past)
      (rest : List Entry) (entry : Entry) (moment last : ℕ) (d : Digested) →
      IsDigestOf last past d → Line secrets setup now call past rest entry →
      is_in_use 0 past ≡ false → is_in_use 0 (with_entry moment entry past) ≡ false
