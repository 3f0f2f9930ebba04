-- What it is for a history of many ends to be agreed: what their facts say of each other at each
-- moment.
use Rattle.std.specs.Prelude.{ℕ, ◌≡◌, ◌⊎◌, Bool, List, [], ◌∷◌, ◌++◌, Option, Some, None}
use Rattle.std.specs.FinMap.{get}
use Rattle.crypto_profile.specs.Keys.{keys_of}
use Rattle.glare_core.specs.declared.facts.Fact.{Fact}
use Rattle.glare_core.specs.declared.facts.Fact.TheVariants.{Started, Born, Opened, Confirmed, Ended}
use Rattle.glare_core.specs.declared.facts.Held.TheVariants.{KeptAsResponder, KeptAsInitiator}
use Rattle.glare_core.specs.declared.facts.Joined.{Joined}
use Rattle.glare_core.specs.Standing.{held}
use Rattle.glare_core.specs.Tells.{as_initiator, as_responder}
use Rattle.glare_core.specs.Steps.{Did, Step, step, view, facts, IsTail, Happened}
use Rattle.glare_core.specs.Agreed.{AreOne, KeepTheSame, EachOpenedHasOneBirth, NoStartedHasTwoBirths, CrossedIsOver, OneOpens, PrevailingIsSpared, OverrideIsLate}
use Rattle.endpoint_model.specs.declared.entry.Entry.{Entry}
use Rattle.endpoint_model.specs.Views.{fact_in}
use Rattle.endpoint_model.specs.Event.{Setup, own_of, Event, moment_at}
use Rattle.endpoint_laws.specs.Past.{Past, last_moment, past_of_log, with_begun, with_entry}
use Rattle.endpoint_laws.specs.Contexts.{Secrets, Knows, session_context, EventOpenedIn}
use Rattle.endpoint_laws.specs.Laws.{AreCalls}
use Rattle.endpoint_laws.specs.History.{History, log_of, past_at, facts_at, TakesPart, AreLawful, IsHonest, IsFresh}

-- ---- the facts of all ends

-- The number of a fact that is stated next, at an end that did this: of a Born and of an Opened the
-- generation in which the datagram of its event opened. Others have 0.
abbrev pub IsNumberOf : Secrets → Setup → Past → Fact → ℕ → Type 0
IsNumberOf secrets setup past (Started peer n near ni) number = number ≡ 0
IsNumberOf secrets setup past (Born j) number = EventOpenedIn secrets setup past number
IsNumberOf secrets setup past (Opened j) number = EventOpenedIn secrets setup past number
IsNumberOf secrets setup past (Confirmed peer near) number = number ≡ 0
IsNumberOf secrets setup past (Ended peer near why) number = number ≡ 0

-- the steps with a fact of an end on top of those before, where there is one
abbrev pub IsStatedOn : Secrets → Setup → Past → Option Fact → List Step → List Step → Type 0
IsStatedOn secrets setup past None before steps = steps ≡ before
IsStatedOn secrets setup past (Some fact) before steps = (number : ℕ) ×
    IsNumberOf secrets setup past fact number ×
    (steps ≡ step (own_of setup) (Did fact number) ∷ before)

-- and with those among the entries of an event, in their order
abbrev pub IsStatedOnto : Secrets → Setup → ℕ → Past → List Entry → List Step → List Step → Type 0
IsStatedOnto secrets setup now past [] before steps = steps ≡ before
IsStatedOnto secrets setup now past (entry ∷ rest) before steps = (next : List Step) ×
    IsStatedOn secrets setup past (fact_in entry) before next ×
    IsStatedOnto secrets setup now (with_entry now entry past) rest next steps

-- The event of an end that did this states its facts on top of those before.
abbrev pub EventStates : Secrets → Setup → List Event → Event → List Step → List Step → Type 0
EventStates secrets setup log e before steps =
    IsStatedOnto secrets setup (moment_at (last_moment 0 log) e)
    (with_begun (moment_at (last_moment 0 log) e) e (past_of_log log)) e.entries before steps

-- These are the facts of all ends as one list of steps, the newest first. An end is named by its
-- fingerprint.
abbrev pub AreStated : Secrets → (ℕ → Setup) → History → List Step → Type 0
AreStated secrets ends [] steps = steps ≡ []
AreStated secrets ends (h ∷ earlier) steps = (before : List Step) ×
    AreStated secrets ends earlier before ×
    EventStates secrets (ends h.who) (log_of h.who earlier) h.event before steps

-- ---- agreed

-- A session that was opened has one generation at both ends, and under the secret that the group
-- has for it the two have the same keys for the session, in both directions.
abbrev pub HaveTheSameKeys : Secrets → (ℕ → Setup) → History → List Step → Type 0
HaveTheSameKeys secrets ends history now =
    (a b : ℕ) (s t : Joined) (g h : ℕ) (before early : List Step) → TakesPart a history →
    TakesPart b history →
    Happened (own_of (ends a)) (Did (Opened s) g) before now →
    Happened (own_of (ends b)) (Did (Born t) h) early now →
    s.peer ≡ own_of (ends b) → t.n ≡ s.n → t.ni ≡ s.ni → (g ≡ h) ×
    ((secret : List ℕ) (to_responder : Bool) → get secrets g ≡ Some secret →
    keys_of secret (session_context g (as_initiator (own_of (ends a)) s) to_responder)
    ≡ keys_of secret (session_context h (as_responder (own_of (ends b)) t) to_responder))

-- what stands at one moment
pub record AreAgreed (secrets : Secrets) (ends : ℕ → Setup) (history : History)
    (now : List Step) : Type 0 where
  -- two ends that keep sessions with each other keep the same one
  pub same : KeepTheSame now
  -- each attempt that opened has one birth, with the same values, and its session has the same keys
  -- at both ends
  pub opened : EachOpenedHasOneBirth now
  pub keys : HaveTheSameKeys secrets ends history now
  -- no attempt has two births
  pub started : NoStartedHasTwoBirths now
  -- of two attempts that were crossed at most one opens, and then the other is over
  pub over : CrossedIsOver now
  pub one : OneOpens now
  -- no attempt of the end that prevails is ended for the cause Glare
  pub spared : PrevailingIsSpared now
  -- a kept session is ended for the cause Override only after its peer ended it
  pub late : OverrideIsLate now

-- A history is agreed where its facts are one list of steps, and this stands at each of its
-- moments. There is one after each fact, so also one after each event.
pub record IsAgreed (secrets : Secrets) (ends : ℕ → Setup) (history : History) : Type 0 where
  pub steps : List Step
  pub stated : AreStated secrets ends history steps
  pub moments : (others now : List Step) → AreStated secrets ends history others →
      IsTail now others → AreAgreed secrets ends history now

-- ---- the law

-- The map has what each end that takes part was given first, and all that it learnt. Agreement
-- doesn't ask for it: the lines of a lawful log say under which secrets of the map its datagrams
-- opened and went out.
abbrev pub HaveOneMap : Secrets → (ℕ → Setup) → History → Type 0
HaveOneMap secrets ends history = (who : ℕ) → TakesPart who history →
    Knows secrets (ends who) (past_at who history)

-- Each history of ends of one group that is lawful, honest and fresh is agreed.
abbrev pub EveryLawfulHistoryIsAgreed : Type 0
EveryLawfulHistoryIsAgreed =
    (secrets : Secrets) (ends : ℕ → Setup) (history : History) →
    ((who : ℕ) → AreCalls (log_of who history)) → AreLawful secrets ends history →
    IsHonest secrets ends history → IsFresh ends history → IsAgreed secrets ends history

-- ---- what this says of logs

-- Each end states in the list of all facts what its own log says.
abbrev pub EachEndStatesItsLog : Type 0
EachEndStatesItsLog = (secrets : Secrets) (ends : ℕ → Setup) (history : History)
    (steps : List Step) → AreStated secrets ends history steps → IsFresh ends history →
    (who : ℕ) → TakesPart who history →
    facts (view (own_of (ends who)) steps) ≡ facts_at who history

-- Each history that went before is a moment: there is one after each event.
abbrev pub EachPrefixIsAMoment : Type 0
EachPrefixIsAMoment = (secrets : Secrets) (ends : ℕ → Setup) (later early : History)
    (steps : List Step) → AreStated secrets ends (later ++ early) steps →
    (then : List Step) × AreStated secrets ends early then × IsTail then steps

-- By its log the end keeps this session with the peer.
abbrev pub Keeps : ℕ → List ℕ → Joined → History → Type 0
Keeps who peer s history = (held peer (facts_at who history) ≡ Some (KeptAsInitiator s)) ⊎
    (held peer (facts_at who history) ≡ Some (KeptAsResponder s))

-- In an agreed history, after each event, two ends that keep sessions with each other by their logs
-- keep the same one.
abbrev pub LogsKeepTheSame : Type 0
LogsKeepTheSame =
    (secrets : Secrets) (ends : ℕ → Setup) (later early : History) →
    IsFresh ends (later ++ early) → IsAgreed secrets ends (later ++ early) →
    (a b : ℕ) (s t : Joined) → TakesPart a early → TakesPart b early →
    Keeps a (own_of (ends b)) s early → Keeps b (own_of (ends a)) t early → AreOne s t
