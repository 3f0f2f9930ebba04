-- The laws of the entries of one event.
use Rattle.std.specs.Prelude.{ℕ, List, ◌≡◌, Bool, false, Option, Some, None}
use Rattle.std.specs.FinMap.{get}
use Rattle.glare_core.specs.declared.facts.Why.{Why}
use Rattle.glare_core.specs.declared.facts.Fact.TheVariants.{Confirmed, Ended}
use Rattle.glare_core.specs.declared.facts.Held.{Held}
use Rattle.endpoint_model.specs.declared.entry.Entry.{Entry}
use Rattle.endpoint_model.specs.Event.{Setup, Event, ReceiveCall, receive_in}
use Rattle.endpoint_model.specs.Views.{fact_in}
use Rattle.endpoint_laws.specs.Past.{Past, OfEvent, before_event, datagram_in, last_call, receive_of, with_begun, with_entry}
use Rattle.endpoint_laws.specs.Contexts.{Secrets, startup_contexts}
use Rattle.endpoint_laws.specs.Lawful.{Line}
use Rattle.log_digest.specs.Kept.{Digested}
use Rattle.log_digest.specs.Digest.{IsDigestOf}
use Rattle.log_contexts.specs.Kept.{KeptContexts, last_in}
use Rattle.log_contexts.specs.Changes.{begun_id}
use Rattle.log_contexts.specs.Contexts.{AreContextsOf, BeginsIn, HearsThere, OpensThere}
use Rattle.log_arrivals.specs.declared.arrival.Arrival.{Arrival}
use Rattle.log_arrivals.specs.declared.arrival.Arrival.TheVariants.{Session as InSession}
use Rattle.log_arrivals.specs.Arrivals.{ArrivesIn}
use Rattle.log_arrivals.specs.Startup.{TellsStartup, generation_in}
use Rattle.log_facts.specs.Coming.{IsTaken}
use Rattle.log_facts.specs.Lines.{IsFoundFor}
use Rattle.log_values.specs.Events.{call_of}
use Rattle.log_outs.specs.declared.sender.Cause.{Cause}
use Rattle.log_outs.specs.Outs.{IsCauseOf}
use Rattle.log_events.specs.Underway.{KeepsGenerations, IsUnderway}

-- ---- it goes on

-- An event is underway where it begins, and stays so with each entry that meets its line.
pub record EventsGoOn : Type 0 where
  pub begins : (secrets : Secrets) (setup : Setup) (now : ℕ) (e : Event) (before : Past)
      (last : ℕ) (d : Digested) (c : KeptContexts) → IsDigestOf last before d →
      AreContextsOf secrets setup before c →
      IsUnderway secrets setup now e before (with_begun now e before)
  pub adds : (secrets : Secrets) (setup : Setup) (now : ℕ) (e : Event) (before past : Past)
      (rest : List Entry) (entry : Entry) (last : ℕ) (d : Digested) →
      IsUnderway secrets setup now e before past → IsDigestOf last past d →
      Line secrets setup now e.call past rest entry →
      IsUnderway secrets setup now e before (with_entry now entry past)

-- ---- what is told by what was done before the event

-- The startup contexts stay in an event whose call changes no generation, as in each that takes a
-- datagram.
pub record StartupStays : Type 0 where
  pub contexts : (secrets : Secrets) (setup : Setup) (now : ℕ) (e : Event)
      (before past : Past) → IsUnderway secrets setup now e before past →
      KeepsGenerations e.call →
      startup_contexts setup past ≡ startup_contexts setup (before_event past)
  pub receives : (e : Event) (r : ReceiveCall) → receive_in e.call ≡ Some r →
      KeepsGenerations e.call

-- Where a datagram opened before the event, that of the last event opens by what was done before
-- it; and if it opened in startup, the generation is that.
pub record ArrivalsStay : Type 0 where
  pub arrives : (secrets : Secrets) (setup : Setup) (now : ℕ) (e : Event) (before past : Past)
      (plain : List ℕ) (arrival : Arrival) → IsUnderway secrets setup now e before past →
      ArrivesIn secrets setup before (receive_in e.call) plain arrival →
      ArrivesIn secrets setup (before_event past) (receive_of (last_call past)) plain arrival
  pub asked : (secrets : Secrets) (setup : Setup) (now : ℕ) (e : Event) (before past : Past)
      (plain : List ℕ) (arrival : Arrival) → IsUnderway secrets setup now e before past →
      ArrivesIn secrets setup before (receive_in e.call) plain arrival →
      ArrivesIn secrets setup (before_event past) (receive_in e.call) plain arrival
  pub startup : (secrets : Secrets) (setup : Setup) (now : ℕ) (e : Event) (before past : Past)
      (plain : List ℕ) (arrival : Arrival) → IsUnderway secrets setup now e before past →
      ArrivesIn secrets setup before (receive_in e.call) plain arrival →
      TellsStartup secrets setup past (generation_in arrival)

-- Where a session begins by its line, the event's datagram opened in startup of the generation that
-- is told; where the datagram opens in a session, none begins.
pub record BirthsAreTold : Type 0 where
  pub begins : (secrets : Secrets) (setup : Setup) (now : ℕ) (e : Event) (before past : Past)
      (rest : List Entry) (entry : Entry) (plain : List ℕ) (arrival : Arrival) →
      IsUnderway secrets setup now e before past →
      ArrivesIn secrets setup before (receive_in e.call) plain arrival →
      Line secrets setup now e.call past rest entry →
      BeginsIn secrets setup past (begun_id (fact_in entry)) (generation_in arrival)
  pub none : (secrets : Secrets) (setup : Setup) (now : ℕ) (e : Event) (before past : Past)
      (rest : List Entry) (entry : Entry) (plain : List ℕ) →
      IsUnderway secrets setup now e before past →
      ArrivesIn secrets setup before (receive_in e.call) plain InSession →
      Line secrets setup now e.call past rest entry → begun_id (fact_in entry) ≡ None

-- What the session that was given the event's datagram answered tells at each entry whether the
-- session under the datagram's session ID takes it; and none does where it opens in none.
pub record TakingsAreTold : Type 0 where
  pub heard : (secrets : Secrets) (setup : Setup) (now : ℕ) (e : Event) (before past : Past)
      (plain datagram : List ℕ) (arrival : Arrival) (near generation count : ℕ) (thing : Held)
      (fits : Bool) (c : KeptContexts) (took : Bool) →
      IsUnderway secrets setup now e before past →
      ArrivesIn secrets setup before (receive_in e.call) plain arrival →
      datagram_in (OfEvent e) ≡ Some datagram →
      OpensThere secrets setup before near thing generation datagram count fits →
      HearsThere secrets setup before now e near thing generation datagram c took →
      IsTaken secrets setup past (receive_in e.call) took
  pub none : (secrets : Secrets) (setup : Setup) (now : ℕ) (e : Event) (before past : Past)
      (plain : List ℕ) (arrival : Arrival) → IsUnderway secrets setup now e before past →
      ArrivesIn secrets setup before (receive_in e.call) plain arrival →
      (arrival ≡ InSession → ⊥) → IsTaken secrets setup past (receive_in e.call) false

-- What is kept tells what the line of a fact asks to be found: of a Confirmed that the session
-- stood before the event, and of an Ended when the session took the last datagram.
pub record FactsAreFound : Type 0 where
  pub confirmed : (secrets : Secrets) (setup : Setup) (now : ℕ) (e : Event) (before past : Past)
      (plain peer : List ℕ) (near : ℕ) (arrival : Arrival) (born : Bool) (last : Option ℕ) →
      IsUnderway secrets setup now e before past →
      ArrivesIn secrets setup before (receive_in e.call) plain arrival →
      IsFoundFor secrets setup now e.call past arrival born last (Confirmed peer near)
  pub ended : (secrets : Secrets) (setup : Setup) (now : ℕ) (e : Event) (past : Past)
      (peer : List ℕ) (near : ℕ) (why : Why) (arrival : Arrival) (born : Bool)
      (c : KeptContexts) → AreContextsOf secrets setup past c →
      IsFoundFor secrets setup now e.call past arrival born (last_in (get c.sessions near))
      (Ended peer near why)

-- What is found of the event's datagram when it begins is at each entry what a datagram that goes
-- out is judged by.
abbrev pub CausesAreTold : Type 0
CausesAreTold = (secrets : Secrets) (setup : Setup) (now : ℕ) (e : Event) (before past : Past)
    (nonce : List ℕ) (why : Cause) → IsUnderway secrets setup now e before past →
    e.call ≡ call_of nonce why.call.now →
    ArrivesIn secrets setup before (receive_in e.call) why.plain.now why.arrival →
    IsCauseOf secrets setup past nonce why
