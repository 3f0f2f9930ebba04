-- What calls bring about: which change generations, and which let a session begin.
use Rattle.std.proofs.Common.{ℕ, List, ◌∷◌, ◌≡◌, refl, sym, ap, subst, true, Option, Some, None, ◌∙◌}
use Rattle.crypto_profile.specs.declared.keys.Context.TheVariants.{Startup}
use Rattle.glare_core.specs.declared.facts.Fact.{Fact}
use Rattle.glare_core.specs.declared.facts.Fact.TheVariants.{Started, Born, Opened, Confirmed, Ended}
use Rattle.glare_core.specs.declared.facts.Joined.{Joined}
use Rattle.endpoint_model.specs.Event.{Setup, Call, Event, ReceiveCall, receive_in}
use Rattle.log_contexts.proofs.CallsTaken.{no_learn, no_advance}
use Rattle.endpoint_model.specs.declared.entry.Entry.{Entry}
use Rattle.endpoint_model.specs.declared.entry.Entry.TheVariants.{Fact as FactEntry, Closed, Sought, Unsought, Moved, Learnt, Advanced, FlowOpened, Queued, Finished, Abandoned, Handed, Discard, Out}
use Rattle.endpoint_model.specs.Views.{fact_in}
use Rattle.endpoint_laws.specs.Past.{Past, before_event, current_of, next_of, receive_of, with_entry}
use Rattle.endpoint_laws.specs.Contexts.{Secrets, CallOpensIn, EventOpenedIn, next_contexts, startup_contexts}
use Rattle.endpoint_laws.specs.Lawful.{BearsIn, FactLine, LearnsIn, Line, TakesAnswerIn}
use Rattle.endpoint_laws.specs.Admissible.{Offer}
use Rattle.log_contexts.specs.Changes.{begun_id}
use Rattle.log_contexts.proofs.Births.{births_open}
use Rattle.log_events.specs.Underway.{KeepsGenerations, IsUnderway}

-- A call that takes a datagram changes no generation.
pub receives_keeps : (call : Call) (r : ReceiveCall) → receive_in call ≡ Some r → KeepsGenerations call
receives_keeps call r given = record { learns = no_learn call r given; advances = no_advance call r given }

-- ---- generations

module _ (secrets : Secrets) (setup : Setup) (now : ℕ) (call : Call) (past : Past) (rest : List Entry) (keeps : KeepsGenerations call) (moment : ℕ) where
  pub current_stays : (entry : Entry) → Line secrets setup now call past rest entry → current_of setup (with_entry moment entry past) ≡ current_of setup past
  current_stays (FactEntry g) line = refl
  current_stays (Closed near) line = refl
  current_stays (Sought near name) line = refl
  current_stays (Unsought near why) line = refl
  current_stays (Moved near to) line = refl
  current_stays (Learnt generation) line = refl
  current_stays (Advanced generation) line = absurd (keeps.advances line.1.by)
  current_stays (FlowOpened near flow) line = refl
  current_stays (Queued near flow seq message) line = refl
  current_stays (Finished near flow seq) line = refl
  current_stays (Abandoned near flow seq) line = refl
  current_stays (Handed near flow seq message) line = refl
  current_stays (Discard place cause) line = refl
  current_stays (Out to datagram context) line = refl

  pub next_stays : (entry : Entry) → Line secrets setup now call past rest entry → next_of (with_entry moment entry past) ≡ next_of past
  next_stays (FactEntry g) line = refl
  next_stays (Closed near) line = refl
  next_stays (Sought near name) line = refl
  next_stays (Unsought near why) line = refl
  next_stays (Moved near to) line = refl
  next_stays (Learnt generation) line = absurd (keeps.learns line.1.by)
  next_stays (Advanced generation) line = absurd (keeps.advances line.1.by)
  next_stays (FlowOpened near flow) line = refl
  next_stays (Queued near flow seq message) line = refl
  next_stays (Finished near flow seq) line = refl
  next_stays (Abandoned near flow seq) line = refl
  next_stays (Handed near flow seq message) line = refl
  next_stays (Discard place cause) line = refl
  next_stays (Out to datagram context) line = refl

-- ---- births

module _ (secrets : Secrets) (setup : Setup) (now : ℕ) (call : Call) (past : Past) (rest : List Entry) where
  borne : (before : Past) (o : Option ReceiveCall) (offer : Offer) (nr : List ℕ) → BearsIn secrets setup before now o offer nr → (r : ReceiveCall) × (o ≡ Some r)
  borne before None offer nr bears = absurd bears
  borne before (Some r) offer nr bears = (r, refl)

  answered : (o : Option ReceiveCall) (j : Joined) → TakesAnswerIn secrets setup past o j → (r : ReceiveCall) × (o ≡ Some r)
  answered None j takes = absurd takes
  answered (Some r) j takes = (r, refl)

  of_fact : (g : Fact) (near : ℕ) → FactLine secrets setup now call past rest g → begun_id (Some g) ≡ Some near → (r : ReceiveCall) × (receive_in call ≡ Some r)
  of_fact (Started peer n id ni) near line e = absurd cc
  of_fact (Born j) near line e = borne line.before (receive_in call) (record { peer = j.peer; n = j.n; ni = j.ni; far = j.far }) j.nr line.by
  of_fact (Opened j) near line e = answered (receive_in call) j line
  of_fact (Confirmed peer id) near line e = absurd cc
  of_fact (Ended peer id why) near line e = absurd cc

  -- Where a session begins, the call takes a datagram.
  pub birth_receives : (entry : Entry) (near : ℕ) → Line secrets setup now call past rest entry → begun_id (fact_in entry) ≡ Some near → (r : ReceiveCall) × (receive_in call ≡ Some r)
  birth_receives (FactEntry g) near line e = of_fact g near line.1 e
  birth_receives (Closed id) near line e = absurd cc
  birth_receives (Sought id name) near line e = absurd cc
  birth_receives (Unsought id why) near line e = absurd cc
  birth_receives (Moved id to) near line e = absurd cc
  birth_receives (Learnt generation) near line e = absurd cc
  birth_receives (Advanced generation) near line e = absurd cc
  birth_receives (FlowOpened id flow) near line e = absurd cc
  birth_receives (Queued id flow seq message) near line e = absurd cc
  birth_receives (Finished id flow seq) near line e = absurd cc
  birth_receives (Abandoned id flow seq) near line e = absurd cc
  birth_receives (Handed id flow seq message) near line e = absurd cc
  birth_receives (Discard place cause) near line e = absurd cc
  birth_receives (Out to datagram context) near line e = absurd cc

module _ (secrets : Secrets) (setup : Setup) (now : ℕ) (e : Event) (before past : Past) (u : IsUnderway secrets setup now e before past) where
  pub contexts_stay : KeepsGenerations e.call → startup_contexts setup past ≡ startup_contexts setup (before_event past)
  contexts_stay keeps =
      ap (λ (c : ℕ). Startup c ∷ next_contexts (next_of past)) (u.current keeps) ∙ ap (λ (n : Option ℕ). Startup (current_of setup before) ∷ next_contexts n) (u.next keeps) ∙ ap (startup_contexts setup) (sym u.since)

  -- what the event's datagram opened in, it opens in by what was done before the event
  pub opened_before : (generation : ℕ) → EventOpenedIn secrets setup past generation → CallOpensIn secrets setup before (receive_in e.call) generation
  opened_before generation opened =
      subst (λ (p : Past). CallOpensIn secrets setup p (receive_in e.call) generation) u.since (subst (λ (o : Option Call). CallOpensIn secrets setup (before_event past) (receive_of o) generation) u.last opened)

  pub event_opened : (generation : ℕ) → CallOpensIn secrets setup before (receive_in e.call) generation → EventOpenedIn secrets setup past generation
  event_opened generation opened =
      subst (λ (o : Option Call). CallOpensIn secrets setup (before_event past) (receive_of o) generation) (sym u.last) (subst (λ (p : Past). CallOpensIn secrets setup p (receive_in e.call) generation) (sym u.since) opened)

  -- where a session begins, it opens outside of sessions
  pub birth_opens : (rest : List Entry) (entry : Entry) (near : ℕ) → Line secrets setup now e.call past rest entry → begun_id (fact_in entry) ≡ Some near → (generation : ℕ) × CallOpensIn secrets setup before (receive_in e.call) generation
  birth_opens rest entry near line begun =
      let given = birth_receives secrets setup now e.call past rest entry near line begun in
      let opened = births_open.opens secrets setup now e.call past rest entry near u.last (contexts_stay (receives_keeps e.call given.0 given.1)) line begun in
      (opened.0, opened_before opened.0 opened.1)
