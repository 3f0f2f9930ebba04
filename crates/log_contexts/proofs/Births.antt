-- Where a session begins, the datagram of its event opened outside of sessions.
use Rattle.std.proofs.Common.{ℕ, List, ◌≡◌, inl, inr, refl, sym, ap, subst, true, Option, Some, None, ◌∙◌}
use Rattle.crypto_profile.specs.declared.keys.Context.{Context}
use Rattle.crypto_profile.specs.declared.keys.Context.TheVariants.{Startup}
use Rattle.glare_core.specs.declared.facts.Fact.{Fact}
use Rattle.glare_core.specs.declared.facts.Fact.TheVariants.{Started, Born, Opened, Confirmed, Ended}
use Rattle.glare_core.specs.declared.facts.Joined.{Joined}
use Rattle.endpoint_model.specs.Event.{Setup, Call, ReceiveCall, receive_in}
use Rattle.log_contexts.proofs.CallsTaken.{no_learn, no_advance}
use Rattle.endpoint_model.specs.declared.entry.Entry.{Entry}
use Rattle.endpoint_model.specs.declared.entry.Entry.TheVariants.{Fact as FactEntry, Closed, Sought, Unsought, Moved, Learnt, Advanced, FlowOpened, Queued, Finished, Abandoned, Handed, Discard, Out}
use Rattle.endpoint_model.specs.Views.{fact_in}
use Rattle.endpoint_laws.specs.Past.{Past, before_event, last_call, receive_of, with_entry}
use Rattle.endpoint_laws.specs.Contexts.{Secrets, CallOpensIn, EventOpenedIn, OpensFirst, startup_contexts}
use Rattle.endpoint_laws.specs.Lawful.{BearsIn, FactLine, LearnsIn, Line, TakesAnswerIn, WayMade}
use Rattle.endpoint_laws.specs.Admissible.{Admissible, Offer}
use Rattle.log_contexts.specs.Changes.{begun_id}
use Rattle.log_contexts.specs.Laws.{BirthsOpen}

module _ (secrets : Secrets) (setup : Setup) (now : ℕ) (call : Call) (past : Past) (rest : List Entry) where
  stays : (entry : Entry) (moment : ℕ) (r : ReceiveCall) → receive_in call ≡ Some r → Line secrets setup now call past rest entry → startup_contexts setup (with_entry moment entry past) ≡ startup_contexts setup past
  stays (FactEntry g) moment r given line = refl
  stays (Closed near) moment r given line = refl
  stays (Sought near name) moment r given line = refl
  stays (Unsought near why) moment r given line = refl
  stays (Moved near to) moment r given line = refl
  stays (Learnt generation) moment r given line = absurd (no_learn call r given line.1.by)
  stays (Advanced generation) moment r given line = absurd (no_advance call r given line.1.by)
  stays (FlowOpened near flow) moment r given line = refl
  stays (Queued near flow seq message) moment r given line = refl
  stays (Finished near flow seq) moment r given line = refl
  stays (Abandoned near flow seq) moment r given line = refl
  stays (Handed near flow seq message) moment r given line = refl
  stays (Discard place cause) moment r given line = refl
  stays (Out to datagram context) moment r given line = refl

  module _ (last : last_call past ≡ Some call) (same : startup_contexts setup past ≡ startup_contexts setup (before_event past)) where
    -- what the call's datagram opened in, the last event's did
    of_call : (generation : ℕ) → CallOpensIn secrets setup (before_event past) (receive_in call) generation → EventOpenedIn secrets setup past generation
    of_call generation opens = subst (λ (o : Option Call). CallOpensIn secrets setup (before_event past) (receive_of o) generation) (sym last) opens

    before_is : (before : Past) (peer : List ℕ) → WayMade now past before peer → startup_contexts setup before ≡ startup_contexts setup past
    before_is before peer (inl e) = ap (startup_contexts setup) (sym e)
    before_is before peer (inr w) = ap (startup_contexts setup) (sym w.3)

    borne : (before : Past) (o : Option ReceiveCall) (offer : Offer) (nr : List ℕ) → BearsIn secrets setup before now o offer nr → startup_contexts setup before ≡ startup_contexts setup (before_event past) →
        (generation : ℕ) × CallOpensIn secrets setup (before_event past) o generation
    borne before None offer nr bears at = absurd bears
    borne before (Some r) offer nr bears at =
        let a : Admissible secrets setup before now r.from r.datagram offer = bears.0 in (
          a.generation,
          record {
            contexts = startup_contexts setup (before_event past);
            named = inl (a.reads.opens.id, refl);
            plain = a.reads.plain;
            opens = subst (λ (sid : ℕ). OpensFirst secrets (startup_contexts setup (before_event past)) sid r.datagram (Startup a.generation) a.reads.plain) (sym a.reads.opens.id)
                (subst (λ (contexts : List Context). OpensFirst secrets contexts 0 r.datagram (Startup a.generation) a.reads.plain) at a.opens);
          },
        )

    answered : (o : Option ReceiveCall) (j : Joined) → TakesAnswerIn secrets setup past o j → (generation : ℕ) × CallOpensIn secrets setup (before_event past) o generation
    answered None j takes = absurd takes
    answered (Some r) j takes = (takes.0, takes.1)

    of_fact : (g : Fact) (near : ℕ) → FactLine secrets setup now call past rest g → begun_id (Some g) ≡ Some near → (generation : ℕ) × EventOpenedIn secrets setup past generation
    of_fact (Started peer n id ni) near line e = absurd cc
    of_fact (Born j) near line e =
        let opened = borne line.before (receive_in call) (record { peer = j.peer; n = j.n; ni = j.ni; far = j.far }) j.nr line.by (before_is line.before j.peer line.way ∙ same) in
        (opened.0, of_call opened.0 opened.1)
    of_fact (Opened j) near line e = let opened = answered (receive_in call) j line in (opened.0, of_call opened.0 opened.1)
    of_fact (Confirmed peer id) near line e = absurd cc
    of_fact (Ended peer id why) near line e = absurd cc

    opens_for : (entry : Entry) (near : ℕ) → Line secrets setup now call past rest entry → begun_id (fact_in entry) ≡ Some near → (generation : ℕ) × EventOpenedIn secrets setup past generation
    opens_for (FactEntry g) near line e = of_fact g near line.1 e
    opens_for (Closed id) near line e = absurd cc
    opens_for (Sought id name) near line e = absurd cc
    opens_for (Unsought id why) near line e = absurd cc
    opens_for (Moved id to) near line e = absurd cc
    opens_for (Learnt generation) near line e = absurd cc
    opens_for (Advanced generation) near line e = absurd cc
    opens_for (FlowOpened id flow) near line e = absurd cc
    opens_for (Queued id flow seq message) near line e = absurd cc
    opens_for (Finished id flow seq) near line e = absurd cc
    opens_for (Abandoned id flow seq) near line e = absurd cc
    opens_for (Handed id flow seq message) near line e = absurd cc
    opens_for (Discard place cause) near line e = absurd cc
    opens_for (Out to datagram context) near line e = absurd cc

pub births_open : BirthsOpen
births_open = record {
  stays = stays;
  opens = λ secrets setup now call past rest entry near last same line e. opens_for secrets setup now call past rest last same entry near line e;
}
