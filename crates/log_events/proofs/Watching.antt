-- What is kept of an end goes on being that of its log.
use Rattle.std.proofs.Common.{ℕ, List, [], ◌≡◌, inl, inr, refl, sym, ap, subst, Bool, true, false, if◌then◌else◌, Option, Some, None, ◌∙◌}
use Rattle.glare_core.specs.declared.facts.Fact.{Fact}
use Rattle.glare_core.specs.declared.facts.Fact.TheVariants.{Started, Born, Opened, Confirmed, Ended}
use Rattle.glare_core.specs.declared.facts.Held.{Held}
use Rattle.glare_core.specs.Standing.{count}
use Rattle.glare_core.specs.Stands.{Stands}
use Rattle.glare_core.specs.Things.{near_of}
use Rattle.endpoint_model.specs.Event.{Setup, Call, Event, own_of, receive_in, seek_in}
use Rattle.log_contexts.proofs.CallsTaken.{call_with}
use Rattle.endpoint_model.specs.declared.entry.Entry.{Entry}
use Rattle.endpoint_model.specs.declared.entry.Entry.TheVariants.{Fact as FactEntry, Closed, Sought, Unsought, Moved, Learnt, Advanced, FlowOpened, Queued, Finished, Abandoned, Handed, Discard, Out}
use Rattle.endpoint_model.specs.Views.{fact_in}
use Rattle.endpoint_laws.specs.Past.{Past, Closes, OfEvent, datagram_in, datagram_of, facts_of, last_call, nothing_done, was_gone_through, with_begun, with_entry}
use Rattle.endpoint_laws.specs.Contexts.{Secrets}
use Rattle.endpoint_laws.specs.Lawful.{Line, nonces_of}
use Rattle.log_digest.specs.declared.numbers.Stamp.{Stamp}
use Rattle.log_digest.specs.Changes.{MayCome, drawn_in}
use Rattle.log_digest.specs.Digest.{IsDigestOf}
use Rattle.log_digest.specs.Generations.{AreGenerationsOf, Known}
use Rattle.log_digest.specs.Kept.{Digested}
use Rattle.log_digest.specs.Nonces.{AreNonces, NonceSet}
use Rattle.log_digest.specs.Numbers.{AreNumbersOf, HasNumber}
use Rattle.log_digest.proofs.Coming.{events_use_none, lawful_may_come}
use Rattle.log_digest.proofs.Going.{they_tell}
use Rattle.log_digest.proofs.Stated.{is_thing}
use Rattle.log_contexts.specs.Kept.{KeptContexts}
use Rattle.log_contexts.specs.Contexts.{AreContextsOf}
use Rattle.log_contexts.proofs.Told.{zero_is_none}
use Rattle.log_outs.specs.Sessions.{ClosesOwn}
use Rattle.log_verdict.specs.Checks.{kept_with}
use Rattle.log_events.specs.declared.watch.EndWatch.{EndWatch}
use Rattle.log_events.specs.Watch.{IsWatchOf}

-- ---- what is closing

module _ (own : List ℕ) (past : Past) (before : ClosesOwn past) where
  by_fact : (g : Fact) → Stands own (count (facts_of past)) (facts_of past) g → (near : ℕ) (thing : Held) → Closes near thing (facts_of past) (Some g) → near_of thing ≡ near
  by_fact (Started peer n id ni) s near thing c = absurd c
  by_fact (Born j) s near thing c = absurd c
  by_fact (Opened j) s near thing c = absurd c
  by_fact (Confirmed peer id) s near thing c = absurd c
  by_fact (Ended peer id why) s near thing c = ap near_of (is_thing thing s.h (sym c.2 ∙ s.thing)) ∙ sym s.id ∙ c.0

  closes_begun : (moment : ℕ) (e : Event) → ClosesOwn (with_begun moment e past)
  closes_begun moment e near thing at (inl c) = absurd c.0
  closes_begun moment e near thing at (inr c) = before near thing at c.1

  closes_plain : (moment : ℕ) (entry : Entry) → fact_in entry ≡ None → ClosesOwn (with_entry moment entry past)
  closes_plain moment entry none near thing at (inl c) = absurd (subst (λ (f : Option Fact). Closes near thing (facts_of past) f) none c.0)
  closes_plain moment entry none near thing at (inr c) = before near thing at c.1

  closes_fact : (moment : ℕ) (g : Fact) → Stands own (count (facts_of past)) (facts_of past) g → ClosesOwn (with_entry moment (FactEntry g) past)
  closes_fact moment g s near thing at (inl c) = by_fact g s near thing c.0
  closes_fact moment g s near thing at (inr c) = before near thing at c.1

  closes_more : (moment : ℕ) (entry : Entry) → MayCome own past entry → ClosesOwn (with_entry moment entry past)
  closes_more moment (FactEntry g) m = closes_fact moment g m.0
  closes_more moment (Closed near) m = closes_plain moment (Closed near) refl
  closes_more moment (Sought near name) m = closes_plain moment (Sought near name) refl
  closes_more moment (Unsought near why) m = closes_plain moment (Unsought near why) refl
  closes_more moment (Moved near to) m = closes_plain moment (Moved near to) refl
  closes_more moment (Learnt generation) m = closes_plain moment (Learnt generation) refl
  closes_more moment (Advanced generation) m = closes_plain moment (Advanced generation) refl
  closes_more moment (FlowOpened near flow) m = closes_plain moment (FlowOpened near flow) refl
  closes_more moment (Queued near flow seq message) m = closes_plain moment (Queued near flow seq message) refl
  closes_more moment (Finished near flow seq) m = closes_plain moment (Finished near flow seq) refl
  closes_more moment (Abandoned near flow seq) m = closes_plain moment (Abandoned near flow seq) refl
  closes_more moment (Handed near flow seq message) m = closes_plain moment (Handed near flow seq message) refl
  closes_more moment (Discard place cause) m = closes_plain moment (Discard place cause) refl
  closes_more moment (Out to datagram context) m = closes_plain moment (Out to datagram context) refl

-- ---- the watch

pub watch_first : (secrets : Secrets) (setup : Setup) (d : Digested) (g : Known) (s : List Stamp) (n : NonceSet) (c : KeptContexts) → IsDigestOf 0 nothing_done d → AreGenerationsOf setup nothing_done g → AreNumbersOf nothing_done s → AreNonces [] n →
    AreContextsOf secrets setup nothing_done c → IsWatchOf secrets setup 0 nothing_done (record { digest = d; generations = g; numbers = s; nonces = n; contexts = c; kept = 0 })
watch_first secrets setup d g s n c digest generations numbers nonces contexts = record {
  digest = digest;
  generations = generations;
  numbers = numbers;
  nonces = nonces;
  contexts = contexts;
  closing = λ near thing at closing. absurd closing;
  zero = refl;
  kept_is = refl;
}

module _ (secrets : Secrets) (setup : Setup) (last : ℕ) (past : Past) (w : EndWatch) (is : IsWatchOf secrets setup last past w) where
  pub watch_begun : (now : ℕ) (e : Event) (d : Digested) (c : KeptContexts) → IsDigestOf now (with_begun now e past) d → AreContextsOf secrets setup (with_begun now e past) c →
      IsWatchOf secrets setup now (with_begun now e past) (record { digest = d; generations = w.generations; numbers = w.numbers; nonces = w.nonces; contexts = c; kept = w.kept })
  watch_begun now e d c digest contexts = record {
    digest = digest;
    generations = they_tell.begins setup past w.generations now e is.generations;
    numbers = events_use_none now e past w.numbers is.numbers;
    nonces = is.nonces;
    contexts = contexts;
    closing = closes_begun [] past is.closing now e;
    zero = is.zero;
    kept_is = is.kept_is;
  }

  module _ (call : Call) (rest : List Entry) (entry : Entry) (of : last_call past ≡ Some call) (line : Line secrets setup last call past rest entry) where
    pub may_come : MayCome (own_of setup) past entry
    may_come = (lawful_may_come secrets setup last call past rest entry of line).0

    pub has_number : HasNumber entry
    has_number = (lawful_may_come secrets setup last call past rest entry of line).1

    pub watch_more : (d : Digested) (g : Known) (s : List Stamp) (n : NonceSet) (c : KeptContexts) (kept : ℕ) → IsDigestOf last (with_entry last entry past) d → AreGenerationsOf setup (with_entry last entry past) g → AreNumbersOf (with_entry last entry past) s →
        AreNonces (nonces_of (facts_of (with_entry last entry past))) n → AreContextsOf secrets setup (with_entry last entry past) c → kept ≡ kept_with (facts_of (with_entry last entry past)) →
        IsWatchOf secrets setup last (with_entry last entry past) (record { digest = d; generations = g; numbers = s; nonces = n; contexts = c; kept = kept })
    watch_more d g s n c kept digest generations numbers nonces contexts kept_is = record {
      digest = digest;
      generations = generations;
      numbers = numbers;
      nonces = nonces;
      contexts = contexts;
      closing = closes_more (own_of setup) past is.closing last entry may_come;
      zero = zero_is_none.adds secrets setup last call past rest entry last last w.digest is.digest line is.zero;
      kept_is = kept_is;
    }

-- ---- a call with a datagram draws nothing for a search

through : (b : Bool) (o : Option (List ℕ)) (datagram : List ℕ) → (if b then o else None) ≡ Some datagram → o ≡ Some datagram
through true o datagram e = e
through false o datagram e = absurd cc

draws_none : (call : Call) (datagram : List ℕ) → datagram_of (receive_in call) ≡ Some datagram → drawn_in (seek_in call) ≡ None
draws_none call datagram e = ap (λ (c : Call). drawn_in (seek_in c)) (call_with call datagram e).1

pub given_draws_none : (e : Event) (datagram : List ℕ) → datagram_in (OfEvent e) ≡ Some datagram → drawn_in (seek_in e.call) ≡ None
given_draws_none e datagram given = draws_none e.call datagram (through (was_gone_through e.answer) (datagram_of (receive_in e.call)) datagram given)
