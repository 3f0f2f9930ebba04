-- Each log that an end stands for is lawful, and its state agrees with it.
use Rattle.std.proofs.Common.{◌≡◌, ℕ, ◌+◌, ◌≤◌, ◌<◌, ◌^◌, max, List, [], ◌∷◌, length, Bool, true, false, cond, Option, Some, None, inl, inr, refl, sym, ap, subst, ◌∙◌, arith}
use Rattle.std.specs.FinMap.{empty, get, insert, get-empty, get-insert}
use Rattle.std.specs.Cmp.Lexicographic.{slice_cmp}
use Rattle.std.proofs.lemmas.Cmp.{nat_list_cmp_total}
use Rattle.std.specs.Ordering.{nat_cmp}
use Rattle.rtmfp_base.proofs.Maps.{none_is_some}
use Rattle.glare_core.specs.Standing.{count}
use Rattle.glare_core.specs.declared.facts.Fact.{Fact}
use Rattle.crypto_profile.specs.declared.group.GroupSecret.{GroupSecret}
use Rattle.endpoint_model.specs.declared.entry.Entry.{Entry}
use Rattle.endpoint_model.specs.declared.entry.Entry.TheVariants.{Learnt, Advanced}
use Rattle.endpoint_model.specs.Views.{fact_in}
use Rattle.endpoint_model.specs.Succession.{next_group, learn_refusal, learning, no_next, advancing_to, advancing}
use Rattle.rtmfp_forms.specs.Address.{AddressParts}
use Rattle.endpoint_model.specs.declared.config.Draws.{Draws}
use Rattle.endpoint_model.specs.declared.answers.Stopped.{Stopped as Stop}
use Rattle.endpoint_model.specs.Event.{Setup, own_of, Call, receive_in, moment_at, Learn, Advance, Succeeds, Open, Seek, Unseek, Cancel, Close, AddRow, Introduce, Narrow, OnFlows, Receive, Tick, Answer, Began, Searching, Done, NotOpened, NotSought, Refused, NotAdded, Stopped, OutOfMemory, Event}
use Rattle.endpoint_model.specs.State.{State, Did, Does, nothing, fresh, at_moment, narrowing}
use Rattle.endpoint_model.specs.Admission.{admission}
use Rattle.endpoint_model.specs.Introducing.{with_redirect, introducing}
use Rattle.endpoint_model.specs.InSessions.{closing}
use Rattle.endpoint_model.specs.OnFlows.{flow_called}
use Rattle.endpoint_model.specs.FlowTimes.{all_late}
use Rattle.endpoint_model.specs.Effects.{opening, seeking, unseeking, cancelling, ticks, received}
use Rattle.endpoint_model.specs.Log.{Answers, Leads, StandsFor, stopped}
use Rattle.introducer.specs.Directory.{AddressRows}
use Rattle.introducer.proofs.FewRows.{few_addresses}
use Rattle.endpoint_laws.specs.Contexts.{Secrets, Knows}
use Rattle.endpoint_laws.specs.Past.{Past, Stamped, OfEvent, stamped, fact_done, out_done, sought_done, begins, WasLearnt, learn_of, with_event, past_of_log, last_call, onto, facts_of, past_of, last_moment, begun, was_gone_through, datagram_in, outs_of}
use Rattle.endpoint_laws.specs.Complete.{outs_in}
use Rattle.endpoint_laws.specs.Laws.{IsSetup, IsCall, AreCalls, EveryLogIsLawful, TheLedgerIsOfTheLog, UsesAreWithin, RowsAreWithin}
use Rattle.endpoint_laws.proofs.Bytes.{of_bytes}
use Rattle.endpoint_laws.proofs.Lines.{FactPart, OutPart, CountPart, EntriesMeet, EventsMeet, events_lawful}
use Rattle.endpoint_laws.proofs.Tied.{Tied, fresh_tied}
use Rattle.endpoint_laws.proofs.Moving.{tied_alike, tied_more, tied_unseen}
use Rattle.endpoint_laws.proofs.Starting.{may_start, goes_opening}
use Rattle.endpoint_laws.proofs.Ending.{goes_cancelling}
use Rattle.endpoint_laws.proofs.SessionChunks.{goes_closing}
use Rattle.endpoint_laws.proofs.OutSessions.{meets_closing}
use Rattle.endpoint_laws.proofs.Hearing.{HeardWell, Heard, had_it, heard_follows}
use Rattle.endpoint_laws.proofs.OnFlows.{goes_flow_called, meets_flow_called}
use Rattle.endpoint_laws.proofs.Made.{opening_made, seeking_made, unseeking_made, cancelling_made, closing_made, called_made}
use Rattle.endpoint_laws.proofs.Searching.{goes_seeking, goes_unseeking}
use Rattle.endpoint_laws.proofs.Following.{follows_quiet, follows_law}
use Rattle.endpoint_laws.proofs.HeardChunks.{heard_begins}
use Rattle.endpoint_laws.proofs.HeardEvents.{AreNamed, are_named, heard_fresh, heard_begun, no_datagram, not_gone_through, gone_through_is, AdmissionHeard}
use Rattle.endpoint_laws.proofs.HeardAdmission.{heard_admission}
use Rattle.endpoint_laws.proofs.Admitting.{admission_is}
use Rattle.endpoint_laws.proofs.Counts.{few_after, answers_counted}
use Rattle.endpoint_laws.proofs.Few.{few_answers, onto_outs}
use Rattle.endpoint_laws.proofs.OutNumbers.{numbered_new, numbered_begun}
use Rattle.endpoint_laws.proofs.OutSends.{AreFew, Sent}
use Rattle.endpoint_laws.proofs.OutBirths.{small_free}
use Rattle.endpoint_laws.proofs.OutItems.{sent_quiet, meets_opening, meets_seeking, meets_unseeking, meets_cancelling}
use Rattle.endpoint_laws.proofs.Orderly.{Orderly, StopHeard, orderly_nothing, orderly_from, tick_all_orderly, received_orderly, stopped_orderly}
use Rattle.endpoint_laws.proofs.Succeeding.{secrets_of_log}
use Rattle.endpoint_laws.proofs.Succeeded.{goes_learning, goes_advancing}
use Rattle.endpoint_laws.proofs.Outset.{IsOutset, outset_begun}
use Rattle.endpoint_laws.proofs.Staged.{staged_fresh, staged_quiet, staged_alike}

-- ---- rows of addresses

few_inserted : (rows : AddressRows) (print : List ℕ) (addresses : List AddressParts) → length addresses ≤ 16 → AreFew rows → AreFew (insert rows print addresses)
few_inserted rows print addresses few all q list e = by _ (sym (get-insert nat_list_cmp_total rows print addresses q) ∙ e)
  where
    by : (b : Bool) → cond b (Some addresses) (get rows q) ≡ Some list → length list ≤ 16
    by true is = let same : addresses ≡ list = cc in subst (λ (l : List AddressParts). length l ≤ 16) same few
    by false is = all q list is

-- ---- calls

-- What a call did is an orderly thing.
pub record CallDid (secrets : Secrets) (setup : Setup) (call : Call) (past : Past) (s t : State) (entries : List Entry) : Type 0 where
  pub did : Did
  pub orderly : Orderly secrets setup call past s did
  pub does : Does did t [] entries

-- What is known of the sessions when the call was made: of a datagram that is gone through, after its admission.
abbrev pub KnownFor : Past → State → Call → Answer → Type 0
KnownFor past s (Receive from datagram draws) Done = AdmissionHeard past s.moment datagram (admission s datagram)
KnownFor past s (Receive from datagram draws) (Stopped stop) = StopHeard datagram past s stop.taken (admission s datagram)
KnownFor past s (Receive from datagram draws) answer = Unit {0}
KnownFor past s call answer = HeardWell past s

module _ (secrets : Secrets) (setup : Setup) (is : IsSetup setup) (past : Past) (outset : IsOutset past) (s t : State) (tied : Tied secrets setup past s) (sent : Sent secrets setup past s) where
  -- the succession of the group's secret
  succeeded_sent : (x : Stamped) (group : GroupSecret) (next : Option GroupSecret) → out_done x.what ≡ None → fact_done x.what ≡ None → sought_done x.what ≡ None → Sent secrets setup (x ∷ past) (record s { group = group; next = next })
  succeeded_sent x group next no_out no_fact no_search =
      let after = sent_quiet secrets setup past s sent x no_out no_fact no_search in
      record { numbered = after.numbered; sized = after.sized; short = after.short; rows = after.rows; staged = staged_alike secrets setup (x ∷ past) s (record s { group = group; next = next }) after.staged refl }

  succeeded_heard : (entry : Entry) (group : GroupSecret) (next : Option GroupSecret) → fact_in entry ≡ None → HeardWell past s → Heard past s (record { state = record s { group = group; next = next }; entries = entry ∷ [] })
  succeeded_heard entry group next none =
      heard_follows s (record { state = record s { group = group; next = next }; entries = entry ∷ [] }) (record { none = (λ near. subst (λ (o : Option Fact). begins near o ≡ false) (sym none) refl, tt); had = λ near row e. had_it s.sessions near row e; moment = refl }) past

  learning_orderly : (secret : List ℕ) → learn_refusal s secret ≡ None → get secrets (s.group.generation + 1) ≡ Some secret → HeardWell past s → Orderly secrets setup (Learn secret) past s (learning s secret)
  learning_orderly secret none known well =
      let entry : Entry = Learnt (s.group.generation + 1) in
      record {
        goes = goes_learning secrets setup past s secret none known tied;
        meets = record { lines = (tt, tt); sent = succeeded_sent (stamped s.moment entry) s.group (Some (next_group s secret)) refl refl refl };
        heard = succeeded_heard entry s.group (Some (next_group s secret)) refl well;
      }

  advancing_orderly : (o : Option GroupSecret) → s.next ≡ o → no_next o ≡ None → HeardWell past s → Orderly secrets setup Advance past s (advancing_to s o)
  advancing_orderly None is none well = absurd (cc)
  advancing_orderly (Some next) is none well =
      let entry : Entry = Advanced next.generation in
      record {
        goes = goes_advancing secrets setup past s next is tied;
        meets = record { lines = (tt, tt); sent = succeeded_sent (stamped s.moment entry) next None refl refl refl };
        heard = succeeded_heard entry next None refl well;
      }

  pub answers_orderly : (call : Call) (answer : Answer) (entries : List Entry) → IsCall call → last_call past ≡ Some call → Knows secrets setup (onto s.moment entries past) → KnownFor past s call answer →
      Answers s call answer entries t → CallDid secrets setup call past s t entries
  answers_orderly (Open peer candidates draws) (Began n) entries fits last knows well h = record {
    did = opening s peer candidates draws;
    orderly = record {
      goes = goes_opening secrets setup past s peer candidates draws is.sessions fits.2 h.0 tied;
      meets = meets_opening secrets setup s.moment (Open peer candidates draws) past s sent tied peer candidates draws fits.0 fits.1 fits.3 (small_free s draws.word fits.2) (may_start s peer candidates h.0).unheld last;
      heard = opening_made follows_quiet heard_begins s peer candidates draws past well;
    };
    does = h.2;
  }
  answers_orderly (Open peer candidates draws) (NotOpened refusal) entries fits last knows well h = record { did = nothing s; orderly = orderly_nothing secrets setup (Open peer candidates draws) past s tied sent well; does = h.1 }
  answers_orderly (Seek name candidates draws) (Searching near) entries fits last knows well h = record {
    did = seeking s name candidates draws;
    orderly = record {
      goes = goes_seeking secrets setup past s name candidates draws is.sessions fits.2 fits.1 (small_free s draws.word fits.2) last h.0 tied;
      meets = meets_seeking secrets setup s.moment (Seek name candidates draws) past s sent tied name candidates draws fits.0 fits.3 last;
      heard = seeking_made follows_quiet heard_begins s name candidates draws past well;
    };
    does = h.2;
  }
  answers_orderly (Seek name candidates draws) (NotSought refusal) entries fits last knows well h = record { did = nothing s; orderly = orderly_nothing secrets setup (Seek name candidates draws) past s tied sent well; does = h.1 }
  answers_orderly (Unseek near) Done entries fits last knows well h = record {
    did = unseeking s near;
    orderly = record { goes = goes_unseeking secrets setup past s near h.0 tied; meets = meets_unseeking secrets setup s.moment (Unseek near) past s sent near; heard = heard_follows s (unseeking s near) (unseeking_made follows_quiet s near) past well };
    does = h.1;
  }
  answers_orderly (Unseek near) (Refused refusal) entries fits last knows well h = record { did = nothing s; orderly = orderly_nothing secrets setup (Unseek near) past s tied sent well; does = h.1 }
  answers_orderly (Cancel n) Done entries fits last knows well h = record {
    did = cancelling s n;
    orderly = record { goes = goes_cancelling secrets setup s n past tied; meets = meets_cancelling secrets setup s.moment (Cancel n) past s n sent tied; heard = heard_follows s (cancelling s n) (cancelling_made follows_quiet s n) past well };
    does = h.1;
  }
  answers_orderly (Cancel n) (Refused refusal) entries fits last knows well h = record { did = nothing s; orderly = orderly_nothing secrets setup (Cancel n) past s tied sent well; does = h.2 }
  answers_orderly (Close near) Done entries fits last knows well h = record {
    did = closing s near;
    orderly = record { goes = goes_closing secrets setup s near past tied; meets = meets_closing secrets setup past s sent tied near; heard = heard_follows s (closing s near) (closing_made follows_quiet s near) past well };
    does = h.1;
  }
  answers_orderly (Close near) (Refused refusal) entries fits last knows well h = record { did = nothing s; orderly = orderly_nothing secrets setup (Close near) past s tied sent well; does = h.2 }
  answers_orderly (AddRow print addresses) Done entries fits last knows well h = record {
    did = nothing (with_redirect s print addresses);
    orderly = orderly_from secrets setup (AddRow print addresses) past s (with_redirect s print addresses) (nothing (with_redirect s print addresses)) refl
        (orderly_nothing secrets setup (AddRow print addresses) past (with_redirect s print addresses) (tied_unseen secrets setup past s s.limit s.introduces (insert s.redirects print addresses) tied)
        (record { numbered = sent.numbered; sized = sent.sized; short = sent.short; rows = few_inserted s.redirects print addresses (few_addresses s.redirects print (length addresses) (sym h.0)) sent.rows; staged = staged_alike secrets setup past s (with_redirect s print addresses) sent.staged refl }) well);
    does = h.1;
  }
  answers_orderly (AddRow print addresses) (NotAdded refusal) entries fits last knows well h = record { did = nothing s; orderly = orderly_nothing secrets setup (AddRow print addresses) past s tied sent well; does = h.1 }
  answers_orderly Introduce Done entries fits last knows well h = record {
    did = nothing (introducing s);
    orderly = orderly_from secrets setup Introduce past s (introducing s) (nothing (introducing s)) refl
        (orderly_nothing secrets setup Introduce past (introducing s) (tied_unseen secrets setup past s s.limit true s.redirects tied) (record { numbered = sent.numbered; sized = sent.sized; short = sent.short; rows = sent.rows; staged = staged_alike secrets setup past s (introducing s) sent.staged refl }) well);
    does = h;
  }
  answers_orderly (Narrow limit) Done entries fits last knows well h = record {
    did = nothing (narrowing s limit);
    orderly = orderly_from secrets setup (Narrow limit) past s (narrowing s limit) (nothing (narrowing s limit)) refl
        (orderly_nothing secrets setup (Narrow limit) past (narrowing s limit) (tied_unseen secrets setup past s limit s.introduces s.redirects tied) (record { numbered = sent.numbered; sized = sent.sized; short = sent.short; rows = sent.rows; staged = staged_alike secrets setup past s (narrowing s limit) sent.staged refl }) well);
    does = h;
  }
  answers_orderly (Learn secret) (Succeeds generation) entries fits last knows well h =
      let number : ℕ = s.group.generation + 1 in
      let was : WasLearnt number secret (onto s.moment entries past) = subst (λ (es : List Entry). WasLearnt number secret (onto s.moment es past)) (sym h.2.entries) (inl (refl, ap learn_of last)) in
      record { did = learning s secret; orderly = learning_orderly secret h.0 (knows.learnt number secret was) well; does = h.2 }
  answers_orderly (Learn secret) (Refused refusal) entries fits last knows well h = record { did = nothing s; orderly = orderly_nothing secrets setup (Learn secret) past s tied sent well; does = h.1 }
  answers_orderly Advance (Succeeds generation) entries fits last knows well h = record { did = advancing s; orderly = advancing_orderly s.next refl h.0 well; does = h.2 }
  answers_orderly Advance (Refused refusal) entries fits last knows well h = record { did = nothing s; orderly = orderly_nothing secrets setup Advance past s tied sent well; does = h.1 }
  answers_orderly (OnFlows near call) Done entries fits last knows well h = record {
    did = flow_called s near call;
    orderly = record {
      goes = goes_flow_called s near call secrets setup (OnFlows near call) past tied;
      meets = meets_flow_called s near call secrets setup (OnFlows near call) past sent;
      heard = heard_follows s (flow_called s near call) (called_made follows_law s near call h.0) past well;
    };
    does = h.1;
  }
  answers_orderly (OnFlows near call) (Refused refusal) entries fits last knows well h = record { did = nothing s; orderly = orderly_nothing secrets setup (OnFlows near call) past s tied sent well; does = h.1 }
  answers_orderly (Receive from datagram draws) Done entries fits last knows well h = record {
    did = received from draws (admission s datagram);
    orderly = received_orderly secrets setup is from datagram draws fits past outset s (admission s datagram) (admission_is secrets setup past s from datagram draws outset last tied sent (of_bytes datagram fits.0)) well;
    does = h;
  }
  answers_orderly (Receive from datagram draws) (Stopped stop) entries fits last knows well h = record {
    did = stopped s from draws (admission s datagram) stop h.acks;
    orderly = stopped_orderly secrets setup is from datagram draws fits past outset s stop h.acks (admission s datagram) tied sent (admission_is secrets setup past s from datagram draws outset last tied sent (of_bytes datagram fits.0)) well;
    does = h.left;
  }
  answers_orderly (Tick draws) Done entries fits last knows well h = record { did = ticks h.0.0 (all_late s); orderly = tick_all_orderly secrets setup (Tick draws) is tt h.0.0 s past tied sent well; does = h.0.1 }
  answers_orderly (Tick draws) OutOfMemory entries fits last knows well h = record { did = ticks h.0.0 (all_late s); orderly = tick_all_orderly secrets setup (Tick draws) is tt h.0.0 s past tied sent well; does = h.0.1 }
  answers_orderly _ _ entries fits last knows well h = absurd h

-- ---- logs

-- What holds of a state and of what was done: the state agrees with it, what went out is counted, and the numbers of attempts are of 64 bits.
pub record Holds (secrets : Secrets) (setup : Setup) (past : Past) (s : State) : Type 0 where
  pub tied : Tied secrets setup past s
  pub sent : Sent secrets setup past s
  pub counted : count (facts_of past) < 2 ^ 64
  pub well : HeardWell past s

-- What holds when an event began, whose datagram may wait to be admitted.
pub record Begun (secrets : Secrets) (setup : Setup) (past : Past) (s : State) (call : Call) (answer : Answer) : Type 0 where
  pub outset : IsOutset past
  pub tied : Tied secrets setup past s
  pub sent : Sent secrets setup past s
  pub counted : count (facts_of past) < 2 ^ 64
  pub last : last_call past ≡ Some call
  pub known : KnownFor past s call answer

-- what an event leaves, and its entries
record Went (secrets : Secrets) (setup : Setup) (call : Call) (past : Past) (s t : State) (entries : List Entry) : Type 0 where
  facts : EntriesMeet FactPart secrets setup s.moment call past entries
  outs : EntriesMeet OutPart secrets setup s.moment call past entries
  counts : EntriesMeet CountPart secrets setup s.moment call past entries
  holds : Holds secrets setup (onto s.moment entries past) t
  moment : t.moment ≡ s.moment
  few : t.sealed ≤ s.sealed + outs_in entries

answers_went : (secrets : Secrets) (setup : Setup) → IsSetup setup → (past : Past) (s t : State) (call : Call) (answer : Answer) (entries : List Entry) → Begun secrets setup past s call answer → IsCall call → Knows secrets setup (onto s.moment entries past) → Answers s call answer entries t →
    Went secrets setup call past s t entries
answers_went secrets setup is past s t call answer entries begun fits knows h =
    let o = answers_orderly secrets setup is past begun.outset s t begun.tied begun.sent call answer entries fits begun.last knows begun.known h in
    let d : Did = o.did in
    let added : d.entries ≡ entries = sym o.does.entries in
    let left : d.state ≡ t = sym o.does.state in
    let facts : EntriesMeet FactPart secrets setup s.moment call past entries = subst (λ (es : List Entry). EntriesMeet FactPart secrets setup s.moment call past es) added o.orderly.goes.meets in
    let counts : EntriesMeet CountPart secrets setup s.moment call past entries = answers_counted secrets setup s.moment past s t call answer entries begun.tied begun.counted facts h in
    record {
      facts = facts;
      outs = subst (λ (es : List Entry). EntriesMeet OutPart secrets setup s.moment call past es) added o.orderly.meets.lines;
      counts = counts;
      holds = record {
        tied = subst (λ (u : State). Tied secrets setup (onto s.moment entries past) u) left (subst (λ (es : List Entry). Tied secrets setup (onto s.moment es past) d.state) added o.orderly.goes.tied);
        sent = subst (λ (u : State). Sent secrets setup (onto s.moment entries past) u) left (subst (λ (es : List Entry). Sent secrets setup (onto s.moment es past) d.state) added o.orderly.meets.sent);
        counted = few_after secrets setup s.moment call past entries facts counts begun.counted;
        well = subst (λ (u : State). HeardWell (onto s.moment entries past) u) left (subst (λ (es : List Entry). HeardWell (onto s.moment es past) d.state) added o.orderly.heard.well);
      };
      moment = ap (λ (u : State). u.moment) o.does.state ∙ o.orderly.goes.moment;
      few = few_answers s t call answer entries h;
    }

-- the rows' session IDs
pub named_by : (secrets : Secrets) (setup : Setup) (past : Past) (s : State) → Tied secrets setup past s → AreNamed s
named_by secrets setup past s tied = are_named s (λ near row e. (tied.sessions near row e).id) tied.apart (tied.used 0 ∙ tied.not_zero)

module _ (secrets : Secrets) (setup : Setup) (past : Past) (s : State) (e : Event) (holds : Holds secrets setup past s) (fits : IsCall e.call) where
  abbrev start : Past
  start = begun (max s.moment e.moment) e ∷ past

  abbrev noted : State
  noted = at_moment s e.moment

  -- no datagram waits
  none_waits : datagram_in (OfEvent e) ≡ None → HeardWell start noted
  none_waits none = heard_begun past s e none holds.well

  no_receive : (call : Call) → e.call ≡ call → receive_in call ≡ None → HeardWell start noted
  no_receive call is none = none_waits (no_datagram e (ap receive_in is ∙ none))

  admitted : (from : AddressParts) (datagram : List ℕ) (draws : Draws) → e.call ≡ Receive from datagram draws → was_gone_through e.answer ≡ true → AdmissionHeard start noted.moment datagram (admission noted datagram)
  admitted from datagram draws is gone =
      let bytes : IsCall (Receive from datagram draws) = subst IsCall is fits in
      heard_admission past s e datagram (of_bytes datagram bytes.0) (gone_through_is e (record { from = from; datagram = datagram; draws = draws }) (ap receive_in is) gone) (named_by secrets setup past s holds.tied) holds.well

  waits : (from : AddressParts) (datagram : List ℕ) (draws : Draws) (stop : Stop) → e.call ≡ Receive from datagram draws → e.answer ≡ Stopped stop → StopHeard datagram start noted stop.taken (admission noted datagram)
  waits from datagram draws stop is answer = by stop.taken (ap was_gone_through answer)
    where
      by : (b : Bool) → was_gone_through e.answer ≡ b → StopHeard datagram start noted b (admission noted datagram)
      by true gone = admitted from datagram draws is gone
      by false gone = none_waits (not_gone_through e gone)

  known_for : (call : Call) (answer : Answer) → e.call ≡ call → e.answer ≡ answer → KnownFor start noted call answer
  known_for (Receive from datagram draws) Done is said = admitted from datagram draws is (ap was_gone_through said)
  known_for (Receive from datagram draws) (Stopped stop) is said = waits from datagram draws stop is said
  known_for (Receive from datagram draws) answer is said = tt
  known_for call answer is said = no_receive call is refl

  -- an event began, whose moment is noted
  pub holds_begun : Begun secrets setup start noted e.call e.answer
  holds_begun = record {
    outset = outset_begun (max s.moment e.moment) e past;
    tied = tied_more secrets setup past noted (begun (max s.moment e.moment) e) (omega arith) refl refl refl refl refl refl (tied_alike secrets setup past s (max s.moment e.moment) s.sealed (omega arith) holds.tied);
    sent = record { numbered = numbered_begun (own_of setup) past s.sealed s.sessions holds.sent.numbered (max s.moment e.moment) e; sized = holds.sent.sized; short = holds.sent.short; rows = holds.sent.rows; staged = staged_alike secrets setup start s noted (staged_quiet secrets setup past s holds.sent.staged (begun (max s.moment e.moment) e) refl refl refl) refl };
    counted = holds.counted;
    last = refl;
    known = known_for e.call e.answer refl refl;
  }

-- What is said of a log that leads from one state to another. It is the one induction over logs.
pub record LogIs (secrets : Secrets) (setup : Setup) (past : Past) (s : State) (log : List Event) (t : State) : Type 0 where
  pub facts : EventsMeet FactPart secrets setup s.moment past log
  pub outs : EventsMeet OutPart secrets setup s.moment past log
  pub counts : EventsMeet CountPart secrets setup s.moment past log
  pub holds : Holds secrets setup (past_of s.moment past log) t
  pub moment : t.moment ≡ last_moment s.moment log
  pub few : t.sealed + outs_of past ≤ s.sealed + outs_of (past_of s.moment past log)

-- what knows all that was learnt knows what was learnt before
learnt_onto : (now : ℕ) (entries : List Entry) (past : Past) (generation : ℕ) (secret : List ℕ) → WasLearnt generation secret past → WasLearnt generation secret (onto now entries past)
learnt_onto now [] past generation secret was = was
learnt_onto now (entry ∷ rest) past generation secret was = learnt_onto now rest (stamped now entry ∷ past) generation secret (inr was)

learnt_later : (last : ℕ) (past : Past) (log : List Event) (generation : ℕ) (secret : List ℕ) → WasLearnt generation secret past → WasLearnt generation secret (past_of last past log)
learnt_later last past [] generation secret was = was
learnt_later last past (e ∷ log) generation secret was =
    learnt_later (moment_at last e) (with_event (moment_at last e) e past) log generation secret (learnt_onto (moment_at last e) e.entries (begun (moment_at last e) e ∷ past) generation secret (inr was))

knows_before : (secrets : Secrets) (setup : Setup) (last : ℕ) (past : Past) (log : List Event) → Knows secrets setup (past_of last past log) → Knows secrets setup past
knows_before secrets setup last past log knows = record { first = knows.first; learnt = λ generation secret was. knows.learnt generation secret (learnt_later last past log generation secret was) }

leads_go : (secrets : Secrets) (setup : Setup) → IsSetup setup → (past : Past) (log : List Event) (s t : State) → Knows secrets setup (past_of s.moment past log) → AreCalls log → Holds secrets setup past s → Leads s log t → LogIs secrets setup past s log t
leads_go secrets setup is past [] s t knows calls holds leads = record {
  facts = tt;
  outs = tt;
  counts = tt;
  holds = subst (Holds secrets setup past) leads holds;
  moment = ap (λ (u : State). u.moment) (sym leads);
  few = omega (arith, ap (λ (u : State). u.sealed) leads);
}
leads_go secrets setup is past (e ∷ log) s t knows calls holds leads =
    let noted : State = at_moment s e.moment in
    let middle : State = leads.0 in
    let start : Past = begun noted.moment e ∷ past in
    let after : Past = onto noted.moment e.entries start in
    let one : Went secrets setup e.call start noted middle e.entries = answers_went secrets setup is start noted middle e.call e.answer e.entries (holds_begun secrets setup past s e holds calls.0) calls.0 (knows_before secrets setup noted.moment after log knows) leads.1 in
    let rest : LogIs secrets setup after middle log t = leads_go secrets setup is after log middle t (subst (λ (m : ℕ). Knows secrets setup (past_of m after log)) (sym one.moment) knows) calls.1 one.holds leads.2 in
    record {
      facts = (one.facts, subst (λ (m : ℕ). EventsMeet FactPart secrets setup m after log) one.moment rest.facts);
      outs = (one.outs, subst (λ (m : ℕ). EventsMeet OutPart secrets setup m after log) one.moment rest.outs);
      counts = (one.counts, subst (λ (m : ℕ). EventsMeet CountPart secrets setup m after log) one.moment rest.counts);
      holds = subst (λ (m : ℕ). Holds secrets setup (past_of m after log) t) one.moment rest.holds;
      moment = rest.moment ∙ ap (λ (m : ℕ). last_moment m log) one.moment;
      few = omega (arith, one.few, rest.few, onto_outs noted.moment e.entries start, ap (λ (m : ℕ). outs_of (past_of m after log)) one.moment);
    }

sent_fresh : (secrets : Secrets) (setup : Setup) → Sent secrets setup [] (fresh setup)
sent_fresh secrets setup = record {
  numbered = numbered_new (own_of setup);
  sized = tt;
  short = λ near a e. absurd (none_is_some a (get {R = nat_cmp} empty near) (get-empty nat_cmp near) e);
  rows = λ print addresses e. absurd (none_is_some addresses (get {R = slice_cmp nat_cmp} empty print) (get-empty (slice_cmp nat_cmp) print) e);
  staged = staged_fresh secrets setup;
}

pub log_is : (secrets : Secrets) (setup : Setup) (log : List Event) (s : State) → Knows secrets setup (past_of_log log) → IsSetup setup → AreCalls log → StandsFor setup log s → LogIs secrets setup [] (fresh setup) log s
log_is secrets setup log s knows is calls stands =
    leads_go secrets setup is [] log (fresh setup) s knows calls (record { tied = fresh_tied secrets setup knows.first; sent = sent_fresh secrets setup; counted = omega arith; well = heard_fresh setup }) stands

-- the state agrees with its log, by a map with its secrets
pub record TiedToLog (setup : Setup) (log : List Event) (s : State) : Type 0 where
  pub secrets : Secrets
  pub tied : Tied secrets setup (past_of 0 [] log) s

pub tied_to_log : (setup : Setup) (log : List Event) (s : State) → IsSetup setup → AreCalls log → StandsFor setup log s → TiedToLog setup log s
tied_to_log setup log s is calls stands =
    let all = secrets_of_log setup log s stands in
    record { secrets = all.0; tied = (log_is all.0 setup log s all.1 is calls stands).holds.tied }

-- ---- the laws

pub every_log_is_lawful : EveryLogIsLawful
every_log_is_lawful secrets setup log s knows is calls stands =
    let said = log_is secrets setup log s knows is calls stands in
    events_lawful secrets setup 0 [] log said.facts said.counts said.outs

pub ledger_of_log : TheLedgerIsOfTheLog
ledger_of_log setup log s is calls stands = (tied_to_log setup log s is calls stands).tied.account

pub uses_within : UsesAreWithin
uses_within setup log s is calls stands = (tied_to_log setup log s is calls stands).tied.within

pub rows_within : RowsAreWithin
rows_within setup log s is calls stands = (tied_to_log setup log s is calls stands).tied.rows
