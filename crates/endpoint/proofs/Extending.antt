-- What a call did, by the clauses of its method, and that it brings an end from each log that it stands for to that log with its event.
use Rattle.std.proofs.Common.{◌≡◌, ◌+◌, ℕ, List, [], ◌∷◌, ◌++◌, drop, length, Option, Some, None, Ok, Err, Result, OnOk, OnErr, IfErr, IfOk, IfSome, IfNone, IsSome, refl, sym, ap, ◌∙◌, subst, max, arith}
use Rattle.std.proofs.lemmas.List.{append-nil}
use Rattle.rtmfp_base.specs.declared.memory.Memory.{Memory}
use Rattle.rtmfp_forms.specs.Address.{AddressParts}
use Rattle.introducer.specs.declared.refusal.RowRefusal.{RowRefusal}
use Rattle.introducer.specs.declared.refusal.RowRefusal.TheVariants.{Memory as NoMemoryForRow}
use Rattle.introducer.specs.Directory.{row_refusal}
use Rattle.startup.specs.Attempts.{cancel_fact}
use Rattle.session_flows.specs.declared.refusal.CallRefusal.{CallRefusal}
use Rattle.session_flows.specs.declared.refusal.CallRefusal.TheVariants.{NoAttempt, NoSession, Memory as NoMemory}
use Rattle.endpoint_model.specs.declared.config.Draws.{Draws}
use Rattle.endpoint.specs.declared.call.Answered.{Answered}
use Rattle.endpoint.specs.declared.call.Answered.TheVariants as told
use Rattle.endpoint_model.specs.declared.answers.OpenRefusal.{OpenRefusal}
use Rattle.endpoint_model.specs.declared.answers.OpenRefusal.TheVariants.{Memory as NoMemoryToOpen}
use Rattle.endpoint_model.specs.declared.answers.SeekRefusal.{SeekRefusal}
use Rattle.endpoint_model.specs.declared.answers.SeekRefusal.TheVariants.{Memory as NoMemoryToSeek}
use Rattle.endpoint_model.specs.declared.answers.Stopped.{Stopped as Stop}
use Rattle.endpoint_model.specs.declared.entry.Entry.{Entry}
use Rattle.endpoint_model.specs.Added.{Added}
use Rattle.endpoint_model.specs.Event.{Event, Call, Open, Seek, Unseek, Cancel, Close, AddRow, Introduce, Narrow, Learn, Advance, OnFlows, Tick, Answer, Done as IsDone, Succeeds as IsSucceeds, Refused as IsRefused, NotAdded as IsNotAdded}
use Rattle.endpoint_model.specs.Introducing.{with_redirect, introducing}
use Rattle.endpoint_model.specs.Succession.{learn_refusal, learning, advance_refusal, advancing}
use Rattle.endpoint_model.specs.State.{State, Did, Does, Done, nothing, fresh, at_moment, narrowing, free_from}
use Rattle.endpoint_model.specs.Admission.{admission}
use Rattle.endpoint_model.specs.InSessions.{held_row, closing}
use Rattle.endpoint_model.specs.FlowCall.{FlowCall}
use Rattle.endpoint_model.specs.OnFlows.{call_refusal, flow_called}
use Rattle.endpoint_model.specs.FlowTimes.{all_late}
use Rattle.endpoint_model.specs.Effects.{open_refusal, opening, seek_refusal, seeking, unseek_refusal, unseeking, cancelling, ticks, received, first_due}
use Rattle.endpoint_model.specs.Log.{Step, Answers, Leads, Extends, IsTaken, StopsSo, not_opened, not_sought, not_added, not_called, answer_of_open, answer_of_seek, answer_of_call, answer_of_row, answer_of_succession, answer_of_tick, event, open_event, seek_event, unseek_event, cancel_event, close_event, flow_event, row_event, introduce_event, narrow_event, learn_event, advance_event, tick_event, receive_event}
use Rattle.endpoint.specs.Calls.{moment_given, answer_of, Gives, Adds, Called, called_event}
use Rattle.endpoint.specs.Answered.{began, sought, done_as, done, added_row, succeeded, ticked}

-- ---- a call and its event

leads_more : (s t u : State) (es : List Event) (e : Event) → Leads s es t → Step t e u → Leads s (es ++ e ∷ []) u
leads_more s t u [] e h step = (u, (let P : State → Type 0 = λ x. Step x e u in subst P (sym h) step), refl)
leads_more s t u (d ∷ es) e h step = (h.0, h.1, leads_more h.0 t u es e h.2 step)

pub extends : (s t : State) (e : Event) → Step s e t → Extends s t e
extends s t e step setup log stands = leads_more (fresh setup) s t log e stands step

added : (before es : List Entry) → drop (length before) (before ++ es) ≡ es
added [] es = refl
added (e ∷ before) es = added before es

-- the entries of the event are those that the call added
pub called_step : (s t : State) (moment : ℕ) (call : Call) (answered : Answered) (before after : Added) → Called s moment call answered t before after →
    Step s (called_event moment call answered before.entries after.entries) t
called_step s t moment call answered before after did =
    let same : drop (length before.entries) after.entries ≡ did.entries = ap (drop (length before.entries)) did.added.entries_are ∙ added before.entries did.entries in
    subst (λ (es : List Entry). Answers (at_moment s (moment_given call moment)) call (answer_of answered) es t) (sym same) did.answers

pub called_extends : (s t : State) (moment : ℕ) (call : Call) (answered : Answered) (before after : Added) → Called s moment call answered t before after →
    Extends s t (called_event moment call answered before.entries after.entries)
called_extends s t moment call answered before after did =
    extends s t (called_event moment call answered before.entries after.entries) (called_step s t moment call answered before after did)

-- the same of the method of its name, whose answer the log has so
pub method_extends : (s t : State) (moment : ℕ) (call : Call) (answered : Answered) (before after : Added) (answer : Answer) → answer_of answered ≡ answer → Called s moment call answered t before after →
    Extends s t (event (moment_given call moment) call answer before.entries after.entries)
method_extends s t moment call answered before after answer same did =
    subst (λ (a : Answer). Extends s t (event (moment_given call moment) call a before.entries after.entries)) same (called_extends s t moment call answered before after did)

-- where nothing is added the event has no entry
silent : (before : List Entry) → drop (length before) before ≡ []
silent before = ap (drop (length before)) (sym (append-nil before)) ∙ added before []

-- ---- what was done, as the event has it

does : (d : Did) (t : State) (before after : Added) → Done d t before after → Does d t [] d.entries
does d t before after h = record { state = h.state; entries = refl }

-- what was done, alone
pub alone : (d : Did) (t : State) (before after : Added) → Done d t before after → Does d t [] (drop (length before.entries) after.entries)
alone d t before after h = record { state = h.state; entries = ap (drop (length before.entries)) h.entries ∙ added before.entries d.entries }

adds : (d : Did) (t : State) (before after : Added) → Done d t before after → Adds d.entries before after
adds d t before after h = record { entries_are = h.entries; free = h.free; room = h.room }

adds_none : (out : Added) → Adds [] out out
adds_none out = record { entries_are = sym (append-nil out.entries); free = omega arith; room = refl }

-- a call that gives no moment
at_zero : (s : State) → at_moment s 0 ≡ s
at_zero s =
    let same : max s.moment 0 ≡ s.moment = omega arith in
    ap (λ (m : ℕ). record s { moment = m }) same

unnoted : (s t : State) (call : Call) (answer : Answer) (entries : List Entry) → Answers s call answer entries t → Answers (at_moment s 0) call answer entries t
unnoted s t call answer entries h = subst (λ (x : State). Answers x call answer entries t) (sym (at_zero s)) h

-- ---- why it is refused

none_by : {A E : Type 0} (o : Option E) (x : A) → IfSome o (λ e. ◌≡◌ {A = Result A E} (Ok x) (Err e)) → o ≡ None
none_by None x h = refl
none_by (Some e) x h = absurd (cc)

same_error : (A : Type 0) {E : Type 0} (e f : E) → ◌≡◌ {A = Result A E} (Err e) (Err f) → e ≡ f
same_error A e f h = cc

why_by : (A : Type 0) {E : Type 0} (o : Option E) (none e : E) (why : Option E → E) → why None ≡ none → ((x : E) → why (Some x) ≡ x) → IfSome o (λ x. ◌≡◌ {A = Result A E} (Err e) (Err x)) → IfNone o (e ≡ none) → e ≡ why o
why_by A None none e why first rest h m = m ∙ sym first
why_by A (Some x) none e why first rest h m = same_error A e x h ∙ sym (rest x)

some_by : {A B E : Type 0} (o : Option B) (x : A) (e : E) → IfNone o (◌≡◌ {A = Result A E} (Ok x) (Err e)) → IsSome o
some_by None x e h = absurd (cc)
some_by (Some y) x e h = refl

no_other : (A : Type 0) {B E : Type 0} (o : Option B) (e f : E) → IfNone o (◌≡◌ {A = Result A E} (Err e) (Err f)) → IfNone o (e ≡ f)
no_other A None e f h = same_error A e f h
no_other A (Some y) e f h = tt

-- ---- the calls, by the clauses of their methods

pub opened : (s t : State) (moment : ℕ) (peer : List ℕ) (candidates : List AddressParts) (draws : Draws) (r : Result ℕ OpenRefusal) (before after : Added) →
    IfOk r (λ n. n ≡ s.startup.ledger.started + 1) →
    OnOk r (Done (opening (at_moment s moment) peer candidates draws) t before after) →
    IfSome (open_refusal (at_moment s moment) peer candidates) (λ refusal. r ≡ Err refusal) →
    IfNone (open_refusal (at_moment s moment) peer candidates) (IfErr r (λ refusal. refusal ≡ NoMemoryToOpen)) →
    OnErr r (Done (nothing (at_moment s moment)) t before after) →
    Called s moment (Open peer candidates draws) (began r) t before after
opened s t moment peer candidates draws (Ok n) before after number ok refused memory err =
    let d : Did = opening (at_moment s moment) peer candidates draws in
    record {
      entries = d.entries;
      answers = (none_by (open_refusal (at_moment s moment) peer candidates) n refused, number, does d t before after ok);
      numbered = tt;
      added = adds d t before after ok;
    }
opened s t moment peer candidates draws (Err refusal) before after number ok refused memory err = record {
  entries = [];
  answers = (
    why_by ℕ (open_refusal (at_moment s moment) peer candidates) NoMemoryToOpen refusal not_opened refl (λ x. refl) refused memory,
    does (nothing (at_moment s moment)) t before after err,
  );
  numbered = tt;
  added = adds (nothing (at_moment s moment)) t before after err;
}

pub searched : (s t : State) (moment : ℕ) (name : List ℕ) (candidates : List AddressParts) (draws : Draws) (r : Result ℕ SeekRefusal) (before after : Added) →
    IfOk r (λ near. near ≡ free_from (at_moment s moment) draws.word) →
    OnOk r (Done (seeking (at_moment s moment) name candidates draws) t before after) →
    IfSome (seek_refusal (at_moment s moment) candidates) (λ refusal. r ≡ Err refusal) →
    IfNone (seek_refusal (at_moment s moment) candidates) (IfErr r (λ refusal. refusal ≡ NoMemoryToSeek)) →
    OnErr r (Done (nothing (at_moment s moment)) t before after) →
    Called s moment (Seek name candidates draws) (sought r) t before after
searched s t moment name candidates draws (Ok near) before after near_is ok refused memory err =
    let d : Did = seeking (at_moment s moment) name candidates draws in
    record {
      entries = d.entries;
      answers = (none_by (seek_refusal (at_moment s moment) candidates) near refused, near_is, does d t before after ok);
      numbered = tt;
      added = adds d t before after ok;
    }
searched s t moment name candidates draws (Err refusal) before after near_is ok refused memory err = record {
  entries = [];
  answers = (
    why_by ℕ (seek_refusal (at_moment s moment) candidates) NoMemoryToSeek refusal not_sought refl (λ x. refl) refused memory,
    does (nothing (at_moment s moment)) t before after err,
  );
  numbered = tt;
  added = adds (nothing (at_moment s moment)) t before after err;
}

pub unsought : (s t : State) (moment near : ℕ) (r : Result (Unit {0}) CallRefusal) (before after : Added) →
    OnOk r (Done (unseeking s near) t before after) →
    IfSome (unseek_refusal s near) (λ refusal. r ≡ Err refusal) →
    IfNone (unseek_refusal s near) (IfErr r (λ refusal. refusal ≡ NoMemory)) →
    OnErr r (Done (nothing s) t before after) →
    Called s moment (Unseek near) (done r) t before after
unsought s t moment near (Ok x) before after ok refused memory err = record {
  entries = (unseeking s near).entries;
  answers = unnoted s t (Unseek near) IsDone (unseeking s near).entries (none_by (unseek_refusal s near) x refused, does (unseeking s near) t before after ok);
  numbered = tt;
  added = adds (unseeking s near) t before after ok;
}
unsought s t moment near (Err refusal) before after ok refused memory err = record {
  entries = [];
  answers = unnoted s t (Unseek near) (IsRefused refusal) [] (
    why_by (Unit {0}) (unseek_refusal s near) NoMemory refusal not_called refl (λ x. refl) refused memory,
    does (nothing s) t before after err,
  );
  numbered = tt;
  added = adds (nothing s) t before after err;
}

pub cancelled : (s t : State) (moment n : ℕ) (r : Result (Unit {0}) CallRefusal) (before after : Added) →
    OnOk r (Done (cancelling s n) t before after) →
    IfNone (cancel_fact s.startup n) (r ≡ Err NoAttempt) →
    IfSome (cancel_fact s.startup n) (λ _. IfErr r (λ refusal. refusal ≡ NoMemory)) →
    OnErr r (Done (nothing s) t before after) →
    Called s moment (Cancel n) (done r) t before after
cancelled s t moment n (Ok x) before after ok refused memory err = record {
  entries = (cancelling s n).entries;
  answers = unnoted s t (Cancel n) IsDone (cancelling s n).entries (some_by (cancel_fact s.startup n) x NoAttempt refused, does (cancelling s n) t before after ok);
  numbered = tt;
  added = adds (cancelling s n) t before after ok;
}
cancelled s t moment n (Err refusal) before after ok refused memory err = record {
  entries = [];
  answers = unnoted s t (Cancel n) (IsRefused refusal) [] (no_other (Unit {0}) (cancel_fact s.startup n) refusal NoAttempt refused, memory, does (nothing s) t before after err);
  numbered = tt;
  added = adds (nothing s) t before after err;
}

pub closed : (s t : State) (moment near : ℕ) (r : Result (Unit {0}) CallRefusal) (before after : Added) →
    OnOk r (Done (closing (at_moment s moment) near) t before after) →
    IfNone (held_row s near) (r ≡ Err NoSession) →
    IfSome (held_row s near) (λ _. IfErr r (λ refusal. refusal ≡ NoMemory)) →
    OnErr r (Done (nothing (at_moment s moment)) t before after) →
    Called s moment (Close near) (done r) t before after
closed s t moment near (Ok x) before after ok refused memory err = record {
  entries = (closing (at_moment s moment) near).entries;
  answers = (some_by (held_row s near) x NoSession refused, does (closing (at_moment s moment) near) t before after ok);
  numbered = tt;
  added = adds (closing (at_moment s moment) near) t before after ok;
}
closed s t moment near (Err refusal) before after ok refused memory err = record {
  entries = [];
  answers = (no_other (Unit {0}) (held_row s near) refusal NoSession refused, memory, does (nothing (at_moment s moment)) t before after err);
  numbered = tt;
  added = adds (nothing (at_moment s moment)) t before after err;
}

-- a call on flows, which gives such a number where it is done
pub on_flows : {A : Type 0} (P : A → Type 0) (answer : A → Answered) (s t : State) (moment near : ℕ) (call : FlowCall) (r : Result A CallRefusal) (before after : Added) →
    ((x : A) → P x → (answer_of (answer x) ≡ IsDone) × Gives near call (answer x) (flow_called s near call).entries) →
    IfOk r P →
    OnOk r (Done (flow_called s near call) t before after) →
    IfSome (call_refusal s near call) (λ refusal. r ≡ Err refusal) →
    IfNone (call_refusal s near call) (IfErr r (λ refusal. refusal ≡ NoMemory)) →
    OnErr r (Done (nothing s) t before after) →
    Called s moment (OnFlows near call) (done_as answer r) t before after
on_flows {A} P answer s t moment near call (Ok x) before after gives number ok refused memory err =
    let d : Did = flow_called s near call in
    record {
      entries = d.entries;
      answers = subst (λ (a : Answer). Answers (at_moment s 0) (OnFlows near call) a d.entries t) (sym (gives x number).0)
          (unnoted s t (OnFlows near call) IsDone d.entries (none_by (call_refusal s near call) x refused, does d t before after ok));
      numbered = (gives x number).1;
      added = adds d t before after ok;
    }
on_flows {A} P answer s t moment near call (Err refusal) before after gives number ok refused memory err = record {
  entries = [];
  answers = unnoted s t (OnFlows near call) (IsRefused refusal) [] (why_by A (call_refusal s near call) NoMemory refusal not_called refl (λ x. refl) refused memory, does (nothing s) t before after err);
  numbered = tt;
  added = adds (nothing s) t before after err;
}

pub always : {A E : Type 0} (r : Result A E) → IfOk r (λ _. Unit {0})
always (Ok x) = tt
always (Err e) = tt

pub row_added : (s t : State) (moment : ℕ) (print : List ℕ) (addresses : List AddressParts) (r : Result (Unit {0}) RowRefusal) (out : Added) →
    OnOk r (t ≡ with_redirect s print addresses) →
    IfSome (row_refusal s.redirects print (length addresses)) (λ refusal. r ≡ Err refusal) →
    IfNone (row_refusal s.redirects print (length addresses)) (IfErr r (λ refusal. refusal ≡ NoMemoryForRow)) →
    OnErr r (t ≡ s) →
    Called s moment (AddRow print addresses) (added_row r) t out out
row_added s t moment print addresses (Ok x) out ok refused memory err = record {
  entries = [];
  answers = unnoted s t (AddRow print addresses) IsDone [] (none_by (row_refusal s.redirects print (length addresses)) x refused, record { state = ok; entries = refl });
  numbered = tt;
  added = adds_none out;
}
row_added s t moment print addresses (Err refusal) out ok refused memory err = record {
  entries = [];
  answers = unnoted s t (AddRow print addresses) (IsNotAdded refusal) [] (
    why_by (Unit {0}) (row_refusal s.redirects print (length addresses)) NoMemoryForRow refusal not_added refl (λ x. refl) refused memory,
    record { state = err; entries = refl },
  );
  numbered = tt;
  added = adds_none out;
}

pub introduced : (s t : State) (moment : ℕ) (out : Added) → t ≡ introducing s → Called s moment Introduce told.Done t out out
introduced s t moment out is = record {
  entries = [];
  answers = unnoted s t Introduce IsDone [] (record { state = is; entries = refl });
  numbered = tt;
  added = adds_none out;
}

pub narrowed : (s t : State) (moment limit : ℕ) (out : Added) → t ≡ narrowing s limit → Called s moment (Narrow limit) told.Done t out out
narrowed s t moment limit out is = record {
  entries = [];
  answers = unnoted s t (Narrow limit) IsDone [] (record { state = is; entries = refl });
  numbered = tt;
  added = adds_none out;
}

-- Of generations: the number is that of the log, where it is done.
pub learnt : (s t : State) (moment : ℕ) (secret : List ℕ) (r : Result ℕ CallRefusal) (before after : Added) →
    IfOk r (λ number. number ≡ s.group.generation + 1) →
    OnOk r (Done (learning s secret) t before after) →
    IfSome (learn_refusal s secret) (λ refusal. r ≡ Err refusal) →
    IfNone (learn_refusal s secret) (IfErr r (λ refusal. refusal ≡ NoMemory)) →
    OnErr r (Done (nothing s) t before after) →
    Called s moment (Learn secret) (succeeded r) t before after
learnt s t moment secret (Ok n) before after number ok refused memory err = record {
  entries = (learning s secret).entries;
  answers = unnoted s t (Learn secret) (IsSucceeds n) (learning s secret).entries (none_by (learn_refusal s secret) n refused, number, does (learning s secret) t before after ok);
  numbered = tt;
  added = adds (learning s secret) t before after ok;
}
learnt s t moment secret (Err refusal) before after number ok refused memory err = record {
  entries = [];
  answers = unnoted s t (Learn secret) (IsRefused refusal) [] (why_by ℕ (learn_refusal s secret) NoMemory refusal not_called refl (λ x. refl) refused memory, does (nothing s) t before after err);
  numbered = tt;
  added = adds (nothing s) t before after err;
}

pub advanced : (s t : State) (moment : ℕ) (r : Result ℕ CallRefusal) (before after : Added) →
    IfOk r (λ number. number ≡ t.group.generation) →
    OnOk r (Done (advancing s) t before after) →
    IfSome (advance_refusal s) (λ refusal. r ≡ Err refusal) →
    IfNone (advance_refusal s) (IfErr r (λ refusal. refusal ≡ NoMemory)) →
    OnErr r (Done (nothing s) t before after) →
    Called s moment Advance (succeeded r) t before after
advanced s t moment (Ok n) before after number ok refused memory err = record {
  entries = (advancing s).entries;
  answers = unnoted s t Advance (IsSucceeds n) (advancing s).entries (none_by (advance_refusal s) n refused, number, does (advancing s) t before after ok);
  numbered = tt;
  added = adds (advancing s) t before after ok;
}
advanced s t moment (Err refusal) before after number ok refused memory err = record {
  entries = [];
  answers = unnoted s t Advance (IsRefused refusal) [] (why_by ℕ (advance_refusal s) NoMemory refusal not_called refl (λ x. refl) refused memory, does (nothing s) t before after err);
  numbered = tt;
  added = adds (nothing s) t before after err;
}

pub ticked_as : (s t : State) (moment : ℕ) (draws : Draws) (r : Result (Unit {0}) Memory) (before after : Added) →
    (count : ℕ) × Done (ticks count (all_late (at_moment s moment))) t before after → OnOk r (first_due t ≡ None) → OnErr r (IsSome (first_due t)) →
    Called s moment (Tick draws) (ticked r) t before after
ticked_as s t moment draws (Ok x) before after some all left =
    let d : Did = ticks some.0 (all_late (at_moment s moment)) in
    record { entries = d.entries; answers = ((some.0, does d t before after some.1), all); numbered = tt; added = adds d t before after some.1 }
ticked_as s t moment draws (Err memory) before after some all left =
    let d : Did = ticks some.0 (all_late (at_moment s moment)) in
    record { entries = d.entries; answers = ((some.0, does d t before after some.1), left); numbered = tt; added = adds d t before after some.1 }

-- ---- the answers of their methods, as the log has them

pub answer_of_began : (r : Result ℕ OpenRefusal) → answer_of (began r) ≡ answer_of_open r
answer_of_began (Ok n) = refl
answer_of_began (Err refusal) = refl

answer_of_sought : (r : Result ℕ SeekRefusal) → answer_of (sought r) ≡ answer_of_seek r
answer_of_sought (Ok near) = refl
answer_of_sought (Err refusal) = refl

pub answer_of_done : {A : Type 0} (answer : A → Answered) (r : Result A CallRefusal) → ((x : A) → answer_of (answer x) ≡ IsDone) → answer_of (done_as answer r) ≡ answer_of_call r
answer_of_done answer (Ok x) is = is x
answer_of_done answer (Err refusal) is = refl

answer_of_succeeded : (r : Result ℕ CallRefusal) → answer_of (succeeded r) ≡ answer_of_succession r
answer_of_succeeded (Ok n) = refl
answer_of_succeeded (Err refusal) = refl

answer_of_added : (r : Result (Unit {0}) RowRefusal) → answer_of (added_row r) ≡ answer_of_row r
answer_of_added (Ok x) = refl
answer_of_added (Err refusal) = refl

pub answer_of_ticked : (r : Result (Unit {0}) Memory) → answer_of (ticked r) ≡ answer_of_tick r
answer_of_ticked (Ok x) = refl
answer_of_ticked (Err memory) = refl

-- ---- their events

pub open_stands : (s t : State) (moment : ℕ) (peer : List ℕ) (candidates : List AddressParts) (draws : Draws) (r : Result ℕ OpenRefusal) (before after : Added) →
    Called s moment (Open peer candidates draws) (began r) t before after → Extends s t (open_event moment peer candidates draws r before.entries after.entries)
open_stands s t moment peer candidates draws r before after did =
    method_extends s t moment (Open peer candidates draws) (began r) before after (answer_of_open r) (answer_of_began r) did

pub seek_stands : (s t : State) (moment : ℕ) (name : List ℕ) (candidates : List AddressParts) (draws : Draws) (r : Result ℕ SeekRefusal) (before after : Added) →
    Called s moment (Seek name candidates draws) (sought r) t before after → Extends s t (seek_event moment name candidates draws r before.entries after.entries)
seek_stands s t moment name candidates draws r before after did =
    method_extends s t moment (Seek name candidates draws) (sought r) before after (answer_of_seek r) (answer_of_sought r) did

pub unseek_stands : (s t : State) (near : ℕ) (r : Result (Unit {0}) CallRefusal) (before after : Added) → Called s 0 (Unseek near) (done r) t before after → Extends s t (unseek_event near r before.entries after.entries)
unseek_stands s t near r before after did = method_extends s t 0 (Unseek near) (done r) before after (answer_of_call r) (answer_of_done (λ _. told.Done) r (λ x. refl)) did

pub cancel_stands : (s t : State) (n : ℕ) (r : Result (Unit {0}) CallRefusal) (before after : Added) → Called s 0 (Cancel n) (done r) t before after → Extends s t (cancel_event n r before.entries after.entries)
cancel_stands s t n r before after did = method_extends s t 0 (Cancel n) (done r) before after (answer_of_call r) (answer_of_done (λ _. told.Done) r (λ x. refl)) did

pub close_stands : (s t : State) (near moment : ℕ) (r : Result (Unit {0}) CallRefusal) (before after : Added) → Called s moment (Close near) (done r) t before after → Extends s t (close_event near moment r before.entries after.entries)
close_stands s t near moment r before after did = method_extends s t moment (Close near) (done r) before after (answer_of_call r) (answer_of_done (λ _. told.Done) r (λ x. refl)) did

pub flow_stands : {A : Type 0} (answer : A → Answered) (s t : State) (near : ℕ) (call : FlowCall) (r : Result A CallRefusal) (before after : Added) → ((x : A) → answer_of (answer x) ≡ IsDone) →
    Called s 0 (OnFlows near call) (done_as answer r) t before after → Extends s t (flow_event near call r before.entries after.entries)
flow_stands answer s t near call r before after is did = method_extends s t 0 (OnFlows near call) (done_as answer r) before after (answer_of_call r) (answer_of_done answer r is) did

pub learn_stands : (s t : State) (secret : List ℕ) (r : Result ℕ CallRefusal) (before after : Added) → Called s 0 (Learn secret) (succeeded r) t before after → Extends s t (learn_event secret r before.entries after.entries)
learn_stands s t secret r before after did = method_extends s t 0 (Learn secret) (succeeded r) before after (answer_of_succession r) (answer_of_succeeded r) did

pub advance_stands : (s t : State) (r : Result ℕ CallRefusal) (before after : Added) → Called s 0 Advance (succeeded r) t before after → Extends s t (advance_event r before.entries after.entries)
advance_stands s t r before after did = method_extends s t 0 Advance (succeeded r) before after (answer_of_succession r) (answer_of_succeeded r) did

-- a call that is given no outbox
abbrev none : Added
none = record { entries = []; free = 0; room = 0 }

pub row_stands : (s t : State) (print : List ℕ) (addresses : List AddressParts) (r : Result (Unit {0}) RowRefusal) → ((out : Added) → Called s 0 (AddRow print addresses) (added_row r) t out out) → Extends s t (row_event print addresses r)
row_stands s t print addresses r did = method_extends s t 0 (AddRow print addresses) (added_row r) none none (answer_of_row r) (answer_of_added r) (did none)

pub introduce_stands : (s t : State) → t ≡ introducing s → Extends s t introduce_event
introduce_stands s t is = method_extends s t 0 Introduce told.Done none none IsDone refl (introduced s t 0 none is)

pub narrow_stands : (s t : State) (limit : ℕ) → t ≡ narrowing s limit → Extends s t (narrow_event limit)
narrow_stands s t limit is = method_extends s t 0 (Narrow limit) told.Done none none IsDone refl (narrowed s t 0 limit none is)

pub tick_stands : (s t : State) (moment : ℕ) (draws : Draws) (r : Result (Unit {0}) Memory) (before after : Added) → Called s moment (Tick draws) (ticked r) t before after → Extends s t (tick_event moment draws r before.entries after.entries)
tick_stands s t moment draws r before after did = method_extends s t moment (Tick draws) (ticked r) before after (answer_of_tick r) (answer_of_ticked r) did

-- an end whose state is seen so
pub seen : (s o t : State) (e : Event) → s ≡ o → Extends s t e → Extends o t e
seen s o t e is h = subst (λ (x : State). Extends x t e) is h

-- ---- a datagram

receive_steps : (s t : State) (moment : ℕ) (from : AddressParts) (datagram : List ℕ) (draws : Draws) (r : Result (Unit {0}) Stop) (before after : Added) →
    OnOk r (Done (received from draws (admission (at_moment s moment) datagram)) t before after) →
    IfErr r (StopsSo (λ d. Done d t before after) (at_moment s moment) from draws (admission (at_moment s moment) datagram)) →
    Step s (receive_event from moment datagram draws r before.entries after.entries) t
receive_steps s t moment from datagram draws (Ok done) before after ok stop = alone _ t before after ok
receive_steps s t moment from datagram draws (Err halt) before after ok stop = record {
  acks = stop.acks;
  taken = stop.taken;
  not_taken = stop.not_taken;
  left = alone _ t before after stop.left;
}

pub receive_extends : (s t : State) (moment : ℕ) (from : AddressParts) (datagram : List ℕ) (draws : Draws) (r : Result (Unit {0}) Stop) (before after : Added) →
    IsTaken (at_moment s moment) from draws (admission (at_moment s moment) datagram) r t before after → Extends s t (receive_event from moment datagram draws r before.entries after.entries)
receive_extends s t moment from datagram draws r before after taken =
    extends s t (receive_event from moment datagram draws r before.entries after.entries) (receive_steps s t moment from datagram draws r before after taken.ok taken.stop)
