-- What the end did, one event after another.
use Rattle.std.proofs.Common.{◌≡◌, ℕ, List, [], ◌∷◌, ◌++◌, drop, length, refl, sym, ap, ◌∙◌, append_assoc, append-nil, subst, ◌≤◌, arith, Option, Result, Ok, Err, OnOk, OnErr}
use Rattle.std.proofs.lemmas.List.{length-append}
use Rattle.endpoint_model.specs.declared.entry.Entry.{Entry}
use Rattle.rtmfp_forms.specs.Address.{AddressParts}
use Rattle.endpoint_model.specs.declared.config.Draws.{Draws}
use Rattle.endpoint_model.specs.Event.{Call, Receive, Answer, Event, moment_at}
use Rattle.endpoint_model.specs.Added.{Added}
use Rattle.endpoint_model.specs.State.{State, Did, Done}
use Rattle.endpoint_model.specs.Log.{StandsFor}
use Rattle.endpoint_laws.specs.Laws.{AreCalls, IsCall}
use Rattle.endpoint_laws.specs.Past.{last_moment}
use Rattle.endpoint_laws.specs.Contexts.{Secrets}
use Rattle.audit_text.specs.declared.line.LogCall.{LogCall}
use Rattle.audit_text.specs.declared.line.LogCall.TheVariants.{Receive as Told}
use Rattle.log_writing.specs.Written.{plain, written_call}
use Rattle.rtmfp_report.specs.EntryText.{counted_after, sent_after}
use Rattle.rtmfp_node.specs.Events.{ExtendsBy, entries_of, event_of}
use Rattle.rtmfp_node.specs.Reached.{Reached, reached_after, reached_by}
use Rattle.rtmfp_node.specs.Report.{added_text, event_text, events_text, refused_text}
use Rattle.rtmfp_node.specs.Acting.{Acts, ActsIn, IsSaid, Noted, added, noted_more, with_text}

pub extends_more : (s t u : State) (es fs : List Event) → ExtendsBy s t es → ExtendsBy t u fs → ExtendsBy s u (es ++ fs)
extends_more s t u es fs one two setup log stands =
    let P : List Event → Type 0 = λ xs. StandsFor setup xs u in
    subst P (append_assoc log es fs) (two setup (log ++ es) (one setup log stands))

pub extends_none : (s : State) → ExtendsBy s s []
extends_none s setup log stands =
    let P : List Event → Type 0 = λ xs. StandsFor setup xs s in
    subst P (sym (append-nil log)) stands

pub calls_sized : (es fs : List Event) → AreCalls es → AreCalls fs → AreCalls (es ++ fs)
calls_sized [] fs one two = two
calls_sized (e ∷ es) fs one two = (one.0, calls_sized es fs one.1 two)

pub entries_of_more : (es fs : List Event) → entries_of (es ++ fs) ≡ entries_of es ++ entries_of fs
entries_of_more [] fs = refl
entries_of_more (e ∷ es) fs = ap (λ (xs : List Entry). e.entries ++ xs) (entries_of_more es fs) ∙ sym (append_assoc e.entries (entries_of es) (entries_of fs))

pub sent_after_more : (count : ℕ) (xs ys : List Entry) → sent_after count (xs ++ ys) ≡ sent_after (sent_after count xs) ys
sent_after_more count [] ys = refl
sent_after_more count (x ∷ xs) ys = sent_after_more (counted_after count x) xs ys

pub last_moment_more : (last : ℕ) (es fs : List Event) → last_moment last (es ++ fs) ≡ last_moment (last_moment last es) fs
last_moment_more last [] fs = refl
last_moment_more last (e ∷ es) fs = last_moment_more (moment_at last e) es fs

-- how far a run comes by events, and by more events
pub reached_more : (far : Reached) (es fs : List Event) → reached_after (reached_after far es) fs ≡ reached_after far (es ++ fs)
reached_more far es fs =
    ap (λ (k : ℕ). record { sent = k; moment = last_moment (last_moment far.moment es) fs }) (sym (sent_after_more far.sent (entries_of es) (entries_of fs)) ∙ ap (sent_after far.sent) (sym (entries_of_more es fs)))
    ∙ ap (λ (k : ℕ). record { sent = sent_after far.sent (entries_of (es ++ fs)); moment = k }) (sym (last_moment_more far.moment es fs))

reached_first : (far : Reached) (e : Event) (es : List Event) → reached_after (reached_by far e) es ≡ reached_after far (e ∷ es)
reached_first far e es = ap (λ (k : ℕ). record { sent = k; moment = last_moment (moment_at far.moment e) es }) (sym (sent_after_more far.sent e.entries (entries_of es)))

pub events_text_more : (label : Option (List ℕ)) (secrets : Secrets) (turn : ℕ) (far : Reached) (es fs : List Event) →
    events_text label secrets turn far (es ++ fs) ≡ events_text label secrets turn far es ++ events_text label secrets turn (reached_after far es) fs
events_text_more label secrets turn far [] fs = refl
events_text_more label secrets turn far (e ∷ es) fs =
    let next = reached_by far e in
    ap (λ xs. event_text label secrets turn far e ++ xs) (events_text_more label secrets turn next es fs)
    ∙ sym (append_assoc (event_text label secrets turn far e) (events_text label secrets turn next es) (events_text label secrets turn (reached_after next es) fs))
    ∙ ap (λ (k : Reached). (event_text label secrets turn far e ++ events_text label secrets turn next es) ++ events_text label secrets turn k fs) (reached_first far e es)

-- ---- what was done and noted

abbrev noted_by : ℕ → List Event → Noted → Noted
noted_by turn log m = record {
  secrets = m.secrets;
  label = m.label;
  far = reached_after m.far log;
  text = m.text ++ events_text m.label m.secrets turn m.far log;
}

noted_then : (turn : ℕ) (es fs : List Event) (m : Noted) → noted_by turn fs (noted_by turn es m) ≡ noted_by turn (es ++ fs) m
noted_then turn es fs m =
    let middle = reached_after m.far es in
    ap (λ (k : Reached). record { secrets = m.secrets; label = m.label; far = k; text = (m.text ++ events_text m.label m.secrets turn m.far es) ++ events_text m.label m.secrets turn middle fs }) (reached_more m.far es fs)
    ∙ ap (λ (x : List ℕ). record { secrets = m.secrets; label = m.label; far = reached_after m.far (es ++ fs); text = x })
    (append_assoc m.text (events_text m.label m.secrets turn m.far es) (events_text m.label m.secrets turn middle fs)
    ∙ ap (λ xs. m.text ++ xs) (sym (events_text_more m.label m.secrets turn m.far es fs)))

pub acts_then : {turn : ℕ} {s t u : State} {m n o : Noted} {es fs : List Event} → Acts turn s t m n es → Acts turn t u n o fs → Acts turn s u m o (es ++ fs)
acts_then {turn} {s} {t} {u} {m} {n} {o} {es} {fs} p q = record {
  stands = extends_more s t u es fs p.stands q.stands;
  sized = calls_sized es fs p.sized q.sized;
  noted = q.noted ∙ ap (noted_by turn fs) p.noted ∙ noted_then turn es fs m;
}

pub acts_none : (turn : ℕ) (s : State) (m : Noted) → Acts turn s s m m []
acts_none turn s m = record {
  stands = extends_none s;
  sized = tt;
  noted = ap (λ (x : List ℕ). record { secrets = m.secrets; label = m.label; far = m.far; text = x }) (sym (append-nil m.text));
}

pub in_then : {turn : ℕ} {s t u : State} {a b c : List Entry} {m n o : Noted} {es fs : List Event} → ActsIn turn s t a b m n es → ActsIn turn t u b c n o fs → ActsIn turn s u a c m o (es ++ fs)
in_then {turn} {s} {t} {u} {a} {b} {c} {m} {n} {o} {es} {fs} p q = record {
  acts = acts_then p.acts q.acts;
  entries =
      q.entries ∙ ap (λ xs. xs ++ entries_of fs) p.entries
      ∙ append_assoc a (entries_of es) (entries_of fs)
      ∙ ap (λ xs. a ++ xs) (sym (entries_of_more es fs));
}

pub in_none : (turn : ℕ) (s : State) (a : List Entry) (m : Noted) → ActsIn turn s s a a m m []
in_none turn s a m = record { acts = acts_none turn s m; entries = sym (append-nil a) }

-- ---- one call

drop_added : (before es : List Entry) → drop (length before) (before ++ es) ≡ es
drop_added [] es = refl
drop_added (e ∷ before) es = drop_added before es

pub added_is : (before after es : List Entry) → after ≡ before ++ es → added before after ≡ es
added_is before after es e = ap (drop (length before)) e ∙ drop_added before es

pub grown : (before after es : List Entry) → after ≡ before ++ es → length before ≤ length after
grown before after es e = let same : length after ≡ length (before ++ es) = ap length e in omega (arith, same, length-append before es)

pub did_call : (turn moment : ℕ) (call : Call) (answer : Answer) (s t : State) (before after es : List Entry) (m n : Noted) → after ≡ before ++ es →
    ExtendsBy s t (event_of moment call answer (added before after) ∷ []) → IsCall call → n ≡ noted_more turn m (event_of moment call answer (added before after)) (refused_text m.label turn answer) →
    ActsIn turn s t before after m n (event_of moment call answer (added before after) ∷ [])
did_call turn moment call answer s t before after es m n e stands is noted =
    let new = added before after in
    let event = event_of moment call answer new in
    let text = added_text m.label m.secrets turn m.far event ++ refused_text m.label turn answer in record {
      acts = record {
        stands = stands;
        sized = (is, tt);
        noted =
            noted
            ∙ ap (λ (xs : List Entry). record { secrets = m.secrets; label = m.label; far = record { sent = sent_after m.far.sent xs; moment = moment_at m.far.moment event }; text = m.text ++ text }) (sym (append-nil new))
            ∙ ap (λ (x : List ℕ). record { secrets = m.secrets; label = m.label; far = reached_after m.far (event ∷ []); text = m.text ++ x }) (sym (append-nil text));
      };
      entries = e ∙ ap (λ xs. before ++ xs) (sym (added_is before after es e) ∙ sym (append-nil new));
    }

-- what was noted of an event, and then of a refusal
pub settled : (turn : ℕ) (e : Event) (m n o : Noted) → n ≡ noted_more turn m e [] → o ≡ with_text n (refused_text n.label turn e.answer) → o ≡ noted_more turn m e (refused_text m.label turn e.answer)
settled turn e m n o one two =
    let lines = added_text m.label m.secrets turn m.far e in
    let refused = refused_text m.label turn e.answer in
    two ∙ ap (λ (k : Noted). with_text k (refused_text k.label turn e.answer)) one
    ∙ ap (λ (x : List ℕ). record { secrets = m.secrets; label = m.label; far = reached_by m.far e; text = x })
    (append_assoc m.text (lines ++ []) refused ∙ ap (λ xs. m.text ++ (xs ++ refused)) (append-nil lines))

pub grown_from : (k : ℕ) (before after es : List Entry) → k ≡ length before → after ≡ before ++ es → k ≤ length after
grown_from k before after es is e = subst (λ j. j ≤ length after) (sym is) (grown before after es e)

pub noted_from : (turn moment k : ℕ) (nonce : List ℕ) (call : LogCall) (before after : List Entry) (e : Event) (m n : Noted) → k ≡ length before →
    ((f : Event) → IsSaid moment nonce call (drop k after) f → n ≡ noted_more turn m f []) → IsSaid moment nonce call (added before after) e → n ≡ noted_more turn m e []
noted_from turn moment k nonce call before after e m n is noted said =
    noted e (subst (λ j. IsSaid moment nonce call (drop j after) e) (sym is) said)

-- a datagram is told as it came
pub as_it_came : (from : AddressParts) (datagram came : List ℕ) (draws : Draws) → came ≡ datagram → written_call (Receive from datagram draws) ≡ Told (plain from) came
as_it_came from datagram came draws is = ap (λ (x : List ℕ). Told (plain from) x) (sym is)

-- a call that answers either way adds something, or nothing
pub added_by : {E : Type 0} (r : Result ℕ E) (d f : Did) (new : State) (before after : Added) → OnOk r (Done d new before after) → OnErr r (Done f new before after) →
    (es : List Entry) × (after.entries ≡ before.entries ++ es)
added_by (Ok n) d f new before after ok err = (d.entries, ok.entries)
added_by (Err e) d f new before after ok err = (f.entries, err.entries)
