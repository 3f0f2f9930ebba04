-- Messages for the sessions that were opened.
use Rattle.std.proofs.Common.{◌≡◌, ℕ, ◌+◌, ◌<◌, List, [], ◌∷◌, ◌++◌, take, length, refl, sym, ap, ◌∙◌, append_assoc, subst, drop, Option, Some, None, get_or, add-one}
use Rattle.std.proofs.Math.Seq.{take-suc}
use Rattle.endpoint_model.specs.declared.entry.Entry.{Entry}
use Rattle.rtmfp_forms.specs.Address.{AddressParts}
use Rattle.rtmfp_host.specs.declared.link.Given.{Given}
use Rattle.rtmfp_host.specs.declared.link.Given.TheVariants.{Datagram, Quiet}
use Rattle.endpoint_model.specs.declared.config.Draws.{Draws}
use Rattle.endpoint_model.specs.Event.{Event, Receive, Tick, Done as AllDone}
use Rattle.endpoint_model.specs.State.{State}
use Rattle.endpoint_model.specs.Views.{fact_in}
use Rattle.rtmfp_node.specs.Events.{AreMessages, AreSendCalls, entries_of, event_of, opened_by, opened_in, opens_flow, queues}
use Rattle.rtmfp_node.specs.Acting.{Acted, ActedOn, ActsIn, DidCall, Messages, Noted, SendCalls, added}
use Rattle.rtmfp_node.proofs.Acts.{acts_then, in_none, in_then}

messages_more : (message nears others : List ℕ) (es fs : List Event) → AreMessages message nears es → AreMessages message others fs → AreMessages message (nears ++ others) (es ++ fs)
messages_more message [] others es fs one two = subst (λ xs. AreMessages message others (xs ++ fs)) (sym one) two
messages_more message (near ∷ nears) others es fs one two =
    (one.0, one.1, one.2 ++ fs, ap (λ xs. xs ++ fs) one.3, one.4, one.5, messages_more message nears others one.2 fs one.6 two)

opened_in_more : (es fs : List Entry) → opened_in (es ++ fs) ≡ opened_in es ++ opened_in fs
opened_in_more [] fs = refl
opened_in_more (e ∷ es) fs = ap (λ xs. opened_by (fact_in e) ++ xs) (opened_in_more es fs) ∙ sym (append_assoc (opened_by (fact_in e)) (opened_in es) (opened_in fs))

pub message_sent : (message : List ℕ) (near turn : ℕ) (s t u : State) (x y z : List Entry) (m n k : Noted) → DidCall near opens_flow turn s t x y m n → DidCall near (queues message) turn t u y z n k →
    Messages message (near ∷ []) turn s u x z m k
message_sent message near turn s t u x y z m n k p q = record {
  log = p.event ∷ q.event ∷ [];
  calls = (p.event, q.event, [], refl, p.called, q.called, refl);
  acts = in_then p.acts q.acts;
}

-- nothing was opened by an entry, or this session
pub none_for : (message : List ℕ) (e : Entry) (turn : ℕ) (s : State) (x : List Entry) (m : Noted) → opened_by (fact_in e) ≡ [] → SendCalls (Some message) (e ∷ []) turn s s x x m m
none_for message e turn s x m is = record {
  log = [];
  calls = subst (λ xs. AreMessages message (xs ++ []) []) (sym is) refl;
  acts = in_none turn s x m;
}

pub sent_for : (message : List ℕ) (e : Entry) (near turn : ℕ) (s t : State) (x y : List Entry) (m n : Noted) → opened_by (fact_in e) ≡ near ∷ [] → Messages message (near ∷ []) turn s t x y m n →
    SendCalls (Some message) (e ∷ []) turn s t x y m n
sent_for message e near turn s t x y m n is sent = record {
  log = sent.log;
  calls = subst (λ xs. AreMessages message (xs ++ []) sent.log) (sym is) sent.calls;
  acts = sent.acts;
}

pub calls_none : (message : List ℕ) (turn : ℕ) (s : State) (x : List Entry) (m : Noted) → SendCalls (Some message) [] turn s s x x m m
calls_none message turn s x m = record { log = []; calls = refl; acts = in_none turn s x m }

pub calls_next : (message : List ℕ) (es : List Entry) (i : ℕ) (e : Entry) (turn : ℕ) (s t u : State) (x y z : List Entry) (m n k : Noted) → i < length es → e ≡ get_or es i e →
    SendCalls (Some message) (take i es) turn s t x y m n → SendCalls (Some message) (e ∷ []) turn t u y z n k → SendCalls (Some message) (take (i + 1) es) turn s u x z m k
calls_next message es i e turn s t u x y z m n k within is p q =
    let more : take (i + 1) es ≡ take i es ++ e ∷ [] = ap (λ k. take k es) (add-one i) ∙ take-suc es i e within ∙ ap (λ x. take i es ++ x ∷ []) (sym is) in
    subst (λ (xs : List Entry). SendCalls (Some message) xs turn s u x z m k) (sym more) (record {
      log = p.log ++ q.log;
      calls =
          subst (λ xs. AreMessages message xs (p.log ++ q.log)) (sym (opened_in_more (take i es) (e ∷ [])))
          (messages_more message (opened_in (take i es)) (opened_in (e ∷ [])) p.log q.log p.calls q.calls);
      acts = in_then p.acts q.acts;
    })

-- where there is no message, nothing is called
pub no_message : (o : Option (List ℕ)) (es : List Entry) (turn : ℕ) (s : State) (x : List Entry) (m : Noted) → o ≡ None → SendCalls o es turn s s x x m m
no_message o es turn s x m is = subst (λ (k : Option (List ℕ)). SendCalls k es turn s s x x m m) (sym is) (record { log = []; calls = refl; acts = in_none turn s x m })

pub of_bytes : (o : Option (List ℕ)) (message bytes : List ℕ) (es : List Entry) (turn : ℕ) (s t : State) (x y : List Entry) (m n : Noted) → o ≡ Some message → bytes ≡ message →
    SendCalls (Some bytes) es turn s t x y m n → SendCalls o es turn s t x y m n
of_bytes o message bytes es turn s t x y m n is same sent =
    subst (λ (k : Option (List ℕ)). SendCalls k es turn s t x y m n) (sym is) (subst (λ (k : List ℕ). SendCalls (Some k) es turn s t x y m n) same sent)

-- ---- the events of a turn

pub acted_quiet : (message : Option (List ℕ)) (moment : ℕ) (draws : Draws) (turn : ℕ) (s t : State) (heard before after new : List Entry) (m n : Noted) → heard ≡ [] → before ≡ [] →
    ActsIn turn s t before after m n (event_of moment (Tick draws) AllDone new ∷ []) → Acted message Quiet moment draws turn s t (heard ++ after) m n
acted_quiet message moment draws turn s t heard before after new m n none empty ticks = record {
  log = event_of moment (Tick draws) AllDone new ∷ [];
  events = (new, refl);
  acts = ticks.acts;
  whole = ap (λ xs. xs ++ after) none ∙ ticks.entries ∙ ap (λ xs. xs ++ (new ++ [])) empty;
}

pub acted_datagram : (message : Option (List ℕ)) (from : AddressParts) (datagram : List ℕ) (moment : ℕ) (draws : Draws) (turn : ℕ) (s t u w : State) (x heard y z after first last : List Entry)
    (m n k o : Noted) → x ≡ [] → y ≡ [] → ActsIn turn s t x heard m n (event_of moment (Receive from datagram draws) AllDone first ∷ []) → first ≡ heard → SendCalls message heard turn t u y z n k →
    ActsIn turn u w z after k o (event_of moment (Tick draws) AllDone last ∷ []) → Acted message (Datagram from datagram) moment draws turn s w (heard ++ after) m o
acted_datagram message from datagram moment draws turn s t u w x heard y z after first last m n k o none empty one is calls two =
    let later = in_then calls.acts two in
    let receive = event_of moment (Receive from datagram draws) AllDone first in
    let tick = event_of moment (Tick draws) AllDone last in record {
      log = receive ∷ (calls.log ++ tick ∷ []);
      events = (first, last, calls.log, subst (λ (es : List Entry). AreSendCalls message es calls.log) (sym is) calls.calls, refl);
      acts = acts_then one.acts later.acts;
      whole =
          ap (λ xs. heard ++ xs) (later.entries ∙ ap (λ xs. xs ++ entries_of (calls.log ++ tick ∷ [])) empty)
          ∙ ap (λ xs. xs ++ entries_of (calls.log ++ tick ∷ [])) (sym is);
    }

pub acted_on : (message : Option (List ℕ)) (g : Given) (given : Option Given) (moment : ℕ) (draws : Draws) (turn : ℕ) (s t : State) (es : List Entry) (m n : Noted) → given ≡ Some g →
    Acted message g moment draws turn s t es m n → ActedOn message given moment draws turn s t es m n
acted_on message g given moment draws turn s t es m n is acted = subst (λ (k : Option Given). ActedOn message k moment draws turn s t es m n) (sym is) acted

pub all_added : (before after : List Entry) → before ≡ [] → added before after ≡ after
all_added before after none = ap (λ (xs : List Entry). drop (length xs) after) none

pub of_entries : (message : Option (List ℕ)) (es fs : List Entry) (turn : ℕ) (s t : State) (x y : List Entry) (m n : Noted) → es ≡ fs → SendCalls message es turn s t x y m n → SendCalls message fs turn s t x y m n
of_entries message es fs turn s t x y m n is sent = subst (λ (k : List Entry). SendCalls message k turn s t x y m n) is sent
