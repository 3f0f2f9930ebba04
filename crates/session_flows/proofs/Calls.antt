-- What the calls on sending flows leave and state.
use Rattle.std.proofs.Common.{◌≡◌, ℕ, ◌<◌, Bool, true, false, cond, List, [], ◌∷◌, Option, Some, None, Result, Ok, Err, MatchOption, length, get_or, refl, sym, ap, ◌∙◌, subst}
use Rattle.std.specs.Prelude.{slice_get, slice_set, IfOk, IsOk, OnOk, IfErr, ◌↔◌}
use Rattle.std.specs.Option.{option_map}
use Rattle.std.proofs.lemmas.Option.{slice_get_read}
use Rattle.flow_send.specs.declared.waiting.MessageOptions.{MessageOptions}
use Rattle.flow_send.specs.declared.outcome.QueueRefusal.{QueueRefusal}
use Rattle.flow_send.specs.declared.outcome.QueueRefusal.TheVariants as sender
use Rattle.flow_send.specs.declared.outcome.NotQueued.{NotQueued as NotQueuedHere}
use Rattle.flow_send.specs.Sender.{next_of, queued, waits, abandoned, finish_by}
use Rattle.flow_send.specs.Flow.{Flow, with_sender, next_message, queue_refusal, is_finished}
use Rattle.session_flows.specs.declared.refusal.CallRefusal.TheVariants as refusal
use Rattle.session_flows.specs.Keeping.{FlowsState, with_sending, with_flow, sending_at, Stated, Queued, Abandoned, Finished, Did}
use Rattle.session_flows.specs.Calling.{abandon_answer, abandon_refused, abandon_refused_by, abandoning, abandoning_by, finish_answer, finish_refused, finish_refused_by, finishing, finishing_by}
use Rattle.session_flows.specs.Calling.{queue_answer, queue_refusal_of, queue_refused, queue_refused_by, queueing, queueing_by}

abbrev pub did : FlowsState → List Stated → Did
did flows stated = record { flows = flows; stated = stated }

-- the flow of an ID is the one at its index
pub flow_there : (s : FlowsState) (id at : ℕ) (f : Flow) → at ≡ id → at < length s.sending → f ≡ get_or s.sending at f → sending_at s id ≡ Some f
flow_there s id at f place within is = ap (λ (i : ℕ). slice_get s.sending i) (sym place) ∙ slice_get_read s.sending (length s.sending) at f refl within is

-- and is put back there
pub flow_put : (s : FlowsState) (id at : ℕ) (g : Flow) → at ≡ id → with_flow s id g ≡ with_sending s (slice_set s.sending at g)
flow_put s id at g place = ap (λ (i : ℕ). with_flow s i g) (sym place)

pub queue_did : (s : FlowsState) (id at : ℕ) (bytes : List ℕ) (options : MessageOptions) (f g : Flow) (r : Result ℕ QueueRefusal) → at ≡ id → sending_at s id ≡ Some f →
    IfOk r (λ n. n ≡ next_of f.sender) → OnOk r (g ≡ with_sender f (queued (next_message f.sender bytes) options f.sender)) →
    IfOk (queue_answer r) (λ seq. queueing s id bytes options ≡ did (with_sending s (slice_set s.sending at g)) (Queued id seq bytes ∷ []))
queue_did s id at bytes options f g (Ok n) place there number done =
    ap (λ (o : Option Flow). queueing_by s id bytes options o) there
    ∙ ap (λ (x : Flow). did (with_flow s id x) (Queued id (next_of f.sender) bytes ∷ [])) (sym done)
    ∙ ap (λ (x : FlowsState). did x (Queued id (next_of f.sender) bytes ∷ [])) (flow_put s id at g place)
    ∙ ap (λ (k : ℕ). did (with_sending s (slice_set s.sending at g)) (Queued id k bytes ∷ [])) (sym number)
queue_did s id at bytes options f g (Err e) place there number done = tt

refused_by : (r : Result ℕ QueueRefusal) (o : Option QueueRefusal) → MatchOption o (IfErr r (λ e. e ≡ sender.Memory)) (λ e. r ≡ Err e) →
    MatchOption (option_map queue_refusal_of o) (IfErr (queue_answer r) (λ e. e ≡ refusal.Memory)) (λ e. queue_answer r ≡ Err e)
refused_by (Ok n) None h = tt
refused_by (Err x) None h = ap (λ (e : QueueRefusal). queue_refusal_of e) h
refused_by r (Some e) h = ap (λ (x : Result ℕ QueueRefusal). queue_answer x) h

pub queue_refuses : (s : FlowsState) (id size : ℕ) (f : Flow) (r : Result ℕ QueueRefusal) → sending_at s id ≡ Some f →
    MatchOption (queue_refusal f.sender size) (IfErr r (λ e. e ≡ sender.Memory)) (λ e. r ≡ Err e) →
    MatchOption (queue_refused s id size) (IfErr (queue_answer r) (λ e. e ≡ refusal.Memory)) (λ e. queue_answer r ≡ Err e)
queue_refuses s id size f r there h =
    subst (λ (o : Option Flow). MatchOption (queue_refused_by o size) (IfErr (queue_answer r) (λ e. e ≡ refusal.Memory)) (λ e. queue_answer r ≡ Err e)) (sym there)
    (refused_by r (queue_refusal f.sender size) h)

-- ---- any answer

pub if_ok : {A E : Type 0} (r : Result A E) (P : Type 0) → P → IfOk r (λ (x : A). P)
if_ok (Ok x) P h = h
if_ok (Err e) P h = tt

-- ---- a message is abandoned

pub abandon_did : (s : FlowsState) (id at seq : ℕ) (f g : Flow) → at ≡ id → sending_at s id ≡ Some f → g ≡ with_sender f (abandoned seq f.sender) →
    abandoning s id seq ≡ did (with_sending s (slice_set s.sending at g)) (Abandoned id seq ∷ [])
abandon_did s id at seq f g place there done =
    ap (λ (o : Option Flow). abandoning_by s id seq o) there
    ∙ ap (λ (x : Flow). did (with_flow s id x) (Abandoned id seq ∷ [])) (sym done)
    ∙ ap (λ (x : FlowsState). did x (Abandoned id seq ∷ [])) (flow_put s id at g place)

clash : false ≡ true → ⊥
clash e = absurd cc

abandon_by : (r : Result (Unit {0}) NotQueuedHere) (b : Bool) → (IsOk r → b ≡ true) → (b ≡ true → IsOk r) →
    MatchOption (cond b None (Some refusal.NotQueued)) (abandon_answer r ≡ Ok tt) (λ e. abandon_answer r ≡ Err e)
abandon_by (Ok u) true to from = refl
abandon_by (Err e) true to from = absurd (clash (from refl))
abandon_by (Ok u) false to from = absurd (clash (to refl))
abandon_by (Err e) false to from = refl

pub abandon_refuses : (s : FlowsState) (id seq : ℕ) (f : Flow) (r : Result (Unit {0}) NotQueuedHere) → sending_at s id ≡ Some f → IsOk r ↔ (waits f.sender seq ≡ true) →
    MatchOption (abandon_refused s id seq) (abandon_answer r ≡ Ok tt) (λ e. abandon_answer r ≡ Err e)
abandon_refuses s id seq f r there h =
    subst (λ (o : Option Flow). MatchOption (abandon_refused_by o seq) (abandon_answer r ≡ Ok tt) (λ e. abandon_answer r ≡ Err e)) (sym there)
    (abandon_by r (waits f.sender seq) h.0 h.1)

-- ---- a flow is finished

finish_by_end : (s : FlowsState) (id at : ℕ) (f g : Flow) (v o : Option ℕ) → at ≡ id → sending_at s id ≡ Some f → o ≡ cond (is_finished v) None (Some (next_of f.sender)) →
    g ≡ with_sender f (finish_by f.sender v) → IfOk (finish_answer o) (λ seq. finishing s id ≡ did (with_sending s (slice_set s.sending at g)) (Finished id seq ∷ []))
finish_by_end s id at f g None o place there e done =
    subst (λ (x : Option ℕ). IfOk (finish_answer x) (λ seq. finishing s id ≡ did (with_sending s (slice_set s.sending at g)) (Finished id seq ∷ []))) (sym e)
    (ap (λ (x : Option Flow). finishing_by s id x) there
    ∙ ap (λ (x : Flow). did (with_flow s id x) (Finished id (next_of f.sender) ∷ [])) (sym done)
    ∙ ap (λ (x : FlowsState). did x (Finished id (next_of f.sender) ∷ [])) (flow_put s id at g place))
finish_by_end s id at f g (Some n) o place there e done =
    subst (λ (x : Option ℕ). IfOk (finish_answer x) (λ seq. finishing s id ≡ did (with_sending s (slice_set s.sending at g)) (Finished id seq ∷ []))) (sym e) tt

pub finish_did : (s : FlowsState) (id at : ℕ) (f g : Flow) (o : Option ℕ) → at ≡ id → sending_at s id ≡ Some f → o ≡ cond (is_finished f.sender.finish) None (Some (next_of f.sender)) →
    g ≡ with_sender f (finish_by f.sender f.sender.finish) → IfOk (finish_answer o) (λ seq. finishing s id ≡ did (with_sending s (slice_set s.sending at g)) (Finished id seq ∷ []))
finish_did s id at f g o place there e done = finish_by_end s id at f g f.sender.finish o place there e done

finish_refuses_by : (b : Bool) (n : ℕ) → MatchOption (cond b (Some refusal.Finished) None) (IsOk (finish_answer (cond b None (Some n)))) (λ e. finish_answer (cond b None (Some n)) ≡ Err e)
finish_refuses_by true n = refl
finish_refuses_by false n = refl

pub finish_refuses : (s : FlowsState) (id : ℕ) (f : Flow) (o : Option ℕ) → sending_at s id ≡ Some f → o ≡ cond (is_finished f.sender.finish) None (Some (next_of f.sender)) →
    MatchOption (finish_refused s id) (IsOk (finish_answer o)) (λ e. finish_answer o ≡ Err e)
finish_refuses s id f o there e =
    subst (λ (x : Option Flow). MatchOption (finish_refused_by x) (IsOk (finish_answer o)) (λ e. finish_answer o ≡ Err e)) (sym there)
    (subst (λ (x : Option ℕ). MatchOption (finish_refused_by (Some f)) (IsOk (finish_answer x)) (λ e. finish_answer x ≡ Err e)) (sym e) (finish_refuses_by (is_finished f.sender.finish) (next_of f.sender)))
