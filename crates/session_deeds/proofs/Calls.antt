-- The calls on sending flows are deeds.
use Rattle.std.proofs.Common.{◌≡◌, ℕ, Bool, true, false, cond, List, [], ◌∷◌, ◌++◌, Option, Some}
use Rattle.std.proofs.Common.{None, option_map, length, map, refl, ap, ◌∙◌, arith}
use Rattle.flow_send.specs.declared.waiting.MessageOptions.{MessageOptions}
use Rattle.flow_send.specs.declared.outcome.QueueRefusal.{QueueRefusal}
use Rattle.flow_send.specs.declared.outcome.QueueRefusal.TheVariants.{Finished as IsFinished}
use Rattle.flow_send.specs.Flow.{Flow, is_finished, queue_refusal, next_message}
use Rattle.flow_send.specs.Sender.{next_of, queued, waits, message_at, abandoned, finished}
use Rattle.flow_send.proofs.Ends.{next_unfinished}
use Rattle.flow_send.proofs.Queuings.{allowed}
use Rattle.flow_send.proofs.Steadies.{steady_new, steady_queued, steady_abandoned, steady_finished}
use Rattle.flow_exchange.specs.Sending.{Sending, Act, Queues, Abandons, Finishes, acts, queues}
use Rattle.flow_exchange.specs.Sending.{abandons}
use Rattle.flow_exchange.specs.Sending.{finishes}
use Rattle.flow_history.specs.Flow.{alone}
use Rattle.flow_history.specs.Deeds.{Piece}
use Rattle.session_flows.specs.Keeping.{FlowsState, sending_at, Queued, Abandoned, Finished}
use Rattle.session_flows.specs.declared.refusal.CallRefusal.TheVariants.{NotQueued}
use Rattle.session_flows.specs.declared.refusal.CallRefusal.TheVariants as refusal
use Rattle.session_flows.specs.Calling.{new_flow, opening, queue_refusal_of, queue_refused_by}
use Rattle.session_flows.specs.Calling.{queueing_by, abandon_refused_by, abandoning_by}
use Rattle.session_flows.specs.Calling.{finish_refused_by, finishing_by}
use Rattle.session_flows.proofs.Sounds.{room_left}
use Rattle.session_deeds.specs.Deeds.{Opens, MayAct, as_queued}
use Rattle.session_deeds.specs.Shows.{opened_of}
use Rattle.session_deeds.specs.Goes.{Goes}
use Rattle.session_deeds.specs.Laws.{OpeningGoes, QueueingGoes, AbandoningGoes, FinishingGoes}
use Rattle.session_deeds.proofs.Chains.{none_goes, one_goes}
use Rattle.session_deeds.proofs.Lists.{none_past}
use Rattle.session_deeds.proofs.Changing.{act_goes, opened_shows}
use Rattle.session_deeds.proofs.Options.{options_spelled, short_of}

-- ---- a flow is opened

pub opening_goes : OpeningGoes
opening_goes came s metadata answers priority free fl h =
    let g : Flow = new_flow s metadata answers priority in
    let none : fl.opened (length s.sending) ≡ None = h.opened (length s.sending)
    ∙ ap (λ (o : Option Flow). option_map opened_of o)
    (none_past s.sending) in (
      Opens (length s.sending) (opened_of g).arriving ∷ [],
      one_goes came fl (opening s metadata answers priority)
          (Opens (length s.sending) (opened_of g).arriving) none
          (opened_shows s fl g h (room_left s (length metadata) priority free) refl refl
          (record {
            steady = steady_new 1 (omega arith) (omega arith);
            options =
                options_spelled metadata answers (short_of s (length metadata) priority free);
          }))
          refl,
    )

-- ---- a message is queued

unfinished_by : (o : Option ℕ) (other : Option QueueRefusal) →
    cond (is_finished o) (Some IsFinished) other ≡ None → o ≡ None
unfinished_by None other e = refl
unfinished_by (Some n) other e = absurd cc

refused_none : (o : Option QueueRefusal) → option_map queue_refusal_of o ≡ None → o ≡ None
refused_none None e = refl
refused_none (Some x) e = absurd cc

queued_goes : (came : List Piece) (s : FlowsState) (id : ℕ) (bytes : List ℕ)
    (options : MessageOptions) (o : Option Flow) → sending_at s id ≡ o →
    queue_refused_by o (length bytes) ≡ None →
    Goes came s (queueing_by s id bytes options o)
queued_goes came s id bytes options None there free = none_goes came s
queued_goes came s id bytes options (Some f) there free =
    let is_free : queue_refusal f.sender (length bytes) ≡ None =
    refused_none (queue_refusal f.sender (length bytes)) free in
    let none : f.sender.finish ≡ None = unfinished_by f.sender.finish _ is_free in
    act_goes came s id (Queues bytes options) f
    (queued (next_message f.sender bytes) options f.sender)
    (Queued id (next_of f.sender) bytes ∷ []) there
    (ap (λ (o : Option ℕ). (queues (alone f.sender) bytes options o).sender) none)
    (λ steady. let k =
    allowed f.sender
    (length bytes) is_free in steady_queued f.sender bytes options steady none k.bytes
    k.fragments k.numbers)
    tt
    (ap (λ (o : Option ℕ). map (as_queued id)
    (queues (alone f.sender) bytes options o).world.queued ++ map (Abandoned id)
    (queues (alone f.sender) bytes options o).world.abandoned) none)

pub queueing_goes : QueueingGoes
queueing_goes came s id bytes options free =
    queued_goes came s id bytes options (sending_at s id) refl free

-- ---- a message is abandoned

pub waits_if : (b : Bool) → cond b None (Some NotQueued) ≡ None → b ≡ true
waits_if true e = refl
waits_if false e = absurd cc

pub abandon_goes : (came : List Piece) (s : FlowsState) (id seq : ℕ) (f : Flow) (act : Act) →
    sending_at s id ≡ Some f → acts (alone f.sender) act ≡ abandons (alone f.sender) seq true →
    MayAct came id act →
    Goes came s (abandoning_by s id seq (Some f))
abandon_goes came s id seq f act there is may =
    act_goes came s id act f (abandoned seq f.sender) (Abandoned id seq ∷ []) there
    (ap (λ (w : Sending). w.sender) is)
    (λ steady. steady_abandoned f.sender seq (message_at seq f.sender.waiting) refl steady) may
    (ap (λ (w : Sending). map
    (as_queued id) w.world.queued ++ map (Abandoned id) w.world.abandoned) is)

abandoned_goes : (came : List Piece) (s : FlowsState) (id seq : ℕ) (o : Option Flow) →
    sending_at s id ≡ o → abandon_refused_by o seq ≡ None → Goes came s (abandoning_by s id seq o)
abandoned_goes came s id seq None there free = none_goes came s
abandoned_goes came s id seq (Some f) there free =
    abandon_goes came s id seq f (Abandons seq) there
    (ap (λ (b : Bool). abandons (alone f.sender) seq b) (waits_if (waits f.sender seq) free)) tt

pub abandoning_goes : AbandoningGoes
abandoning_goes came s id seq free = abandoned_goes came s id seq (sending_at s id) refl free

-- ---- a flow is finished

unfinished : (o : Option ℕ) → cond (is_finished o) (Some refusal.Finished) None ≡ None → o ≡ None
unfinished None e = refl
unfinished (Some n) e = absurd cc

finished_goes : (came : List Piece) (s : FlowsState) (id : ℕ) (o : Option Flow) →
    sending_at s id ≡ o → finish_refused_by o ≡ None → Goes came s (finishing_by s id o)
finished_goes came s id None there free = none_goes came s
finished_goes came s id (Some f) there free =
    let none : f.sender.finish ≡ None = unfinished f.sender.finish free in
    act_goes came s id Finishes f (finished f.sender) (Finished id (next_of f.sender) ∷ []) there
    (ap (λ (o : Option ℕ). (finishes (alone f.sender) o).sender) none)
    (λ steady. steady_finished f.sender steady none (next_unfinished f.sender steady none))
    tt
    (ap (λ (o : Option ℕ). map (as_queued id) (finishes (alone f.sender) o).world.queued ++ map
    (Abandoned id) (finishes (alone f.sender) o).world.abandoned) none)

pub finishing_goes : FinishingGoes
finishing_goes came s id free = finished_goes came s id (sending_at s id) refl free
