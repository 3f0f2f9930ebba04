-- In every log the flows of each session hold no more than they may.
use Prim.Native.Nat.{zero, suc}
use Rattle.std.proofs.Common.{◌≡◌, ℕ, ◌-◌, ◌<◌, ◌≤◌, ◌==◌, nat_lt, not, Bool, true, false, cond}
use Rattle.std.proofs.Common.{List, [], ◌∷◌, ◌++◌, map, length, Option, Some, None, refl, sym}
use Rattle.std.proofs.Common.{subst, ◌∙◌, arith}
use Rattle.std.specs.Prelude.{IfSome, slice_get, slice_set}
use Rattle.std.specs.Option.{option_map}
use Rattle.std.specs.List.{AllByRecursion}
use Rattle.std.proofs.lemmas.Bool.{ltb-false, ltb-true}
use Rattle.std.proofs.lemmas.Bool.Decides.{nat_tests}
use Rattle.rtmfp_forms.specs.Outgoing.{packet_limit}
use Rattle.rtmfp_data_chunks.specs.Acked.{acked as numbers_acked}
use Rattle.rtmfp_data_chunks.specs.Chunk.{UserParts, DataChunk, Data, Next, AckBitmap, AckRanges}
use Rattle.rtmfp_data_chunks.specs.Chunk.{Probe, Exception}
use Rattle.rtmfp_data_chunks.specs.Fitting.{FitsIn, IsReadable}
use Rattle.rtmfp_data_chunks.specs.Runs.{Chunk, Run}
use Rattle.flow_recv.specs.Outcome.{refusal, after_or, beyond as beyond_told}
use Rattle.flow_recv.specs.Acking.{ack_bytes}
use Rattle.flow_recv.specs.Receiver.{Receiver, fresh, beyond_buffer, handed_next, knows, next_run}
use Rattle.flow_recv.specs.Receiver.{after_final, span}
use Rattle.flow_recv.specs.Sound.{Sound}
use Rattle.flow_recv.proofs.Sounds.{sound_handed, sound_taken}
use Rattle.flow_send.specs.declared.outcome.NoChunk.{NoChunk}
use Rattle.flow_send.specs.declared.outcome.QueueRefusal.{QueueRefusal}
use Rattle.flow_send.specs.declared.waiting.MessageOptions.{MessageOptions}
use Rattle.flow_send.specs.declared.waiting.Waiting.{Waiting}
use Rattle.flow_send.specs.Acks.{Told, beyond, greatest, told}
use Rattle.flow_send.specs.Choice.{chunk_for}
use Rattle.flow_send.specs.Flow.{Flow, is_finished, queue_refusal}
use Rattle.flow_send.specs.Sender.{Sender, abandoned, abandoned_with, finish_by}
use Rattle.flow_send.specs.Sender.{message_at}
use Rattle.flow_send.specs.Steady.{Steady}
use Rattle.flow_send.proofs.Ends.{next_unfinished}
use Rattle.flow_send.proofs.Queuings.{allowed}
use Rattle.flow_send.proofs.Steadies.{bounded, steady_abandoned, steady_finished, steady_lost, steady_new}
use Rattle.flow_send.proofs.Steadies.{steady_queued, steady_sent, steady_told}
use Rattle.rtmfp_base.specs.Reasons.{where_true, first_that_stands}
use Rattle.session_core.specs.Closing.{is_held}
use Rattle.session_core.specs.Session.{SessionState}
use Rattle.session_core.specs.Trips.{resend_time}
use Rattle.rtmfp_base.specs.declared.cause.Cause.TheVariants.{WrongState, AckBeyond}
use Rattle.session_flows.specs.declared.pace.Pace.{Pace}
use Rattle.session_flows.specs.declared.refusal.CallRefusal.TheVariants as call_refusal
use Rattle.session_flows.specs.declared.taking.TakingFlow.{TakingFlow}
use Rattle.session_flows.specs.Calling.{abandoning_by, finish_refused_by, finishing_by}
use Rattle.session_flows.specs.Calling.{new_flow, queue_refusal_of, queue_refused_by, queueing_by}
use Rattle.session_flows.specs.Causes.{beyond_of, cause_of, early_cause, metadata_of, order_of}
use Rattle.session_flows.specs.Causes.{chunk_cause, piece_of, receiver_by, receiver_cause}
use Rattle.session_flows.specs.Chunks.{all_abandoned, chunk_done, data_done, data_taken, heard_by}
use Rattle.session_flows.specs.Chunks.{made_by, owing, rejecting_by, taken_of, without_messages}
use Rattle.session_flows.specs.Handing.{handed_run, hands, hands_by, most_by, with_receiver}
use Rattle.session_flows.specs.Keeping.{FlowsState, added, changed, in_taking, new_taking}
use Rattle.session_flows.specs.Keeping.{sending_at, taking_at, with_changed, with_flow}
use Rattle.session_flows.specs.Keeping.{with_sending}
use Rattle.session_flows.specs.Owing.{acks_put, is_full_for, paid, with_front}
use Rattle.session_flows.specs.Packing.{Packing, before_other, chosen, first_to_send}
use Rattle.session_flows.specs.Packing.{may_send, packed, packed_by, packed_of, packing, packs}
use Rattle.session_flows.specs.Packing.{packs_on, put_back, refused_of, session_flight}
use Rattle.session_flows.specs.Timing.{after_late, losing}
use Rattle.session_flows.proofs.Indexed.{changed_added}
use Rattle.endpoint_model.specs.FlowCall.{FlowCall, OpenFlow, Queue, Abandon, Finish}
use Rattle.endpoint_model.specs.FlowCall.{flow_did, flow_refusal}
use Rattle.endpoint_laws.specs.Within.{FlowsHoldFew, SendsFew, TakesFew}
use Rattle.endpoint_laws.proofs.EachRow.{IsKept, flows_in_every_log}
use Rattle.endpoint_laws.proofs.Facts.{first_none}

-- ---- each of a list

module _ {X : Type 0} (P : X → Type 0) where
  all_get : (xs : List X) (i : ℕ) → AllByRecursion P xs → IfSome (slice_get xs i) P
  all_get [] i h = tt
  all_get (x ∷ later) zero h = h.0
  all_get (x ∷ later) (suc i) h = all_get later i h.1

  all_set : (xs : List X) (i : ℕ) (y : X) → P y → AllByRecursion P xs →
      AllByRecursion P (slice_set xs i y)
  all_set [] i y p h = tt
  all_set (x ∷ later) zero y p h = (p, h.1)
  all_set (x ∷ later) (suc i) y p h = (h.0, all_set later i y p h.1)

  all_push : (xs : List X) (y : X) → P y → AllByRecursion P xs → AllByRecursion P (xs ++ y ∷ [])
  all_push [] y p h = (p, tt)
  all_push (x ∷ later) y p h = (h.0, all_push later y p h.1)

  all_map : (f : X → X) → ((x : X) → P x → P (f x)) → (xs : List X) → AllByRecursion P xs →
      AllByRecursion P (map f xs)
  all_map f keeps [] h = tt
  all_map f keeps (x ∷ later) h = (keeps x h.0, all_map f keeps later h.1)

  of_some : (o : Option X) (x : X) → o ≡ Some x → IfSome o P → P x
  of_some (Some y) x is h = subst P (some_is is) h
    where
      some_is : {a b : X} → ◌≡◌ {A = Option X} (Some a) (Some b) → a ≡ b
      some_is e = cc
  of_some None x is h = absurd cc

all_so : {X : Type 0} (P Q : X → Type 0) → ((x : X) → P x → Q x) → (xs : List X) →
    AllByRecursion P xs → AllByRecursion Q xs
all_so P Q more [] h = tt
all_so P Q more (x ∷ later) h = (more x h.0, all_so P Q more later h.1)

-- ---- what is so of each flow

abbrev IsSteady : Flow → Type 0
IsSteady f = Steady f.sender

abbrev IsWell : TakingFlow → Type 0
IsWell t = Sound t.receiver

record AreWell (s : FlowsState) : Type 0 where
  sending : AllByRecursion IsSteady s.sending
  taking : AllByRecursion IsWell s.taking

steady_at : (s : FlowsState) (id : ℕ) (f : Flow) → sending_at s id ≡ Some f → AreWell s →
    Steady f.sender
steady_at s id f is h = of_some IsSteady (sending_at s id) f is (all_get IsSteady s.sending id h.sending)

put_well : (s : FlowsState) (id : ℕ) (f : Flow) → Steady f.sender → AreWell s →
    AreWell (with_flow s id f)
put_well s id f k h = record {
  sending = all_set IsSteady s.sending id f k h.sending;
  taking = h.taking;
}

-- ---- calls

refused_none : (o : Option QueueRefusal) → option_map queue_refusal_of o ≡ None → o ≡ None
refused_none None e = refl
refused_none (Some x) e = absurd cc

queued_well : (s : FlowsState) (id : ℕ) (bytes : List ℕ) (options : MessageOptions)
    (o : Option Flow) → sending_at s id ≡ o → queue_refused_by o (length bytes) ≡ None →
    AreWell s → AreWell (queueing_by s id bytes options o).flows
queued_well s id bytes options None is may h = h
queued_well s id bytes options (Some f) is may h =
    let k = allowed f.sender (length bytes)
    (refused_none (queue_refusal f.sender (length bytes)) may) in
    put_well s id _
    (steady_queued f.sender bytes options (steady_at s id f is h) k.unfinished k.bytes k.fragments
    k.numbers) h

abandoned_well : (s : FlowsState) (id seq : ℕ) (o : Option Flow) → sending_at s id ≡ o →
    AreWell s → AreWell (abandoning_by s id seq o).flows
abandoned_well s id seq None is h = h
abandoned_well s id seq (Some f) is h =
    put_well s id _
    (steady_abandoned f.sender seq (message_at seq f.sender.waiting) refl (steady_at s id f is h)) h

unfinished : (o : Option ℕ) → cond (is_finished o) (Some call_refusal.Finished) None ≡ None →
    o ≡ None
unfinished None e = refl
unfinished (Some n) e = absurd cc

finished_well : (s : FlowsState) (id : ℕ) (o : Option Flow) → sending_at s id ≡ o →
    finish_refused_by o ≡ None → AreWell s → AreWell (finishing_by s id o).flows
finished_well s id None is may h = h
finished_well s id (Some f) is may h =
    let k : Steady f.sender = steady_at s id f is h in
    let none : f.sender.finish ≡ None = unfinished f.sender.finish may in
    put_well s id _ (steady_finished f.sender k none (next_unfinished f.sender k none)) h

called_well : (s : FlowsState) (c : FlowCall) → flow_refusal s c ≡ None → AreWell s →
    AreWell (flow_did s c).flows
called_well s (OpenFlow priority metadata answers) may h = record {
  sending = all_push IsSteady s.sending (new_flow s metadata answers priority)
      (steady_new 1 (omega arith) (omega arith)) h.sending;
  taking = h.taking;
}
called_well s (Queue flow message options) may h =
    queued_well s flow message options (sending_at s flow) refl may h
called_well s (Abandon flow seq) may h = abandoned_well s flow seq (sending_at s flow) refl h
called_well s (Finish flow) may h = finished_well s flow (sending_at s flow) refl may h

-- ---- receiving flows

found_well : (id : ℕ) (ts : List TakingFlow) → AllByRecursion IsWell ts →
    IfSome (in_taking id ts) IsWell
found_well id [] h = tt
found_well id (t ∷ later) h = by (t.id == id) (found_well id later h.1)
  where
    by : (b : Bool) → IfSome (in_taking id later) IsWell →
        IfSome (cond b (Some t) (in_taking id later)) IsWell
    by true rest = h.0
    by false rest = rest

-- the flow of an ID changes
changed_well : (f : TakingFlow → TakingFlow) (id : ℕ) (ts : List TakingFlow) →
    IfSome (in_taking id ts) (λ t. IsWell (f t)) → AllByRecursion IsWell ts →
    AllByRecursion IsWell (changed f id ts)
changed_well f id [] k h = tt
changed_well f id (t ∷ later) k h = by (t.id == id) k (λ rest. changed_well f id later rest h.1)
  where
    by : (b : Bool) → IfSome (cond b (Some t) (in_taking id later)) (λ t. IsWell (f t)) →
        (IfSome (in_taking id later) (λ t. IsWell (f t)) →
        AllByRecursion IsWell (changed f id later)) →
        AllByRecursion IsWell (cond b (f t ∷ later) (t ∷ changed f id later))
    by true k more = (k, h.1)
    by false k more = (h.0, more k)

keeps_some : (f : TakingFlow → TakingFlow) → ((t : TakingFlow) → IsWell t → IsWell (f t)) →
    (o : Option TakingFlow) → IfSome o IsWell → IfSome o (λ t. IsWell (f t))
keeps_some f keeps None h = tt
keeps_some f keeps (Some t) h = keeps t h

-- one that is well stays so, whichever it is
kept_well : (s : FlowsState) (id : ℕ) (f : TakingFlow → TakingFlow) →
    ((t : TakingFlow) → IsWell t → IsWell (f t)) → AreWell s → AreWell (with_changed s id f)
kept_well s id f keeps h = record {
  sending = h.sending;
  taking = changed_well f id s.taking
      (keeps_some f keeps (in_taking id s.taking) (found_well id s.taking h.taking)) h.taking;
}

added_well : (t : TakingFlow) (ts : List TakingFlow) → IsWell t → AllByRecursion IsWell ts →
    AllByRecursion IsWell (added t ts)
added_well t [] k h = (k, tt)
added_well t (u ∷ later) k h = by (nat_lt t.id u.id) (added_well t later k h.1)
  where
    by : (b : Bool) → AllByRecursion IsWell (added t later) →
        AllByRecursion IsWell (cond b (t ∷ (u ∷ later)) (u ∷ added t later))
    by true rest = (k, h)
    by false rest = (h.0, rest)

-- ---- data

fresh_within : (n : ℕ) → knows (span 0 0 ∷ []) n ≡ true → n ≤ 65537
fresh_within n e = grind (arith, nat_tests)

fresh_sound : (arriving : Bool) → Sound (fresh arriving)
fresh_sound arriving = record {
  bytes = omega arith;
  window = fresh_within;
  apart = (omega arith, λ t h. absurd h, tt);
  zero = refl;
  alive = tt;
}

-- a chunk that no receiver refuses isn't beyond its buffer
not_beyond : (r : Receiver) (c : Chunk) → cause_of (refusal r c) ≡ None →
    beyond_buffer r c ≡ None
not_beyond r c e = by (after_final r c) (beyond_buffer r c) e
  where
    by : (o p : Option ℕ) →
        cause_of (after_or o (beyond_told p)) ≡ None → p ≡ None
    by (Some n) p e = absurd cc
    by None (Some n) e = absurd cc
    by None None e = refl

-- the chunk's number is above its forward number
below_of : (user : UserParts) → IsReadable user →
    (piece_of user).abandon ≡ false → (piece_of user).forward < (piece_of user).seq
below_of user fits e = by (nat_lt user.forward user.seq) refl
  where
    by : (b : Bool) → nat_lt user.forward user.seq ≡ b → user.forward < user.seq
    by true is = ltb-true user.forward user.seq is
    by false is =
        let same : user.forward ≡ user.seq =
        omega (arith, ltb-false user.forward user.seq is, fits.behind.0) in
        absurd (clash user.abandon (fits.behind.1 same) e)
      where
        clash : (b : Bool) → b ≡ true → b ≡ false → ⊥
        clash true p q = absurd cc
        clash false p q = absurd cc

taken_well : (user : UserParts) (t : TakingFlow) → IsReadable user →
    beyond_buffer t.receiver (piece_of user) ≡ None → IsWell t → IsWell (taken_of user t)
taken_well user t fits none k = sound_taken t.receiver (piece_of user) k (below_of user fits) none

took_well : (s : FlowsState) (user : UserParts) (o : Option TakingFlow) →
    taking_at s user.flow ≡ o → IsReadable user →
    beyond_buffer (receiver_by o user) (piece_of user) ≡ None → AreWell s →
    AreWell (with_changed (made_by s user o) user.flow (taken_of user))
took_well s user (Some t) is fits none h = record {
  sending = h.sending;
  taking = changed_well (taken_of user) user.flow s.taking
      (subst (λ (o : Option TakingFlow). IfSome o (λ t. IsWell (taken_of user t))) (sym is)
      (taken_well user t fits none
      (of_some IsWell (in_taking user.flow s.taking) t is (found_well user.flow s.taking h.taking))))
      h.taking;
}
took_well s user None is fits none h =
    let r : Receiver = fresh (order_of (metadata_of user)) in
    let t : TakingFlow = new_taking user.flow r in
    record {
      sending = h.sending;
      taking = subst (λ (ts : List TakingFlow). AllByRecursion IsWell ts)
          (sym (changed_added (taken_of user) t s.taking refl is))
          (added_well (taken_of user t) s.taking
          (taken_well user t fits none (fresh_sound (order_of (metadata_of user)))) h.taking);
    }

run_well : (s : FlowsState) (id : ℕ) (o : Option Run) → AreWell s →
    AreWell (handed_run s id o).flows
run_well s id None h = h
run_well s id (Some y) h =
    kept_well s id (with_receiver handed_next) (λ t k. sound_handed t.receiver k) h

by_well : (s : FlowsState) (id : ℕ) (o : Option TakingFlow) → AreWell s →
    AreWell (hands_by s id o).flows
by_well s id None h = h
by_well s id (Some t) h = run_well s id (next_run t.receiver) h

hands_well : (count id : ℕ) (s : FlowsState) → AreWell s → AreWell (hands count id s).flows
hands_well zero id s h = h
hands_well (suc count) id s h = hands_well count id (hands_by s id (taking_at s id)).flows
    (by_well s id (taking_at s id) h)

data_well : (session : SessionState) (s : FlowsState) (user : UserParts) → IsReadable user →
    first_that_stands (early_cause session s user ∷ receiver_cause s user ∷ []) ≡ None →
    AreWell s → AreWell (data_done s user).flows
data_well session s user fits may h =
    let rest = (first_none (early_cause session s user) (receiver_cause s user ∷ []) may).1 in
    let none : receiver_cause s user ≡ None = (first_none (receiver_cause s user) [] rest).0 in
    hands_well (most_by (taking_at (data_taken s user) user.flow)) user.flow (data_taken s user)
    (took_well s user (taking_at s user.flow) refl fits
    (not_beyond (receiver_by (taking_at s user.flow) user) (piece_of user) none) h)

-- ---- acks and exceptions

none_beyond : (o : Option ℕ) → option_map AckBeyond o ≡ None → o ≡ None
none_beyond None e = refl
none_beyond (Some n) e = absurd cc

not_above : (s : Sender) (a : Told) (b : Bool) → nat_lt s.sent (greatest a.upto a.spans) ≡ b →
    cond b (Some (greatest a.upto a.spans)) None ≡ None → greatest a.upto a.spans ≤ s.sent
not_above s a true is e = absurd cc
not_above s a false is e = ltb-false s.sent (greatest a.upto a.spans) is

heard_well : (session : SessionState) (s : FlowsState) (id : ℕ) (a : Told) (o : Option Flow) →
    sending_at s id ≡ o →
    first_that_stands
    (where_true (not (is_held session.stage)) WrongState ∷ beyond_of o a ∷ []) ≡ None →
    AreWell s → AreWell (heard_by s id a o)
heard_well session s id a None is may h = h
heard_well session s id a (Some f) is may h =
    let rest = (first_none (where_true (not (is_held session.stage)) WrongState)
    (beyond_of (Some f) a ∷ []) may).1 in
    let none = none_beyond (beyond f.sender a) (first_none (beyond_of (Some f) a) [] rest).0 in
    put_well s id _
    (steady_told f.sender a (steady_at s id f is h) (not_above f.sender a _ refl none)) h

one_steady : (s : Sender) (n : ℕ) → Steady s → Steady (abandoned n s)
one_steady s n k = steady_abandoned s n (message_at n s.waiting) refl k

all_steady : (ws : List Waiting) (s : Sender) → Steady s → Steady (all_abandoned ws s)
all_steady [] s k = k
all_steady (w ∷ later) s k = all_steady later (abandoned w.number s) (one_steady s w.number k)

same_finish : (o : Option Waiting) (n : ℕ) (s : Sender) →
    (abandoned_with o n s).finish ≡ s.finish
same_finish None n s = refl
same_finish (Some w) n s = refl

finish_stays : (ws : List Waiting) (s : Sender) → (all_abandoned ws s).finish ≡ s.finish
finish_stays [] s = refl
finish_stays (w ∷ later) s =
    finish_stays later (abandoned w.number s)
    ∙ same_finish (message_at w.number s.waiting) w.number s

ended_steady : (s : Sender) (o : Option ℕ) → s.finish ≡ o → Steady s → Steady (finish_by s o)
ended_steady s (Some n) is k = k
ended_steady s None is k = steady_finished s k is (next_unfinished s k is)

rejected_well : (s : FlowsState) (id : ℕ) (o : Option Flow) → sending_at s id ≡ o → AreWell s →
    AreWell (rejecting_by s id o).flows
rejected_well s id None is h = h
rejected_well s id (Some f) is h =
    put_well s id _
    (ended_steady (without_messages f.sender) f.sender.finish
    (finish_stays f.sender.waiting f.sender)
    (all_steady f.sender.waiting f.sender (steady_at s id f is h))) h

chunk_well : (session : SessionState) (s : FlowsState) (c : DataChunk) → FitsIn c →
    chunk_cause session s c ≡ None → AreWell s → AreWell (chunk_done s c).flows
chunk_well session s (Data user) fits may h = data_well session s user fits may h
chunk_well session s (Next user) fits may h = data_well session s user fits may h
chunk_well session s (AckBitmap flow blocks upto bits) fits may h =
    heard_well session s flow (told blocks upto (numbers_acked (AckBitmap flow blocks upto bits)))
    (sending_at s flow) refl may h
chunk_well session s (AckRanges flow blocks upto pairs) fits may h =
    heard_well session s flow (told blocks upto (numbers_acked (AckRanges flow blocks upto pairs)))
    (sending_at s flow) refl may h
chunk_well session s (Probe flow) fits may h = kept_well s flow owing (λ t k. k) h
chunk_well session s (Exception flow code) fits may h =
    rejected_well s flow (sending_at s flow) refl h

-- ---- acks that go out, and time

put_acks_well : (ts : List TakingFlow) (packet : List ℕ) → AllByRecursion IsWell ts →
    AllByRecursion IsWell (acks_put ts packet).taking
put_acks_well [] packet h = tt
put_acks_well (t ∷ later) packet h =
    by t.owed (is_full_for t packet) (λ out. put_acks_well later out h.1)
  where
    by : (owed full : Bool) →
        ((out : List ℕ) → AllByRecursion IsWell (acks_put later out).taking) →
        AllByRecursion IsWell
        (cond owed (cond full (record { taking = t ∷ later; packet = packet })
        (with_front (paid t) (acks_put later
        (packet ++ ack_bytes t.id (packet_limit - length packet - 3) t.receiver))))
        (with_front t (acks_put later packet))).taking
    by true true rest = h
    by true false rest =
        (h.0, rest (packet ++ ack_bytes t.id (packet_limit - length packet - 3) t.receiver))
    by false full rest = (h.0, rest packet)

late_well : (session : SessionState) (s : FlowsState) (moment : ℕ) → AreWell s →
    AreWell (after_late session s moment)
late_well session s moment h = by (is_held session.stage)
  where
    by : (b : Bool) →
        AreWell (cond b (with_sending s (map (losing moment (resend_time session.trip)) s.sending))
        s)
    by true = record {
      sending = all_map IsSteady (losing moment (resend_time session.trip))
          (λ f k. steady_lost f.sender moment (resend_time session.trip) k) s.sending h.sending;
      taking = h.taking;
    }
    by false = h

-- ---- packets

-- the flow that sends is one of them
first_steady : (pace : Pace) (fs : List Flow) → AllByRecursion IsSteady fs →
    IfSome (first_to_send pace fs) IsSteady
first_steady pace [] h = tt
first_steady pace (f ∷ later) h =
    by (may_send pace f) (first_to_send pace later) (first_steady pace later h.1)
  where
    of_two : (g : Flow) (b : Bool) → IsSteady g → IsSteady (cond b g f)
    of_two g true k = k
    of_two g false k = h.0

    by : (b : Bool) (o : Option Flow) → IfSome o IsSteady →
        IfSome (cond b (Some (before_other f o)) o) IsSteady
    by false o k = k
    by true None k = h.0
    by true (Some g) k = of_two g (nat_lt f.priority g.priority) k

-- one chunk more, and then what keeps the flows well
goes_on : (pace : Pace) (p : Packing) (later : Packing → Packing) →
    AllByRecursion IsSteady p.sending →
    ((q : Packing) → AllByRecursion IsSteady q.sending →
    AllByRecursion IsSteady (later q).sending) →
    (o : Option Flow) → IfSome o IsSteady →
    AllByRecursion IsSteady (packs_on later p (packed_of pace p o)).sending
goes_on pace p later h more None k = h
goes_on pace p later h more (Some f) k =
    put (refused_of pace (session_flight p.sending) (packed f p.packet p.marks))
    (chunk_for f.sender (chosen pace f))
  where
    put : (x : Option NoChunk) (c : Option Chunk) →
        AllByRecursion IsSteady (packs_on later p
        (put_back p.sending (packed_by pace (packed f p.packet p.marks) x c))).sending
    put (Some refused) c = h
    put None None = h
    put None (Some c) =
        more _ (all_set IsSteady p.sending f.id _
        (steady_sent f.sender pace.moment pace.resend_after (chosen pace f) refl k) h)

packs_well : (pace : Pace) (count : ℕ) (p : Packing) → AllByRecursion IsSteady p.sending →
    AllByRecursion IsSteady (packs pace count p).sending
unfolding packs
packs_well pace zero p h = h
packs_well pace (suc count) p h =
    goes_on pace p (packs pace count) h (λ q. packs_well pace count q)
    (first_to_send pace p.sending) (first_steady pace p.sending h)

-- ---- all that is done

all_is_kept : IsKept AreWell
all_is_kept = record {
  none = record { sending = tt; taking = tt };
  called = called_well;
  chunk = chunk_well;
  acked = λ f packet h. record {
    sending = h.sending;
    taking = put_acks_well f.taking packet h.taking;
  };
  unowed = λ f h. record {
    sending = h.sending;
    taking = all_map IsWell paid (λ t k. k) f.taking h.taking;
  };
  late = late_well;
  overdue = λ f flow seq h. abandoned_well f flow seq (sending_at f flow) refl h;
  sent = λ pace f packet h. record {
    sending = packs_well pace 1165 (packing f.sending packet) h.sending;
    taking = h.taking;
  };
}

pub flows_hold_few : FlowsHoldFew
flows_hold_few setup log s near row stands there =
    let h = flows_in_every_log AreWell all_is_kept setup log s stands near row there in
    record {
      sending = all_so IsSteady (λ f. SendsFew f.sender)
          (λ f k. record {
            bytes = k.bytes;
            fragments = k.fragments;
            each = (bounded f.sender k).each;
          }) row.flows.sending h.sending;
      taking = all_so IsWell (λ t. TakesFew t.receiver)
          (λ t k. record { bytes = k.bytes; numbers = k.window }) row.flows.taking h.taking;
    }
