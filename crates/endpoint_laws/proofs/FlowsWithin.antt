-- In every log the flows of each session are sound: they have the IDs of their places, and there
-- are at most 256 in either
-- direction.
use Prim.Native.Nat.{zero, suc}
use Rattle.std.proofs.Common.{◌≡◌, ℕ, ◌+◌, ◌<◌, ◌≤◌, ◌==◌, nat_le, not, ◌&&◌, Bool, true}
use Rattle.std.proofs.Common.{false, cond, List, [], ◌∷◌, map, length, Option, Some, None, refl}
use Rattle.std.proofs.Common.{sym, ap, subst, ◌∙◌, arith}
use Rattle.std.proofs.Common.{MatchOption}
use Rattle.std.proofs.Math.ListN.{length-set}
use Rattle.std.proofs.lemmas.Bool.Decides.{nat_tests}
use Rattle.std.proofs.lemmas.List.{length-map}
use Rattle.std.specs.Prelude.{is_some, slice_get}
use Rattle.rtmfp_data_chunks.specs.Chunk.{UserParts, DataChunk, Data, Next, AckBitmap, AckRanges}
use Rattle.rtmfp_data_chunks.specs.Chunk.{Probe, Exception}
use Rattle.rtmfp_data_chunks.specs.Acked.{acked as numbers_acked}
use Rattle.rtmfp_data_chunks.specs.Runs.{Chunk, Run}
use Rattle.flow_recv.specs.Receiver.{fresh, next_run, handed_next}
use Rattle.flow_send.specs.declared.outcome.NoChunk.{NoChunk}
use Rattle.flow_send.specs.declared.waiting.MessageOptions.{MessageOptions}
use Rattle.flow_send.specs.Choice.{chunk_for}
use Rattle.flow_send.specs.Flow.{Flow}
use Rattle.flow_send.specs.Acks.{Told, told}
use Rattle.rtmfp_base.specs.Reasons.{where_true, first_that_stands}
use Rattle.session_core.specs.Session.{SessionState}
use Rattle.session_core.specs.Closing.{is_held}
use Rattle.session_core.specs.Trips.{resend_time}
use Rattle.session_flows.specs.declared.pace.Pace.{Pace}
use Rattle.rtmfp_base.specs.declared.cause.Cause.{Cause}
use Rattle.rtmfp_base.specs.declared.cause.Cause.TheVariants.{WrongState, UnknownFlow}
use Rattle.rtmfp_base.specs.declared.cause.Cause.TheVariants.{FlowsFull}
use Rattle.session_flows.specs.declared.taking.TakingFlow.{TakingFlow}
use Rattle.session_flows.specs.Keeping.{FlowsState, sending_at, taking_at, new_taking}
use Rattle.session_flows.specs.Keeping.{changed, with_sending}
use Rattle.session_flows.specs.Keeping.{with_changed}
use Rattle.session_flows.specs.Calling.{new_flow, queueing_by, abandoning_by, finishing_by}
use Rattle.session_flows.specs.Causes.{metadata_of, order_of, is_unknown, is_one_too_many}
use Rattle.session_flows.specs.Causes.{early_cause, receiver_cause, chunk_cause}
use Rattle.session_flows.specs.Chunks.{made_by, made, taken_of, data_taken, data_done, heard_by}
use Rattle.session_flows.specs.Chunks.{owing, rejecting_by, chunk_done}
use Rattle.session_flows.specs.Handing.{with_receiver, handed_run, hands_by, hands}
use Rattle.session_flows.specs.Handing.{most_by}
use Rattle.session_flows.specs.Laws.{AreNumbered, Rise, IsSound, IsNextOf, NoneMaySend}
use Rattle.session_flows.specs.Owing.{owing_none, paid}
use Rattle.session_flows.specs.Packing.{chosen, first_to_send, session_flight, packed, packed_by}
use Rattle.session_flows.specs.Packing.{refused_of, Packing, packing, put_back, packed_of}
use Rattle.session_flows.specs.Packing.{packs_on, packs, filled}
use Rattle.session_flows.specs.Timing.{losing, after_late}
use Rattle.session_flows.proofs.Acked.{rise_paid, sound_put}
use Rattle.session_flows.proofs.Indexed.{longer, rise_added}
use Rattle.session_flows.proofs.Next.{next_from}
use Rattle.session_flows.proofs.Sounds.{numbered_set, numbered_losing, room_left, sound_push}
use Rattle.session_flows.proofs.Sounds.{sound_set}
use Rattle.session_flows.proofs.Within.{in_place}
use Rattle.endpoint_model.specs.FlowCall.{FlowCall, OpenFlow, Queue, Abandon, Finish, flow_refusal}
use Rattle.endpoint_model.specs.FlowCall.{flow_did}
use Rattle.endpoint_laws.specs.Within.{FlowsAreWithin}
use Rattle.endpoint_laws.proofs.EachRow.{IsKept, flows_in_every_log}
use Rattle.endpoint_laws.proofs.Facts.{first_none}

-- ---- a call

queued_sound : (s : FlowsState) (id : ℕ) (bytes : List ℕ) (options : MessageOptions)
    (o : Option Flow) → sending_at s id ≡ o → IsSound s →
    IsSound (queueing_by s id bytes options o).flows
queued_sound s id bytes options None is h = h
queued_sound s id bytes options (Some f) is h = sound_set s id f _ is refl h

abandoned_sound : (s : FlowsState) (id seq : ℕ) (o : Option Flow) → sending_at s id ≡ o →
    IsSound s → IsSound (abandoning_by s id seq o).flows
abandoned_sound s id seq None is h = h
abandoned_sound s id seq (Some f) is h = sound_set s id f _ is refl h

finished_sound : (s : FlowsState) (id : ℕ) (o : Option Flow) → sending_at s id ≡ o → IsSound s →
    IsSound (finishing_by s id o).flows
finished_sound s id None is h = h
finished_sound s id (Some f) is h = sound_set s id f _ is refl h

called_sound : (s : FlowsState) (c : FlowCall) → flow_refusal s c ≡ None → IsSound s →
    IsSound (flow_did s c).flows
called_sound s (OpenFlow priority metadata answers) may h =
    sound_push s (new_flow s metadata answers priority) (room_left s (length metadata) priority may)
    refl h
called_sound s (Queue flow message options) may h =
    queued_sound s flow message options (sending_at s flow) refl h
called_sound s (Abandon flow seq) may h = abandoned_sound s flow seq (sending_at s flow) refl h
called_sound s (Finish flow) may h = finished_sound s flow (sending_at s flow) refl h

-- ---- receiving flows

rise_by : (f : TakingFlow → TakingFlow) (id low : ℕ) (t : TakingFlow) (later : List TakingFlow)
    (b : Bool) → (f t).id ≡ t.id → Rise low (t ∷ later) → Rise (t.id + 1) (changed f id later) →
    Rise low (cond b (f t ∷ later) (t ∷ changed f id later))
rise_by f id low t later true keeps h more = (
  subst (λ (n : ℕ). low ≤ n) (sym keeps) h.0,
  subst (λ (n : ℕ). Rise (n + 1) later)
      (sym keeps) h.1,
)
rise_by f id low t later false keeps h more = (h.0, more)

rise_changed : (f : TakingFlow → TakingFlow) → ((t : TakingFlow) → (f t).id ≡ t.id) →
    (id low : ℕ) (ts : List TakingFlow) → Rise low ts → Rise low (changed f id ts)
rise_changed f keeps id low [] h = tt
rise_changed f keeps id low (t ∷ later) h = rise_by f id low t later (t.id == id) (keeps t) h
    (rise_changed f keeps id (t.id + 1) later h.1)

long_by : (f : TakingFlow → TakingFlow) (id : ℕ) (t : TakingFlow) (later : List TakingFlow)
    (b : Bool) → length (changed f id later) ≡ length later →
    length (cond b (f t ∷ later) (t ∷ changed f id later)) ≡ length (t ∷ later)
long_by f id t later true more = refl
long_by f id t later false more = omega (arith, more)

long_changed : (f : TakingFlow → TakingFlow) (id : ℕ) (ts : List TakingFlow) →
    length (changed f id ts) ≡ length ts
long_changed f id [] = refl
long_changed f id (t ∷ later) = long_by f id t later (t.id == id) (long_changed f id later)

sound_changed : (s : FlowsState) (id : ℕ) (f : TakingFlow → TakingFlow) →
    ((t : TakingFlow) → (f t).id ≡ t.id) → IsSound s → IsSound (with_changed s id f)
sound_changed s id f keeps h = record {
  numbered = h.numbered;
  few = h.few;
  rise = rise_changed f keeps id 0 s.taking h.rise;
  few_taking = omega (arith, long_changed f id s.taking, h.few_taking);
}

-- ---- data

not_where : (b : Bool) (c : Cause) → where_true b c ≡ None → b ≡ false
not_where true c e = absurd cc
not_where false c e = refl

-- a flow that a chunk makes has a place
room_by : (n : ℕ) (b : Bool) → nat_le 256 n ≡ b → (not false && b) ≡ false → n < 256
room_by n true e h = absurd cc
room_by n false e h = grind (arith, nat_tests)

made_sound : (s : FlowsState) (user : UserParts) (o : Option TakingFlow) →
    taking_at s user.flow ≡ o → is_one_too_many s user ≡ false → IsSound s →
    IsSound (made_by s user o)
made_sound s user (Some t) is room h = h
made_sound s user None is room h =
    let t : TakingFlow = new_taking user.flow (fresh (order_of (metadata_of user))) in
    let few : length s.taking < 256 = room_by (length s.taking) (nat_le 256 (length s.taking)) refl
    (sym (ap (λ (o : Option TakingFlow). not (is_some o) && nat_le 256 (length s.taking)) is)
    ∙ room) in
    record {
      numbered = h.numbered;
      few = h.few;
      rise = rise_added 0 t s.taking (omega arith) is h.rise;
      few_taking = omega (arith, longer t s.taking, few);
    }

run_sound : (s : FlowsState) (id : ℕ) (o : Option Run) → IsSound s →
    IsSound (handed_run s id o).flows
run_sound s id None h = h
run_sound s id (Some y) h = sound_changed s id (with_receiver handed_next) (λ t. refl) h

by_sound : (s : FlowsState) (id : ℕ) (o : Option TakingFlow) → IsSound s →
    IsSound (hands_by s id o).flows
by_sound s id None h = h
by_sound s id (Some t) h = run_sound s id (next_run t.receiver) h

hands_sound : (count id : ℕ) (s : FlowsState) → IsSound s → IsSound (hands count id s).flows
hands_sound zero id s h = h
hands_sound (suc count) id s h = hands_sound count id (hands_by s id (taking_at s id)).flows
    (by_sound s id (taking_at s id) h)

data_sound : (s : FlowsState) (user : UserParts) → is_one_too_many s user ≡ false → IsSound s →
    IsSound (data_done s user).flows
data_sound s user room h =
    hands_sound (most_by (taking_at (data_taken s user) user.flow)) user.flow (data_taken s user)
    (sound_changed (made s user) user.flow (taken_of user) (λ t. refl)
    (made_sound s user (taking_at s user.flow) refl room h))

room_of : (session : SessionState) (s : FlowsState) (user : UserParts) →
    first_that_stands (early_cause session s user ∷ receiver_cause s user ∷ []) ≡ None →
    is_one_too_many s user ≡ false
room_of session s user e =
    let many = where_true (is_one_too_many s user) (FlowsFull 256) in
    let unknown = where_true (is_unknown s user) UnknownFlow in
    let early = (first_none (early_cause session s user) (receiver_cause s user ∷ []) e).0 in
    let first = first_none (where_true (not (is_held session.stage)) WrongState)
    (unknown ∷ many ∷ []) early in
    let second = first_none unknown (many ∷ []) first.1 in
    not_where (is_one_too_many s user) (FlowsFull 256) (first_none many [] second.1).0

-- ---- chunks

heard_sound : (s : FlowsState) (id : ℕ) (a : Told) (o : Option Flow) → sending_at s id ≡ o →
    IsSound s → IsSound (heard_by s id a o)
heard_sound s id a None is h = h
heard_sound s id a (Some f) is h = sound_set s id f _ is refl h

rejected_sound : (s : FlowsState) (id : ℕ) (o : Option Flow) → sending_at s id ≡ o → IsSound s →
    IsSound (rejecting_by s id o).flows
rejected_sound s id None is h = h
rejected_sound s id (Some f) is h = sound_set s id f _ is refl h

chunk_sound : (session : SessionState) (s : FlowsState) (c : DataChunk) →
    chunk_cause session s c ≡ None → IsSound s → IsSound (chunk_done s c).flows
chunk_sound session s (Data user) may h = data_sound s user (room_of session s user may) h
chunk_sound session s (Next user) may h = data_sound s user (room_of session s user may) h
chunk_sound session s (AckBitmap flow blocks upto bits) may h =
    heard_sound s flow (told blocks upto (numbers_acked (AckBitmap flow blocks upto bits)))
    (sending_at s flow) refl h
chunk_sound session s (AckRanges flow blocks upto pairs) may h =
    heard_sound s flow (told blocks upto (numbers_acked (AckRanges flow blocks upto pairs)))
    (sending_at s flow) refl h
chunk_sound session s (Probe flow) may h = sound_changed s flow owing (λ t. refl) h
chunk_sound session s (Exception flow code) may h = rejected_sound s flow (sending_at s flow) refl h

-- ---- acks, and time

unowed_sound : (s : FlowsState) → IsSound s → IsSound (owing_none s)
unowed_sound s h = record {
  numbered = h.numbered;
  few = h.few;
  rise = rise_paid 0 s.taking h.rise;
  few_taking = omega (arith, length-map s.taking paid, h.few_taking);
}

late_sound : (session : SessionState) (s : FlowsState) (moment : ℕ) → IsSound s →
    IsSound (after_late session s moment)
late_sound session s moment h = by (is_held session.stage)
  where
    by : (b : Bool) →
        IsSound (cond b (with_sending s (map (losing moment (resend_time session.trip)) s.sending))
        s)
    by true = record {
      numbered = numbered_losing moment (resend_time session.trip) 0 s.sending h.numbered;
      few = omega (arith, length-map s.sending (losing moment (resend_time session.trip)), h.few);
      rise = h.rise;
      few_taking = h.few_taking;
    }
    by false = h

-- ---- packets

-- as many flows as there were, each with the ID of its place
record StillFits (p q : Packing) : Type 0 where
  numbered : AreNumbered 0 q.sending
  long : length q.sending ≡ length p.sending

put_fits : (pace : Pace) (p : Packing) (f : Flow) (k : ℕ) (x : Option NoChunk) (c : Option Chunk)
    (later : Packing → Packing) → AreNumbered 0 p.sending → f.id ≡ k →
    slice_get p.sending k ≡ Some f →
    ((q : Packing) → AreNumbered 0 q.sending → StillFits q (later q)) →
    StillFits p
    (packs_on later p (put_back p.sending (packed_by pace (packed f p.packet p.marks) x c)))
put_fits pace p f k (Some refused) c later numbered id is more =
    record { numbered = numbered; long = refl }
put_fits pace p f k None None later numbered id is more =
    record { numbered = numbered; long = refl }
put_fits pace p f k None (Some c) later numbered id is more =
    let here : slice_get p.sending f.id ≡ Some f = ap (λ n. slice_get p.sending n) id ∙ is in
    let rest = more _ (numbered_set 0 f.id p.sending f _ here refl numbered) in
    record { numbered = rest.numbered; long = rest.long ∙ length-set p.sending f.id _ }

fits_by : (pace : Pace) (p : Packing) (o : Option Flow) (later : Packing → Packing) →
    AreNumbered 0 p.sending → MatchOption o (NoneMaySend pace p.sending)
    (λ f. IsNextOf pace p.sending f) →
    ((q : Packing) → AreNumbered 0 q.sending → StillFits q (later q)) →
    StillFits p (packs_on later p (packed_of pace p o))
fits_by pace p None later numbered next more = record { numbered = numbered; long = refl }
fits_by pace p (Some f) later numbered next more =
    let r = in_place 0 p.sending f numbered next.is_in in
    let id : f.id ≡ 0 + r.0 = r.1 in
    put_fits pace p f r.0 (refused_of pace (session_flight p.sending) (packed f p.packet p.marks))
    (chunk_for f.sender (chosen pace f)) later numbered (omega arith) r.2 more

packs_fit : (pace : Pace) (count : ℕ) (p : Packing) → AreNumbered 0 p.sending →
    StillFits p (packs pace count p)
unfolding packs
packs_fit pace zero p numbered = record { numbered = numbered; long = refl }
packs_fit pace (suc count) p numbered =
    fits_by pace p (first_to_send pace p.sending) (packs pace count) numbered
    (next_from pace 0 p.sending numbered) (λ q more. packs_fit pace count q more)

sent_sound : (pace : Pace) (s : FlowsState) (packet : List ℕ) → IsSound s →
    IsSound (with_sending s (filled pace s.sending packet).sending)
sent_sound pace s packet h =
    let k = packs_fit pace 1165 (packing s.sending packet) h.numbered in
    record {
      numbered = k.numbered;
      few = omega (arith, k.long, h.few);
      rise = h.rise;
      few_taking = h.few_taking;
    }

-- ---- all that is done

pub sound_is_kept : IsKept IsSound
sound_is_kept = record {
  none = record { numbered = tt; few = omega arith; rise = tt; few_taking = omega arith };
  called = called_sound;
  chunk = λ session f c fits may h. chunk_sound session f c may h;
  acked = λ f packet h. sound_put f packet h;
  unowed = unowed_sound;
  late = late_sound;
  overdue = λ f flow seq h. abandoned_sound f flow seq (sending_at f flow) refl h;
  sent = sent_sound;
}

pub flows_are_within : FlowsAreWithin
flows_are_within setup log s near row stands there =
    flows_in_every_log IsSound sound_is_kept setup log s stands near row there
