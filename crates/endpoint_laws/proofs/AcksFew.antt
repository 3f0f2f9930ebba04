-- A packet with room for one ack's head takes at least one ack, so each packet leaves fewer that
-- are owed. That each head is short is so in every log.
use Prim.Native.Nat.{zero, suc}
use Rattle.std.proofs.Common.{◌≡◌, ℕ, ◌+◌, ◌-◌, ◌^◌, ◌<◌, ◌≤◌, ◌==◌, ◌||◌, nat_lt, min, max, Bool}
use Rattle.std.proofs.Common.{true, false, cond, if◌then◌else◌, map, List, [], ◌∷◌, ◌++◌, length}
use Rattle.std.proofs.Common.{Option, Some, None, refl, ap, ◌∙◌, length-append, arith}
use Rattle.std.specs.List.{AllByRecursion, filter, list_any}
use Rattle.std.proofs.lemmas.Bool.Decides.{nat_tests}
use Rattle.rtmfp_vlu.proofs.Fields.{length-vlu_within}
use Rattle.rtmfp_vlu.specs.Vlu.{vlu}
use Rattle.rtmfp_forms.specs.Outgoing.{packet_limit}
use Rattle.rtmfp_data_chunks.specs.Chunk.{UserParts, DataChunk, Data, Next, AckBitmap, AckRanges}
use Rattle.rtmfp_data_chunks.specs.Chunk.{Probe, Exception}
use Rattle.rtmfp_data_chunks.specs.Acked.{acked as numbers_acked}
use Rattle.rtmfp_data_chunks.specs.Fitting.{FitsIn, IsReadable}
use Rattle.rtmfp_data_chunks.specs.Runs.{Run}
use Rattle.flow_recv.specs.declared.spans.Span.{Span}
use Rattle.flow_recv.specs.Receiver.{span, fresh, add_span, through_in, end_of_first, held_in}
use Rattle.flow_recv.specs.Receiver.{next_run, handed_next}
use Rattle.flow_recv.specs.Acking.{ack_head, ack_bytes, free_blocks}
use Rattle.flow_send.specs.Acks.{Told, told}
use Rattle.flow_send.specs.Flow.{Flow}
use Rattle.session_core.specs.Closing.{is_held}
use Rattle.session_core.specs.Session.{SessionState}
use Rattle.session_core.specs.Trips.{resend_time}
use Rattle.session_flows.specs.declared.taking.TakingFlow.{TakingFlow}
use Rattle.session_flows.specs.Keeping.{FlowsState, sending_at, taking_at, changed, added}
use Rattle.session_flows.specs.Keeping.{new_taking, with_sending}
use Rattle.session_flows.specs.Calling.{queueing_by, abandoning_by, finishing_by}
use Rattle.session_flows.specs.Causes.{metadata_of, order_of}
use Rattle.session_flows.specs.Chunks.{made, made_by, taken_of, data_taken, data_done, heard_by}
use Rattle.session_flows.specs.Chunks.{owing, rejecting_by, chunk_done}
use Rattle.session_flows.specs.Handing.{with_receiver, handed_run, hands_by, hands, most_by}
use Rattle.session_flows.specs.Owing.{Acked, is_owed, owed_in, paid, with_front, is_full_for}
use Rattle.session_flows.specs.Owing.{acks_put}
use Rattle.session_flows.specs.Timing.{after_late, losing}
use Rattle.session_flows.proofs.Fewer.{none_owed}
use Rattle.endpoint_model.specs.FlowCall.{FlowCall, OpenFlow, Queue, Abandon, Finish, flow_did}

-- ---- an ack's head is short

-- the spans end with numbers of 64 bits
abbrev pub AreNarrow : List Span → Type 0
AreNarrow [] = Unit {0}
AreNarrow (x ∷ later) = (x.last < 2 ^ 64) × AreNarrow later

-- The numbers in its head are of 64 bits.
pub record IsShort (t : TakingFlow) : Type 0 where
  pub id : t.id < 2 ^ 64
  pub narrow : AreNarrow t.receiver.spans

abbrev pub AreShort : FlowsState → Type 0
AreShort s = AllByRecursion IsShort s.taking

through_few : (spans : List Span) → AreNarrow spans → end_of_first spans < 2 ^ 64
through_few [] h = omega arith
through_few (x ∷ later) h = h.0

three_short : (a b c : List ℕ) → length a ≤ 10 → length b ≤ 10 → length c ≤ 10 →
    length (a ++ b ++ c) ≤ 30
three_short a b c p q r = omega (arith, p, q, r, length-append (a ++ b) c, length-append a b)

head_short : (t : TakingFlow) → IsShort t → length (ack_head t.id t.receiver) ≤ 30
head_short t h =
    let blocks : ℕ = free_blocks (held_in t.receiver.runs) in
    three_short (vlu t.id) (vlu blocks) (vlu (through_in t.receiver))
    (length-vlu_within t.id h.id).1 (length-vlu_within blocks (omega arith)).1
    (length-vlu_within (through_in t.receiver) (through_few t.receiver.spans h.narrow)).1

has_room : (t : TakingFlow) (packet : List ℕ) → IsShort t → length packet ≤ 5 →
    is_full_for t packet ≡ false
has_room t packet h few = let k = head_short t h in grind (arith, nat_tests)

-- ---- fewer are owed

-- what goes in of a flow, where it is owed or not and its head has no room or has
abbrev put_as : TakingFlow → List TakingFlow → List ℕ → Bool → Bool → Acked
put_as t later packet owed full =
    if owed then
    (if full then record { taking = t ∷ later; packet = packet }
    else with_front (paid t) (acks_put later
    (packet ++ ack_bytes t.id (packet_limit - length packet - 3) t.receiver)))
    else with_front t (acks_put later packet)

owed_front : (t : TakingFlow) (later : List TakingFlow) (b : Bool) → t.owed ≡ b →
    owed_in (t ∷ later) ≡ cond b (owed_in later + 1) (owed_in later)
owed_front t later b is =
    at t.owed ∙ ap (λ (c : Bool). cond c (owed_in later + 1) (owed_in later)) is
  where
    at : (b : Bool) → length (cond b (t ∷ filter is_owed later) (filter is_owed later))
        ≡ cond b (owed_in later + 1) (owed_in later)
    at true = omega arith
    at false = refl

-- no more are, whatever the packet is
no_more_by : (t : TakingFlow) (later : List TakingFlow) (packet : List ℕ) (owed full : Bool) →
    t.owed ≡ owed → ((out : List ℕ) → owed_in (acks_put later out).taking ≤ owed_in later) →
    owed_in (put_as t later packet owed full).taking ≤ owed_in (t ∷ later)
no_more_by t later packet true true is rest = omega arith
no_more_by t later packet true false is rest =
    omega (
      arith,
      owed_front t later true is,
      rest (packet ++ ack_bytes t.id (packet_limit - length packet - 3) t.receiver),
    )
no_more_by t later packet false full is rest =
    omega (
      arith,
      owed_front t later false is,
      owed_front t (acks_put later packet).taking false is,
      rest packet,
    )

no_more : (ts : List TakingFlow) (packet : List ℕ) →
    owed_in (acks_put ts packet).taking ≤ owed_in ts
no_more [] packet = omega arith
no_more (t ∷ later) packet =
    no_more_by t later packet t.owed (is_full_for t packet) refl (no_more later)

fewer_by : (t : TakingFlow) (later : List TakingFlow) (packet : List ℕ) (owed full : Bool) →
    t.owed ≡ owed → full ≡ false → (owed || list_any is_owed later) ≡ true →
    (list_any is_owed later ≡ true → owed_in (acks_put later packet).taking < owed_in later) →
    owed_in (put_as t later packet owed full).taking < owed_in (t ∷ later)
fewer_by t later packet owed true is room any rest = absurd cc
fewer_by t later packet true false is room any rest =
    omega (
      arith,
      owed_front t later true is,
      no_more later (packet ++ ack_bytes t.id (packet_limit - length packet - 3) t.receiver),
    )
fewer_by t later packet false false is room any rest =
    omega (
      arith,
      owed_front t later false is,
      owed_front t (acks_put later packet).taking false is,
      rest any,
    )

-- a packet that has no more than its head leaves fewer
pub fewer : (ts : List TakingFlow) (packet : List ℕ) → AllByRecursion IsShort ts →
    length packet ≤ 5 → list_any is_owed ts ≡ true →
    owed_in (acks_put ts packet).taking < owed_in ts
fewer [] packet h few any = absurd cc
fewer (t ∷ later) packet h few any =
    fewer_by t later packet t.owed (is_full_for t packet) refl (has_room t packet h.0 few) any
    (fewer later packet h.1 few)

pub at_most : (ts : List TakingFlow) → owed_in ts ≤ length ts
at_most [] = omega arith
at_most (t ∷ later) = by t.owed (at_most later)
  where
    by : (b : Bool) → owed_in later ≤ length later → length (cond b (t ∷ filter is_owed later)
        (filter is_owed later)) ≤ length (t ∷ later)
    by true k = omega (arith, k)
    by false k = omega (arith, k)

-- ---- none is owed after these

pub none_put : (ts : List TakingFlow) (packet : List ℕ) → list_any is_owed ts ≡ false →
    list_any is_owed (acks_put ts packet).taking ≡ false
none_put ts packet none = none_owed (acks_put ts packet).taking
    (omega (arith, no_more ts packet, none_in ts none))
  where
    none_in : (ts : List TakingFlow) → list_any is_owed ts ≡ false → owed_in ts ≤ 0
    none_in [] none = omega arith
    none_in (t ∷ later) none = by t.owed none (none_in later)
      where
        by : (b : Bool) → (b || list_any is_owed later) ≡ false →
            (list_any is_owed later ≡ false → owed_in later ≤ 0) →
            length (cond b (t ∷ filter is_owed later) (filter is_owed later)) ≤ 0
        by true none rest = absurd cc
        by false none rest = rest none

pub none_paid : (ts : List TakingFlow) → list_any is_owed (map paid ts) ≡ false
none_paid [] = refl
none_paid (t ∷ later) = none_paid later

-- ---- each head stays short

narrow_by : (a b : ℕ) (s : Span) (later : List Span) (p q : Bool) → s.last < 2 ^ 64 → b < 2 ^ 64 →
    AreNarrow later → AreNarrow (add_span a b later) → AreNarrow
    (add_span (min a s.first) (max b s.last) later) →
    AreNarrow (cond p (s ∷ add_span a b later) (cond q (span a b ∷ s ∷ later)
    (add_span (min a s.first) (max b s.last) later)))
narrow_by a b s later true q low few h ih joined = (low, ih)
narrow_by a b s later false true low few h ih joined = (few, (low, h))
narrow_by a b s later false false low few h ih joined = joined

narrow_add : (a b : ℕ) (ss : List Span) → b < 2 ^ 64 → AreNarrow ss → AreNarrow (add_span a b ss)
narrow_add a b [] few h = (few, tt)
narrow_add a b (s ∷ later) few h =
    narrow_by a b s later (nat_lt (s.last + 1) a) (nat_lt (b + 1) s.first) h.0 few h.1
    (narrow_add a b later few h.1)
    (narrow_add (min a s.first) (max b s.last) later (omega (arith, few, h.0)) h.1)

taken_short : (user : UserParts) → IsReadable user → (t : TakingFlow) → IsShort t →
    IsShort (taken_of user t)
taken_short user read t h =
    let forward : user.forward < 2 ^ 64 = omega (arith, read.seq, read.behind.0) in
    record {
      id = h.id;
      narrow = narrow_add user.seq user.seq
          (add_span 0 user.forward t.receiver.spans) read.seq (narrow_add 0 user.forward
          t.receiver.spans forward h.narrow);
    }

each_changed : (f : TakingFlow → TakingFlow) → ((t : TakingFlow) → IsShort t → IsShort (f t)) →
    (id : ℕ) (ts : List TakingFlow) → AllByRecursion IsShort ts →
    AllByRecursion IsShort (changed f id ts)
each_changed f keeps id [] h = tt
each_changed f keeps id (t ∷ later) h = by (t.id == id) (each_changed f keeps id later h.1)
  where
    by : (b : Bool) → AllByRecursion IsShort (changed f id later) →
        AllByRecursion IsShort (cond b (f t ∷ later) (t ∷ changed f id later))
    by true rest = (keeps t h.0, h.1)
    by false rest = (h.0, rest)

each_added : (t : TakingFlow) → IsShort t → (ts : List TakingFlow) → AllByRecursion IsShort ts →
    AllByRecursion IsShort (added t ts)
each_added t k [] h = (k, tt)
each_added t k (u ∷ later) h = by (nat_lt t.id u.id) (each_added t k later h.1)
  where
    by : (b : Bool) → AllByRecursion IsShort (added t later) →
        AllByRecursion IsShort (cond b (t ∷ (u ∷ later)) (u ∷ added t later))
    by true rest = (k, h)
    by false rest = (h.0, rest)

made_short : (s : FlowsState) (user : UserParts) → IsReadable user → (o : Option TakingFlow) →
    AreShort s → AreShort (made_by s user o)
made_short s user read (Some t) h = h
made_short s user read None h =
    let arriving : Bool = order_of (metadata_of user) in
    each_added (new_taking user.flow (fresh arriving)) (record {
      id = read.flow;
      narrow =
          (omega arith, tt);
    }) s.taking h

run_short : (s : FlowsState) (id : ℕ) (o : Option Run) → AreShort s →
    AreShort (handed_run s id o).flows
run_short s id None h = h
run_short s id (Some y) h = each_changed (with_receiver handed_next) (λ t k. record {
  id =
      k.id;
  narrow = k.narrow;
}) id s.taking h

hand_short : (s : FlowsState) (id : ℕ) (o : Option TakingFlow) → AreShort s →
    AreShort (hands_by s id o).flows
hand_short s id None h = h
hand_short s id (Some t) h = run_short s id (next_run t.receiver) h

hands_short : (count id : ℕ) (s : FlowsState) → AreShort s → AreShort (hands count id s).flows
hands_short zero id s h = h
hands_short (suc count) id s h = hands_short count id (hands_by s id (taking_at s id)).flows
    (hand_short s id (taking_at s id) h)

data_short : (s : FlowsState) (user : UserParts) → IsReadable user → AreShort s →
    AreShort (data_done s user).flows
data_short s user read h =
    hands_short (most_by (taking_at (data_taken s user) user.flow)) user.flow (data_taken s user)
    (each_changed (taken_of user) (taken_short user read) user.flow (made s user).taking
    (made_short s user read (taking_at s user.flow) h))

heard_short : (s : FlowsState) (id : ℕ) (a : Told) (o : Option Flow) → AreShort s →
    AreShort (heard_by s id a o)
heard_short s id a None h = h
heard_short s id a (Some f) h = h

rejected_short : (s : FlowsState) (id : ℕ) (o : Option Flow) → AreShort s →
    AreShort (rejecting_by s id o).flows
rejected_short s id None h = h
rejected_short s id (Some f) h = h

pub chunk_short : (s : FlowsState) (c : DataChunk) → FitsIn c → AreShort s →
    AreShort (chunk_done s c).flows
chunk_short s (Data user) fits h = data_short s user fits h
chunk_short s (Next user) fits h = data_short s user fits h
chunk_short s (AckBitmap flow blocks upto bits) fits h =
    heard_short s flow (told blocks upto (numbers_acked (AckBitmap flow blocks upto bits)))
    (sending_at s flow) h
chunk_short s (AckRanges flow blocks upto pairs) fits h =
    heard_short s flow (told blocks upto (numbers_acked (AckRanges flow blocks upto pairs)))
    (sending_at s flow) h
chunk_short s (Probe flow) fits h = each_changed owing (λ t k. record {
  id = k.id;
  narrow =
      k.narrow;
}) flow s.taking h
chunk_short s (Exception flow code) fits h = rejected_short s flow (sending_at s flow) h

pub acks_short : (ts : List TakingFlow) (packet : List ℕ) → AllByRecursion IsShort ts →
    AllByRecursion IsShort (acks_put ts packet).taking
acks_short [] packet h = tt
acks_short (t ∷ later) packet h = by t.owed (is_full_for t packet) (λ out. acks_short later out h.1)
  where
    by : (owed full : Bool) → ((out : List ℕ) → AllByRecursion IsShort (acks_put later out).taking)
        →
        AllByRecursion IsShort (put_as t later packet owed full).taking
    by true true rest = h
    by true false rest = (
      record {
        id = h.0.id;
        narrow =
            h.0.narrow;
      },
      rest (packet ++ ack_bytes t.id (packet_limit - length packet - 3) t.receiver),
    )
    by false full rest = (h.0, rest packet)

pub paid_short : (ts : List TakingFlow) → AllByRecursion IsShort ts →
    AllByRecursion IsShort (map paid ts)
paid_short [] h = tt
paid_short (t ∷ later) h = (record { id = h.0.id; narrow = h.0.narrow }, paid_short later h.1)

-- ---- what leaves the receiving flows as they are

pub abandon_same : (s : FlowsState) (flow seq : ℕ) (o : Option Flow) →
    (abandoning_by s flow seq o).flows.taking ≡ s.taking
abandon_same s flow seq None = refl
abandon_same s flow seq (Some f) = refl

pub late_same : (session : SessionState) (s : FlowsState) (moment : ℕ) →
    (after_late session s moment).taking ≡ s.taking
late_same session s moment = by (is_held session.stage)
  where
    by : (b : Bool) → (cond b (with_sending s (map (losing moment (resend_time session.trip))
        s.sending)) s).taking ≡ s.taking
    by true = refl
    by false = refl

pub call_same : (s : FlowsState) (c : FlowCall) → (flow_did s c).flows.taking ≡ s.taking
call_same s (OpenFlow priority metadata answers) = refl
call_same s (Queue flow message options) = by (sending_at s flow)
  where
    by : (o : Option Flow) → (queueing_by s flow message options o).flows.taking ≡ s.taking
    by None = refl
    by (Some f) = refl
call_same s (Abandon flow seq) = abandon_same s flow seq (sending_at s flow)
call_same s (Finish flow) = by (sending_at s flow)
  where
    by : (o : Option Flow) → (finishing_by s flow o).flows.taking ≡ s.taking
    by None = refl
    by (Some f) = refl
