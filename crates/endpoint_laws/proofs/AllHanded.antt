-- After every call no session has a message ready that could be handed over.
use Prim.Native.Nat.{zero, suc}
use Rattle.std.proofs.Common.{◌≡◌, ℕ, ◌==◌, nat_lt, Bool, true, false, cond, List, [], ◌∷◌, map, Option, Some, None, refl, sym, ap, subst, ◌∙◌}
use Rattle.std.proofs.lemmas.Bool.{eqb-true}
use Rattle.rtmfp_data_chunks.specs.Runs.{Run}
use Rattle.rtmfp_data_chunks.specs.Chunk.{UserParts, DataChunk, Data, Next, AckBitmap, AckRanges, Probe, Exception}
use Rattle.rtmfp_data_chunks.specs.Acked.{acked as numbers_acked}
use Rattle.flow_recv.specs.Receiver.{fresh, next_run, handed_next}
use Rattle.flow_send.specs.Flow.{Flow}
use Rattle.flow_send.specs.Acks.{Told, told}
use Rattle.session_core.specs.Closing.{is_held}
use Rattle.session_flows.specs.declared.taking.TakingFlow.{TakingFlow}
use Rattle.session_flows.specs.Keeping.{FlowsState, sending_at, in_taking, taking_at, new_taking, added, changed, with_sending}
use Rattle.session_flows.specs.Calling.{queueing_by, abandoning_by, abandoning, finishing_by}
use Rattle.session_flows.specs.Causes.{metadata_of, order_of}
use Rattle.session_flows.specs.Chunks.{made_by, made, taken_of, data_taken, data_done, heard_by, heard, owing, rejecting_by, rejecting, chunk_done}
use Rattle.session_flows.specs.Handing.{with_receiver, handed_run, hands_by, hands_once, hands, hands_all, most_by}
use Rattle.session_flows.specs.Laws.{none_ready_by}
use Rattle.session_flows.specs.Owing.{Acked, with_front, is_full_for, paid, acks_put}
use Rattle.session_flows.specs.Timing.{after_late}
use Rattle.session_flows.proofs.Handed.{nothing_left_ready}
use Rattle.endpoint_model.specs.FlowCall.{FlowCall, OpenFlow, Queue, Abandon, Finish, flow_did}
use Rattle.endpoint_laws.specs.Handed.{NoneReady, EveryMessageIsHandedOver}
use Rattle.endpoint_laws.proofs.EachRow.{IsKept, flows_in_every_log}

-- ---- receiving flows that aren't touched

-- of the flows that stand in a list under an ID, the first one's next message
abbrev ready_in : ℕ → List TakingFlow → Option Run
ready_in id ts = none_ready_by (in_taking id ts)

-- one is put in front of others with its ready message as before
put_same : (id : ℕ) (t u : TakingFlow) (ts us : List TakingFlow) → u.id ≡ t.id → next_run u.receiver ≡ next_run t.receiver → ready_in id us ≡ ready_in id ts → ready_in id (u ∷ us) ≡ ready_in id (t ∷ ts)
put_same id t u ts us same ready rest = ap (λ (n : ℕ). none_ready_by (cond (n == id) (Some u) (in_taking id us))) same ∙ by (t.id == id)
  where
    by : (b : Bool) → none_ready_by (cond b (Some u) (in_taking id us)) ≡ none_ready_by (cond b (Some t) (in_taking id ts))
    by true = ready
    by false = rest

changed_by : (f : TakingFlow → TakingFlow) (id q : ℕ) (t : TakingFlow) (later : List TakingFlow) (b : Bool) → (id == q) ≡ false → (f t).id ≡ t.id → (t.id == id) ≡ b → in_taking q (changed f id later) ≡ in_taking q later →
    in_taking q (cond b (f t ∷ later) (t ∷ changed f id later)) ≡ cond (t.id == q) (Some t) (in_taking q later)
changed_by f id q t later true other keeps is ih =
    let at : t.id ≡ id = eqb-true t.id id is in
    let past : (t.id == q) ≡ false = ap (λ (n : ℕ). n == q) at ∙ other in
    ap (λ (n : ℕ). cond (n == q) (Some (f t)) (in_taking q later)) keeps ∙ ap (λ (b : Bool). cond b (Some (f t)) (in_taking q later)) past ∙ sym (ap (λ (b : Bool). cond b (Some t) (in_taking q later)) past)
changed_by f id q t later false other keeps is ih = ap (cond (t.id == q) (Some t)) ih

-- a change of one flow leaves the others
changed_other : (f : TakingFlow → TakingFlow) → ((t : TakingFlow) → (f t).id ≡ t.id) → (id q : ℕ) → (id == q) ≡ false → (ts : List TakingFlow) → in_taking q (changed f id ts) ≡ in_taking q ts
changed_other f keeps id q other [] = refl
changed_other f keeps id q other (t ∷ later) = changed_by f id q t later (t.id == id) other (keeps t) refl (changed_other f keeps id q other later)

-- a change that leaves what is ready leaves it of all
changed_by_same : (f : TakingFlow → TakingFlow) (id q : ℕ) (t : TakingFlow) (later : List TakingFlow) (b : Bool) → (f t).id ≡ t.id → next_run (f t).receiver ≡ next_run t.receiver → ready_in q (changed f id later) ≡ ready_in q later →
    ready_in q (cond b (f t ∷ later) (t ∷ changed f id later)) ≡ ready_in q (t ∷ later)
changed_by_same f id q t later true keeps ready ih = put_same q t (f t) later later keeps ready refl
changed_by_same f id q t later false keeps ready ih = put_same q t t later (changed f id later) refl refl ih

changed_same : (f : TakingFlow → TakingFlow) → ((t : TakingFlow) → (f t).id ≡ t.id) → ((t : TakingFlow) → next_run (f t).receiver ≡ next_run t.receiver) → (id q : ℕ) (ts : List TakingFlow) → ready_in q (changed f id ts) ≡ ready_in q ts
changed_same f keeps ready id q [] = refl
changed_same f keeps ready id q (t ∷ later) = changed_by_same f id q t later (t.id == id) (keeps t) (ready t) (changed_same f keeps ready id q later)

added_by : (t u : TakingFlow) (later : List TakingFlow) (q : ℕ) (b : Bool) → (t.id == q) ≡ false → in_taking q (added t later) ≡ in_taking q later →
    in_taking q (cond b (t ∷ (u ∷ later)) (u ∷ added t later)) ≡ in_taking q (u ∷ later)
added_by t u later q true other ih = ap (λ (b : Bool). cond b (Some t) (in_taking q (u ∷ later))) other
added_by t u later q false other ih = ap (cond (u.id == q) (Some u)) ih

-- one flow more leaves the others
added_other : (t : TakingFlow) (q : ℕ) → (t.id == q) ≡ false → (ts : List TakingFlow) → in_taking q (added t ts) ≡ in_taking q ts
added_other t q other [] = ap (λ (b : Bool). cond b (Some t) None) other
added_other t q other (u ∷ later) = added_by t u later q (nat_lt t.id u.id) other (added_other t q other later)

-- ---- data

made_other : (s : FlowsState) (user : UserParts) (q : ℕ) (o : Option TakingFlow) → (user.flow == q) ≡ false → taking_at (made_by s user o) q ≡ taking_at s q
made_other s user q None other = added_other (new_taking user.flow (fresh (order_of (metadata_of user)))) q other s.taking
made_other s user q (Some t) other = refl

taken_other : (s : FlowsState) (user : UserParts) (q : ℕ) → (user.flow == q) ≡ false → taking_at (data_taken s user) q ≡ taking_at s q
taken_other s user q other =
    changed_other (taken_of user) (λ t. refl) user.flow q other (made s user).taking ∙ made_other s user q (taking_at s user.flow) other

run_other : (s : FlowsState) (id q : ℕ) (o : Option Run) → (id == q) ≡ false → taking_at (handed_run s id o).flows q ≡ taking_at s q
run_other s id q None other = refl
run_other s id q (Some y) other = changed_other (with_receiver handed_next) (λ t. refl) id q other s.taking

once_other : (s : FlowsState) (id q : ℕ) (o : Option TakingFlow) → (id == q) ≡ false → taking_at (hands_by s id o).flows q ≡ taking_at s q
once_other s id q None other = refl
once_other s id q (Some t) other = run_other s id q (next_run t.receiver) other

hands_other : (count id q : ℕ) (s : FlowsState) → (id == q) ≡ false → taking_at (hands count id s).flows q ≡ taking_at s q
hands_other zero id q s other = refl
hands_other (suc count) id q s other = hands_other count id q (hands_once s id).flows other ∙ once_other s id q (taking_at s id) other

data_ready : (s : FlowsState) (user : UserParts) → NoneReady s → NoneReady (data_done s user).flows
data_ready s user none q = by (user.flow == q) refl
  where
    u : FlowsState
    u = data_taken s user

    by : (b : Bool) → (user.flow == q) ≡ b → none_ready_by (taking_at (data_done s user).flows q) ≡ None
    by true is = subst (λ (n : ℕ). none_ready_by (taking_at (hands_all u user.flow).flows n) ≡ None) (eqb-true user.flow q is) (nothing_left_ready u user.flow)
    by false is = ap none_ready_by (hands_other (most_by (taking_at u user.flow)) user.flow q u is ∙ taken_other s user q is) ∙ none q

-- ---- what changes no receiving flow

same_ready : (s t : FlowsState) → t.taking ≡ s.taking → NoneReady s → NoneReady t
same_ready s t same none q = ap (ready_in q) same ∙ none q

heard_same : (s : FlowsState) (id : ℕ) (a : Told) (o : Option Flow) → (heard_by s id a o).taking ≡ s.taking
heard_same s id a None = refl
heard_same s id a (Some f) = refl

rejected_same : (s : FlowsState) (id : ℕ) (o : Option Flow) → (rejecting_by s id o).flows.taking ≡ s.taking
rejected_same s id None = refl
rejected_same s id (Some f) = refl

abandoned_same : (s : FlowsState) (flow seq : ℕ) (o : Option Flow) → (abandoning_by s flow seq o).flows.taking ≡ s.taking
abandoned_same s flow seq None = refl
abandoned_same s flow seq (Some f) = refl

queued_same : (s : FlowsState) (c : FlowCall) → (flow_did s c).flows.taking ≡ s.taking
queued_same s (OpenFlow priority metadata answers) = refl
queued_same s (Queue flow message options) = by (sending_at s flow)
  where
    by : (o : Option Flow) → (queueing_by s flow message options o).flows.taking ≡ s.taking
    by None = refl
    by (Some f) = refl
queued_same s (Abandon flow seq) = abandoned_same s flow seq (sending_at s flow)
queued_same s (Finish flow) = by (sending_at s flow)
  where
    by : (o : Option Flow) → (finishing_by s flow o).flows.taking ≡ s.taking
    by None = refl
    by (Some f) = refl

chunk_ready : (s : FlowsState) (c : DataChunk) → NoneReady s → NoneReady (chunk_done s c).flows
chunk_ready s (Data user) none = data_ready s user none
chunk_ready s (Next user) none = data_ready s user none
chunk_ready s (AckBitmap flow blocks upto bits) none =
    let a : Told = told blocks upto (numbers_acked (AckBitmap flow blocks upto bits)) in
    same_ready s (heard s flow a) (heard_same s flow a (sending_at s flow)) none
chunk_ready s (AckRanges flow blocks upto pairs) none =
    let a : Told = told blocks upto (numbers_acked (AckRanges flow blocks upto pairs)) in
    same_ready s (heard s flow a) (heard_same s flow a (sending_at s flow)) none
chunk_ready s (Probe flow) none = λ q. changed_same owing (λ t. refl) (λ t. refl) flow q s.taking ∙ none q
chunk_ready s (Exception flow code) none = same_ready s (rejecting s flow).flows (rejected_same s flow (sending_at s flow)) none

-- ---- acks

acks_same : (ts : List TakingFlow) (packet : List ℕ) (q : ℕ) → ready_in q (acks_put ts packet).taking ≡ ready_in q ts
acks_same [] packet q = refl
acks_same (t ∷ later) packet q = by t.owed (is_full_for t packet) (acks_put later _) (acks_put later packet) (acks_same later _ q) (acks_same later packet q)
  where
    by : (owed full : Bool) (more same : Acked) → ready_in q more.taking ≡ ready_in q later → ready_in q same.taking ≡ ready_in q later →
        ready_in q (cond owed (cond full (record { taking = t ∷ later; packet = packet }) (with_front (paid t) more)) (with_front t same)).taking ≡ ready_in q (t ∷ later)
    by true true more same a b = refl
    by true false more same a b = put_same q t (paid t) later more.taking refl refl a
    by false full more same a b = put_same q t t later same.taking refl refl b

paid_same : (ts : List TakingFlow) (q : ℕ) → ready_in q (map paid ts) ≡ ready_in q ts
paid_same [] q = refl
paid_same (t ∷ later) q = put_same q t (paid t) later (map paid later) refl refl (paid_same later q)

late_same : (b : Bool) (s : FlowsState) (sending : List Flow) → (cond b (with_sending s sending) s).taking ≡ s.taking
late_same true s sending = refl
late_same false s sending = refl

-- ---- all that is done

none_is_kept : IsKept NoneReady
none_is_kept = record {
  none = λ q. refl;
  called = λ f c may none. same_ready f (flow_did f c).flows (queued_same f c) none;
  chunk = λ session f c fits may none. chunk_ready f c none;
  acked = λ f packet none q. acks_same f.taking packet q ∙ none q;
  unowed = λ f none q. paid_same f.taking q ∙ none q;
  late = λ session f moment none. same_ready f (after_late session f moment) (late_same (is_held session.stage) f _) none;
  overdue = λ f flow seq none. same_ready f (abandoning f flow seq).flows (abandoned_same f flow seq (sending_at f flow)) none;
  sent = λ pace f packet none. none;
}

pub all_handed : EveryMessageIsHandedOver
all_handed setup log s near row stands there = flows_in_every_log NoneReady none_is_kept setup log s stands near row there
