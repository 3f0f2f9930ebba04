-- All that an end does with flows, thing by thing.
use Rattle.std.proofs.Common.{arith, ◌≡◌, ℕ, zero, suc, List, [], ◌∷◌, ◌++◌, map, length, Bool, true}
use Rattle.std.proofs.Common.{false, if◌then◌else◌}
use Rattle.std.proofs.Common.{Option, Some, None, inl, inr, refl, sym, ap, subst, ◌∙◌}
use Rattle.std.specs.Prelude.{slice_get, slice_set}
use Rattle.std.specs.Option.{option_map}
use Rattle.std.specs.FinMap.{get}
use Rattle.rtmfp_data_chunks.specs.Chunk.{UserParts, DataChunk, Data, Next, AckBitmap, AckRanges}
use Rattle.rtmfp_data_chunks.specs.Chunk.{Probe, Exception}
use Rattle.rtmfp_data_chunks.specs.Acked.{acked}
use Rattle.rtmfp_data_chunks.specs.Runs.{Run}
use Rattle.flow_recv.specs.Receiver.{next_run}
use Rattle.flow_send.specs.Flow.{Flow}
use Rattle.flow_send.specs.Acks.{Told, told, makes_lost}
use Rattle.glare_core.specs.declared.facts.Fact.{Fact}
use Rattle.session_core.specs.Closing.{is_held, with_loss, with_acknowledged}
use Rattle.session_core.specs.Trips.{resend_time}
use Rattle.session_flows.specs.declared.pace.Pace.{Pace}
use Rattle.session_flows.specs.declared.taking.TakingFlow.{TakingFlow}
use Rattle.session_flows.specs.Told.{begins_with_a}
use Rattle.session_flows.specs.Keeping.{FlowsState, sending_at, taking_at, with_sending}
use Rattle.session_flows.specs.Keeping.{Did as FlowsDid, nothing as nothing_done}
use Rattle.session_flows.specs.Calling.{new_flow, opening, queueing_by, queueing, abandoning_by}
use Rattle.session_flows.specs.Calling.{abandoning, finishing_by, finishing}
use Rattle.session_flows.specs.Handing.{handed_run, hands_by, hands_once, hands, most_by}
use Rattle.session_flows.specs.Chunks.{made_by, data_taken, data_done, heard_by, lost_if, opened_by}
use Rattle.session_flows.specs.Chunks.{rejecting_by, chunk_done, session_after}
use Rattle.session_flows.specs.Owing.{after_acks, acks_put, owing_none}
use Rattle.session_flows.specs.Timing.{is_any_late, losing, after_late, overdue_in, overdue_done}
use Rattle.session_flows.specs.Packing.{Packed, Packing, packing, flow_packed, put_back, packed_of}
use Rattle.session_flows.specs.Packing.{packs_on, packs, packed, session_flight, first_to_send}
use Rattle.session_flows.specs.Packing.{pace_of, filled}
use Rattle.endpoint_model.specs.declared.row.Row.{Row}
use Rattle.endpoint_model.specs.State.{State, nothing}
use Rattle.endpoint_model.specs.Sending.{packet_head}
use Rattle.endpoint_model.specs.FlowCall.{FlowCall, OpenFlow, Queue, Abandon, Finish, flow_refusal}
use Rattle.endpoint_model.specs.FlowCall.{flow_did}
use Rattle.endpoint_model.specs.InSessions.{held_row}
use Rattle.endpoint_model.specs.OnFlows.{flows_done, call_refusal_by, flow_called_by}
use Rattle.endpoint_model.specs.FlowChunks.{taking_cause, flow_taken_by, acked_by}
use Rattle.endpoint_model.specs.FlowChunks.{unowed_by}
use Rattle.endpoint_model.specs.FlowTimes.{late_marked, late_at, data_sent}
use Rattle.flow_history.specs.Flow.{Opened}
use Rattle.flow_history.specs.Deeds.{Context, Name, name, History}
use Rattle.flow_history.specs.Keeping.{Flows}
use Rattle.flow_history.proofs.Keeps.{tested}
use Rattle.session_deeds.specs.Shows.{opened_of, Shows}
use Rattle.session_deeds.specs.Deeds.{Deed}
use Rattle.session_deeds.specs.Goes.{IsDoneBy, Goes}
use Rattle.rtmfp_data_chunks.specs.Fitting.{FitsIn}
use Rattle.session_deeds.specs.Pieces.{pieces_in}
use Rattle.session_deeds.proofs.Lists.{push_there, push_other}
use Rattle.session_deeds.proofs.Calls.{opening_goes, queueing_goes, abandoning_goes, finishing_goes}
use Rattle.session_deeds.proofs.Chunks.{chunk_goes}
use Rattle.session_deeds.proofs.Timing.{losing_goes, overdue_goes}
use Rattle.session_deeds.proofs.Hearing.{forgetting_goes}
use Rattle.session_deeds.proofs.Packing.{filling_goes}
use Rattle.session_deeds.proofs.Acking.{acking_goes}
use Rattle.endpoint_handing.proofs.Kept.{End, away, RowKept, Stands, Hands, Does}
use Rattle.endpoint_laws.proofs.Made.{held_is_there}
use Rattle.endpoint_handing.proofs.Owed.{OpensAsAsked, HasCome, FlowsHand}
use Rattle.endpoint_handing.proofs.Running.{AllOpenAs, open_as}
use Rattle.endpoint_handing.proofs.OfFlows.{OpensNone, IsOfIt, its_flows, none_came, went}
use Rattle.endpoint_handing.proofs.OfFlows.{hands_goes, does_goes, does_put}

-- ---- no flow is there that wasn't

set_none : (fs : List Flow) (i j : ℕ) (g : Flow) → slice_get fs j ≡ None → slice_get (slice_set fs i g) j ≡ None
set_none [] i j g e = e
set_none (x ∷ xs) zero zero g e = absurd cc
set_none (x ∷ xs) zero (suc j) g e = e
set_none (x ∷ xs) (suc i) zero g e = absurd cc
set_none (x ∷ xs) (suc i) (suc j) g e = set_none xs i j g e

map_none : (f : Flow → Flow) (fs : List Flow) (j : ℕ) → slice_get fs j ≡ None → slice_get (map f fs) j ≡ None
map_none f [] j e = e
map_none f (x ∷ xs) zero e = absurd cc
map_none f (x ∷ xs) (suc j) e = map_none f xs j e

same_none : (s t : FlowsState) → t.sending ≡ s.sending → OpensNone s t
same_none s t same f none = ap (λ (fs : List Flow). slice_get fs f) same ∙ none

queued_none : (s : FlowsState) (id : ℕ) (bytes : List ℕ) (options : _) (o : Option Flow) → OpensNone s (queueing_by s id bytes options o).flows
queued_none s id bytes options None f none = none
queued_none s id bytes options (Some x) f none = set_none s.sending id f _ none

abandoned_none : (s : FlowsState) (id seq : ℕ) (o : Option Flow) → OpensNone s (abandoning_by s id seq o).flows
abandoned_none s id seq None f none = none
abandoned_none s id seq (Some x) f none = set_none s.sending id f _ none

finished_none : (s : FlowsState) (id : ℕ) (o : Option Flow) → OpensNone s (finishing_by s id o).flows
finished_none s id None f none = none
finished_none s id (Some x) f none = set_none s.sending id f _ none

heard_none : (s : FlowsState) (id : ℕ) (a : Told) (o : Option Flow) → OpensNone s (heard_by s id a o)
heard_none s id a None f none = none
heard_none s id a (Some x) f none = set_none s.sending id f _ none

rejected_none : (s : FlowsState) (id : ℕ) (o : Option Flow) → OpensNone s (rejecting_by s id o).flows
rejected_none s id None f none = none
rejected_none s id (Some x) f none = set_none s.sending id f _ none

handed_same : (s : FlowsState) (id : ℕ) (o : Option Run) → (handed_run s id o).flows.sending ≡ s.sending
handed_same s id None = refl
handed_same s id (Some y) = refl

hands_same : (s : FlowsState) (id : ℕ) (o : Option TakingFlow) → (hands_by s id o).flows.sending ≡ s.sending
hands_same s id None = refl
hands_same s id (Some t) = handed_same s id (next_run t.receiver)

all_handed_same : (count id : ℕ) (s : FlowsState) → (hands count id s).flows.sending ≡ s.sending
all_handed_same zero id s = refl
all_handed_same (suc count) id s = all_handed_same count id (hands_once s id).flows ∙ hands_same s id (taking_at s id)

made_same : (s : FlowsState) (user : UserParts) (o : Option TakingFlow) → (made_by s user o).sending ≡ s.sending
made_same s user None = refl
made_same s user (Some t) = refl

data_same : (s : FlowsState) (user : UserParts) → (data_done s user).flows.sending ≡ s.sending
data_same s user = all_handed_same (most_by (taking_at (data_taken s user) user.flow)) user.flow (data_taken s user) ∙ made_same s user (taking_at s user.flow)

chunk_none : (s : FlowsState) (chunk : DataChunk) → OpensNone s (chunk_done s chunk).flows
chunk_none s (Data user) = same_none s (data_done s user).flows (data_same s user)
chunk_none s (Next user) = same_none s (data_done s user).flows (data_same s user)
chunk_none s (AckBitmap flow blocks upto bits) = heard_none s flow _ (sending_at s flow)
chunk_none s (AckRanges flow blocks upto pairs) = heard_none s flow _ (sending_at s flow)
chunk_none s (Probe flow) = λ f none. none
chunk_none s (Exception flow code) = rejected_none s flow (sending_at s flow)

late_none : (b : Bool) (s : FlowsState) (f : Flow → Flow) → OpensNone s (if b then with_sending s (map f s.sending) else s)
late_none true s f = λ j none. map_none f s.sending j none
late_none false s f = λ j none. none

overdue_none : (s : FlowsState) (o : Option (ℕ × ℕ)) → OpensNone s (overdue_done s o).flows
overdue_none s None = λ f none. none
overdue_none s (Some found) = abandoned_none s found.0 found.1 (sending_at s found.0)

-- packing puts flows back where they were
abbrev StaysNone : List Flow → List Flow → Type 0
StaysNone xs ys = (f : ℕ) → slice_get xs f ≡ None → slice_get ys f ≡ None

back_none : (sending : List Flow) (later : Packing → Packing) (p : Packing) → p.sending ≡ sending → ((q : Packing) → StaysNone q.sending (later q).sending) → (o : Option Packed) → StaysNone sending (packs_on later p (put_back sending o)).sending
back_none sending later p same stays None f none = ap (λ (fs : List Flow). slice_get fs f) same ∙ none
back_none sending later p same stays (Some x) f none = stays _ f (set_none sending x.flow.id f x.flow none)

once_none : (pace : Pace) (later : Packing → Packing) (p : Packing) → ((q : Packing) → StaysNone q.sending (later q).sending) → (o : Option Flow) → StaysNone p.sending (packs_on later p (packed_of pace p o)).sending
once_none pace later p stays None f none = none
once_none pace later p stays (Some x) f none = back_none p.sending later p refl stays (flow_packed pace (session_flight p.sending) (packed x p.packet p.marks)) f none

packs_none : (pace : Pace) (count : ℕ) (p : Packing) → StaysNone p.sending (packs pace count p).sending
unfolding packs
packs_none pace zero p f none = none
packs_none pace (suc count) p f none = once_none pace (packs pace count) p (packs_none pace count) (first_to_send pace p.sending) f none

-- ---- a flow that is opened has the order of its metadata

module _ (c : Context) (s : FlowsState) (metadata : List ℕ) (answers : Option ℕ) (priority : ℕ) where
  abbrev made_flow : Flow
  made_flow = new_flow s metadata answers priority

  opened_here : (k : Opened) → option_map opened_of (sending_at (opening s metadata answers priority).flows (length s.sending)) ≡ Some k → k.arriving ≡ begins_with_a metadata
  opened_here k e =
      let is : Some (opened_of made_flow) ≡ Some k = ap (λ (o : Option Flow). option_map opened_of o) (sym (push_there s.sending made_flow)) ∙ e in
      let same : opened_of made_flow ≡ k = cc in
      ap (λ (x : Opened). x.arriving) (sym same)

  opened_elsewhere : (f : ℕ) (k : Opened) → (length s.sending ≡ f → ⊥) → sending_at s f ≡ None → option_map opened_of (sending_at (opening s metadata answers priority).flows f) ≡ Some k → ⊥
  opened_elsewhere f k ne none e =
      let gone : slice_get (s.sending ++ made_flow ∷ []) f ≡ None = push_other s.sending f made_flow ne ∙ none in
      let clash : None ≡ Some k = ap (λ (o : Option Flow). option_map opened_of o) (sym gone) ∙ e in
      cc

  unmapped : (o : Option Flow) → option_map opened_of o ≡ None → o ≡ None
  unmapped None e = refl
  unmapped (Some f) e = absurd cc

  open_asked : (came : _) (fl : Flows) (deeds : List Deed) → Shows s fl → IsDoneBy came fl (opening s metadata answers priority) deeds → (b : Bool) (n : Name) → (name c (length s.sending) ≡ n → begins_with_a metadata ≡ b) → AllOpenAs b n c deeds
  open_asked came fl deeds shows done b n asked = open_as b n c came deeds fl done.may (λ f k unopened opened is. elim (tested (length s.sending) f) [
    | inl same ↦ opened_here k (ap (λ (g : ℕ). option_map opened_of (sending_at (opening s metadata answers priority).flows g)) same.0 ∙ sym (done.shows.opened f) ∙ opened)
        ∙ asked (ap (λ (g : ℕ). name c g) same.0 ∙ is)
    | inr other ↦ absurd (opened_elsewhere f k other.0 (unmapped (sending_at s f) (sym (shows.opened f) ∙ unopened)) (sym (done.shows.opened f) ∙ opened))
  ])

-- ---- the session of a row that is changed

module _ (e : End) (facts : List Fact) (s : State) (near : ℕ) (row : Row) (there : get s.sessions near ≡ Some row) where
  of_late : (b : Bool) (flows : FlowsState) → IsOfIt e facts s near row there (record row { session = if b then with_loss true row.session else row.session; flows = flows })
  of_late true flows = record { joined = refl; own = refl; role = refl; generation = refl; inward = refl; outward = refl; gathering = refl; packets = omega arith }
  of_late false flows = record { joined = refl; own = refl; role = refl; generation = refl; inward = refl; outward = refl; gathering = refl; packets = omega arith }

  of_lost : (b : Bool) (bytes : ℕ) (flows : FlowsState) → IsOfIt e facts s near row there (record row { session = lost_if b (with_acknowledged bytes row.session); flows = flows })
  of_lost true bytes flows = record { joined = refl; own = refl; role = refl; generation = refl; inward = refl; outward = refl; gathering = refl; packets = omega arith }
  of_lost false bytes flows = record { joined = refl; own = refl; role = refl; generation = refl; inward = refl; outward = refl; gathering = refl; packets = omega arith }

  of_heard : (a : Told) (o : Option Flow) (flows : FlowsState) → IsOfIt e facts s near row there (record row { session = opened_by row.session a o; flows = flows })
  of_heard a None flows = record { joined = refl; own = refl; role = refl; generation = refl; inward = refl; outward = refl; gathering = refl; packets = omega arith }
  of_heard a (Some f) flows = of_lost (makes_lost a f.sender) _ flows

  of_chunk : (chunk : DataChunk) (flows : FlowsState) → IsOfIt e facts s near row there (record row { session = session_after row.session row.flows chunk; flows = flows })
  of_chunk (Data user) flows = its_flows e facts s near row there flows
  of_chunk (Next user) flows = its_flows e facts s near row there flows
  of_chunk (AckBitmap flow blocks upto bits) flows = of_heard (told blocks upto (acked (AckBitmap flow blocks upto bits))) (sending_at row.flows flow) flows
  of_chunk (AckRanges flow blocks upto pairs) flows = of_heard (told blocks upto (acked (AckRanges flow blocks upto pairs))) (sending_at row.flows flow) flows
  of_chunk (Probe flow) flows = its_flows e facts s near row there flows
  of_chunk (Exception flow code) flows = its_flows e facts s near row there flows

  -- ---- calls

  called_goes : (d : FlowsDid) → Goes [] row.flows d → OpensNone row.flows d.flows → Does e facts s (flows_done s near row d)
  called_goes d goes none = does_goes e facts s near row there (record row { flows = d.flows }) (its_flows e facts s near row there d.flows) d refl goes none

  opened_does : (metadata : List ℕ) (answers : Option ℕ) (priority : ℕ) → flow_refusal row.flows (OpenFlow priority metadata answers) ≡ None →
      ((b : Bool) → e.orders b (name (away row.session) (length row.flows.sending)) → begins_with_a metadata ≡ b) → Does e facts s (flows_done s near row (opening row.flows metadata answers priority))
  opened_does metadata answers priority free asked h stands fresh =
      let c : Context = away row.session in
      let d : FlowsDid = opening row.flows metadata answers priority in
      let kept : RowKept e facts near row h = stands.state.rows near row there in
      let found = opening_goes [] row.flows metadata answers priority free kept.flows.kept kept.flows.shows in
      (went e facts s near row there (record row { flows = d.flows }) (its_flows e facts s near row there d.flows) [] d refl h stands (none_came e facts s near row there h) found.0 found.1
      (λ b n order. open_asked c row.flows metadata answers priority [] kept.flows.kept found.0 kept.flows.shows found.1 b n (λ is. asked b (subst (λ (m : Name). e.orders b m) (sym is) order)))).hands

  row_called : (call : FlowCall) → flow_refusal row.flows call ≡ None → held_row s near ≡ Some row → OpensAsAsked e s near call → Does e facts s (flows_done s near row (flow_did row.flows call))
  row_called (OpenFlow priority metadata answers) free held asked = opened_does metadata answers priority free (λ b order. asked row held b order)
  row_called (Queue flow message options) free held asked = called_goes (queueing row.flows flow message options) (queueing_goes [] row.flows flow message options free) (queued_none row.flows flow message options (sending_at row.flows flow))
  row_called (Abandon flow seq) free held asked = called_goes (abandoning row.flows flow seq) (abandoning_goes [] row.flows flow seq free) (abandoned_none row.flows flow seq (sending_at row.flows flow))
  row_called (Finish flow) free held asked = called_goes (finishing row.flows flow) (finishing_goes [] row.flows flow free) (finished_none row.flows flow (sending_at row.flows flow))

  -- ---- chunks

  row_taken : (chunk : DataChunk) → taking_cause (Some row) chunk ≡ None → FitsIn chunk → (h : History) → Stands e facts s h → HasCome e row chunk h → Hands e facts (flow_taken_by s near chunk (Some row)) h
  row_taken chunk none fits h stands come =
      let d : FlowsDid = chunk_done row.flows chunk in
      hands_goes e facts s near row there (record row { session = session_after row.session row.flows chunk; flows = d.flows }) (of_chunk chunk d.flows) (pieces_in chunk) d refl h stands come
      (chunk_goes (pieces_in chunk) row.session row.flows chunk fits none (λ p among. among)) (chunk_none row.flows chunk)

  -- ---- acks and flow data

  row_acked : Does e facts s (acked_by s near (Some row))
  row_acked =
      let front : List ℕ = packet_head row.session s.moment in
      does_put e facts s near row there (after_acks row.flows front) front (acks_put row.flows.taking front).packet (λ fl shows. acking_goes [] row.flows front fl shows) (λ f none. none)

  row_unowed : Does e facts s (nothing (unowed_by s near (Some row)))
  row_unowed = called_goes (nothing_done (owing_none row.flows)) (forgetting_goes [] row.flows) (λ f none. none)

  row_sent : Does e facts s (data_sent s near row)
  row_sent =
      let front : List ℕ = packet_head row.session s.moment in
      let pace : Pace = pace_of row.session s.moment in
      does_put e facts s near row there (with_sending row.flows (filled pace row.flows.sending front).sending) front (filled pace row.flows.sending front).packet (λ fl shows. filling_goes [] pace row.flows front fl shows)
      (packs_none pace 1165 (packing row.flows.sending front))

  -- ---- time

  row_late : Does e facts s (nothing (late_at s near (Some row)))
  row_late =
      let flows : FlowsState = after_late row.session row.flows s.moment in
      does_goes e facts s near row there (late_marked s.moment row) (of_late (is_any_late row.session row.flows s.moment) flows) (nothing_done flows) refl (losing_goes [] row.session row.flows s.moment)
      (late_none (is_held row.session.stage) row.flows (losing s.moment (resend_time row.session.trip)))

  row_abandoned : (flow seq : ℕ) → overdue_in row.session row.flows s.moment ≡ Some (flow, seq) → Does e facts s (flows_done s near row (overdue_done row.flows (Some (flow, seq))))
  row_abandoned flow seq is =
      called_goes (overdue_done row.flows (Some (flow, seq))) (subst (λ (o : Option (ℕ × ℕ)). Goes [] row.flows (overdue_done row.flows o)) is (overdue_goes [] row.session row.flows s.moment)) (overdue_none row.flows (Some (flow, seq)))

-- ---- all of it

module _ (e : End) where
  called_by : (facts : List Fact) (s : State) (near : ℕ) (call : FlowCall) (o : Option Row) → held_row s near ≡ o → call_refusal_by call o ≡ None → OpensAsAsked e s near call → Does e facts s (flow_called_by s near call o)
  called_by facts s near call None held free asked = absurd cc
  called_by facts s near call (Some row) held free asked = row_called e facts s near row (held_is_there (get s.sessions near) row held) call free held asked

  pub all_flows_hand : FlowsHand e
  all_flows_hand = record {
    called = λ facts s near call free asked. called_by facts s near call (held_row s near) refl free asked;
    taken = λ facts s near row there chunk none fits h stands come. row_taken e facts s near row there chunk none fits h stands come;
    acks = λ facts s near row there owed. row_acked e facts s near row there;
    unowed = λ facts s near row there. row_unowed e facts s near row there;
    late = λ facts s near row there. row_late e facts s near row there;
    abandoned = λ facts s near row there flow seq is. row_abandoned e facts s near row there flow seq is;
    sent = λ facts s near row there. row_sent e facts s near row there;
  }
