-- What a chunk of flows does in its session, by the single steps of which it is made.
use Rattle.std.specs.Prelude.{slice_get, slice_set, IfSome, MatchOption, ◌==◌, ◌||◌}
use Rattle.rtmfp_forms.specs.Address.{AddressParts}
use Rattle.rtmfp_packet.specs.Walk.{Placed}
use Rattle.rtmfp_data_chunks.specs.declared.view.DataFault.{DataFault}
use Rattle.rtmfp_data_chunks.specs.Reader.{data_reading}
use Rattle.rtmfp_base.specs.declared.cause.Cause.{Cause}
use Rattle.end_chunks.specs.declared.flows.Untaken.{Untaken}
use Rattle.end_chunks.specs.declared.flows.Untaken.TheVariants.{Cause as Discarded, Memory as NoMemory}
use Rattle.endpoint_model.specs.declared.config.Draws.{Draws}
use Rattle.endpoint_model.specs.declared.place.Place.{Place}
use Rattle.endpoint_model.specs.declared.walk.Walk.{Walk}
use Rattle.endpoint_model.specs.Admission.{sid_at}
use Rattle.endpoint_model.specs.Causes.{chunk_cause}
use Rattle.endpoint_model.specs.Effects.{IsQuiet, chunk_did, discarded, discarded_or, discards_for, effect, is_idle, is_idle_after, walked}
use Rattle.endpoint_model.proofs.FlowChunks.{flows_cause, flows_effect, none_behind}
use Rattle.std.proofs.Common.{ℕ, zero, suc, inl, inr, ◌≡◌, ◌≤◌, ◌+◌, ◌++◌, List, [], ◌∷◌, length, map, Option, Some, None, Result, Ok, Err, OnOk, IfErr, IsOk, IsSome, Bool, true, false, if◌then◌else◌, ◌<◌, refl, sym, ap, ◌∙◌, subst, arith, append_assoc, length-append}
use Rattle.std.proofs.lemmas.List.{append-nil, length-map, map-append}
use Rattle.std.specs.FinMap.{get, insert}
use Rattle.rtmfp_base.proofs.Maps.{get_inserted, insert_twice}
use Rattle.end_state.proofs.InSession.{insert_found}
use Rattle.rtmfp_data_chunks.specs.Chunk.{DataChunk, UserParts, Data, Next, AckBitmap, AckRanges, Probe, Exception}
use Rattle.rtmfp_data_chunks.specs.Acked.{acked}
use Rattle.flow_send.specs.declared.waiting.Waiting.{Waiting}
use Rattle.flow_send.specs.Sender.{Sender, finish_by}
use Rattle.flow_send.specs.Flow.{Flow, with_sender}
use Rattle.flow_send.specs.Acks.{told}
use Rattle.session_flows.specs.Keeping.{FlowsState, Stated, Abandoned, Did as FlowsDid, sending_at, with_flow, with_sending}
use Rattle.session_flows.specs.Chunks.{data_taken, data_done, most_ready, rejecting_by, all_abandoned, without_messages, numbers_of, finished_at, last_by}
use Rattle.session_flows.specs.Handing.{hands, hands_once}
use Rattle.session_flows.specs.Judged.{IsJudged}
use Rattle.session_flows.specs.declared.judged.JudgedData.{JudgedData}
use Rattle.session_flows.proofs.Enough.{done_enough, nothing_more}
use Rattle.session_table.specs.Chunks.{handed_in, rejected_in}
use Rattle.endpoint_model.specs.declared.row.Row.{Row}
use Rattle.endpoint_model.specs.Added.{Added}
use Rattle.endpoint_model.specs.State.{State, Did, Done, nothing, after_entries, then_do, with_sessions, Sessions}
use Rattle.endpoint_model.specs.declared.entry.Entry.{Entry}
use Rattle.endpoint_model.specs.OnFlows.{flow_entry, flows_done, with_flows}
use Rattle.endpoint_model.specs.FlowChunks.{flow_taken, flow_taken_by, is_of_flows, states_nothing}
use Rattle.endpoint_model.proofs.Steps.{done_nothing, joined}
use Rattle.end_chunks.specs.FlowChunks.{ack_heard, probe_heard, rejected, data_kept, handed_by, handed_once_by, read_cause_at}

-- ---- acks, buffer probes and exceptions

module _ (s : State) (near : ℕ) where
  pub bitmap_is : (flow blocks upto : ℕ) (bits : List ℕ) (o : Option Row) →
      flow_taken_by s near (AckBitmap flow blocks upto bits) o ≡ nothing (ack_heard s near flow (told blocks upto (acked (AckBitmap flow blocks upto bits))) o)
  bitmap_is flow blocks upto bits None = refl
  bitmap_is flow blocks upto bits (Some row) = refl

  pub ranges_is : (flow blocks upto : ℕ) (pairs : List ℕ) (o : Option Row) →
      flow_taken_by s near (AckRanges flow blocks upto pairs) o ≡ nothing (ack_heard s near flow (told blocks upto (acked (AckRanges flow blocks upto pairs))) o)
  ranges_is flow blocks upto pairs None = refl
  ranges_is flow blocks upto pairs (Some row) = refl

  pub probe_is : (flow : ℕ) (o : Option Row) → flow_taken_by s near (Probe flow) o ≡ nothing (probe_heard s near flow o)
  probe_is flow None = refl
  probe_is flow (Some row) = refl

  pub exception_is : (flow code : ℕ) (o : Option Row) → flow_taken_by s near (Exception flow code) o ≡ rejected s near flow o
  exception_is flow code None = refl
  exception_is flow code (Some row) = refl

  pub next_is : (user : UserParts) (o : Option Row) → flow_taken_by s near (Data user) o ≡ flow_taken_by s near (Next user) o
  next_is user None = refl
  next_is user (Some row) = refl

-- ---- data

handed_as : (s : State) (near most : ℕ) (user : UserParts) (row : Row) → most_ready row.flows user.flow ≤ most →
    handed_by (with_flows s near row (data_taken row.flows user)) near user.flow most (Some (record row { flows = data_taken row.flows user })) ≡ flow_taken_by s near (Data user) (Some row)
handed_as s near most user row few =
    let kept : Row = record row { flows = data_taken row.flows user } in
    let last : FlowsDid → Did = λ d. record { state = with_sessions s (insert (insert s.sessions near kept) near (record row { flows = d.flows })); entries = map (flow_entry near) d.stated } in
    ap last (done_enough most row.flows user few)
    ∙ ap (λ (m : Sessions). record { state = with_sessions s m; entries = map (flow_entry near) (data_done row.flows user).stated }) (insert_twice s.sessions near kept (record row { flows = (data_done row.flows user).flows }))

pub data_is : (s t u : State) (near most : ℕ) (user : UserParts) (row : Row) (before after : Added) → get s.sessions near ≡ Some row → most ≡ most_ready row.flows user.flow →
    t ≡ data_kept s near user (get s.sessions near) → Done (handed_by t near user.flow most (get t.sessions near)) u before after → Done (flow_taken_by s near (Data user) (get s.sessions near)) u before after
data_is s t u near most user row before after found most_is kept done =
    let now : State = with_flows s near row (data_taken row.flows user) in
    let at : t ≡ now = kept ∙ ap (data_kept s near user) found in
    let got : get t.sessions near ≡ Some (record row { flows = data_taken row.flows user }) = ap (λ (x : State). get x.sessions near) at ∙ get_inserted s.sessions near (record row { flows = data_taken row.flows user }) in
    let same : handed_by t near user.flow most (get t.sessions near) ≡ flow_taken_by s near (Data user) (get s.sessions near) =
    (λ i. handed_by (at i) near user.flow most (got i)) ∙ handed_as s near most user row (omega (arith, most_is)) ∙ sym (ap (flow_taken_by s near (Data user)) found) in
    subst (λ (d : Did). Done d u before after) same done

-- ---- messages that are handed over, one after another

map_more : {A B : Type 0} (f : A → B) (xs ys : List A) → map f (xs ++ ys) ≡ map f xs ++ map f ys
map_more f [] ys = refl
map_more f (x ∷ xs) ys = ap (λ zs. f x ∷ zs) (map_more f xs ys)

module _ (near flow : ℕ) where
  -- one, and then so many
  one_and_more : (count : ℕ) (s : State) (o : Option Row) → get s.sessions near ≡ o →
      handed_by s near flow (suc count) o ≡ then_do (handed_once_by s near flow o) (λ t. handed_by t near flow count (get t.sessions near))
  one_and_more count s None found = sym (ap (λ (x : Option Row). after_entries [] (handed_by s near flow count x)) found)
  one_and_more count s (Some row) found =
      let first : FlowsDid = hands_once row.flows flow in
      let others : FlowsDid = hands count flow first.flows in
      let between : Row = record row { flows = first.flows } in
      let last : Row = record row { flows = others.flows } in
      let did : List Entry → Sessions → Did = λ entries m. record { state = with_sessions s m; entries = entries } in
      ap (λ (es : List Entry). did es (insert s.sessions near last)) (map_more (flow_entry near) first.stated others.stated)
      ∙ ap (did (map (flow_entry near) first.stated ++ map (flow_entry near) others.stated)) (sym (insert_twice s.sessions near between last))
      ∙ ap (λ (x : Option Row). after_entries (map (flow_entry near) first.stated) (handed_by (with_flows s near row first.flows) near flow count x)) (sym (get_inserted s.sessions near between))

  pub hand_more : (count : ℕ) (s t u : State) (before between after : Added) → Done (handed_once_by s near flow (get s.sessions near)) t before between →
      Done (handed_by t near flow count (get t.sessions near)) u between after → Done (handed_by s near flow (suc count) (get s.sessions near)) u before after
  hand_more count s t u before between after once more =
      subst (λ (d : Did). Done d u before after) (sym (one_and_more count s (get s.sessions near) refl))
      (joined (handed_once_by s near flow (get s.sessions near)) (λ x. handed_by x near flow count (get x.sessions near)) t u before between after once more)

  -- where none is ready, none of so many is
  hand_none : (count : ℕ) (s : State) (o : Option Row) → handed_in flow o ≡ [] → handed_once_by s near flow o ≡ handed_by s near flow count o
  hand_none count s None none = refl
  hand_none count s (Some row) none =
      ap (flows_done s near row) (once_is (hands_once row.flows flow) ∙ nothing_more 1 flow row.flows none ∙ sym (nothing_more count flow row.flows none))
    where
      once_is : (d : FlowsDid) → d ≡ record { flows = d.flows; stated = d.stated ++ [] }
      once_is d = ap (λ (xs : List Stated). record { flows = d.flows; stated = xs }) (sym (append-nil d.stated))

  pub hand_no_more : (count : ℕ) (s t : State) (before after : Added) → handed_in flow (get s.sessions near) ≡ [] → Done (handed_once_by s near flow (get s.sessions near)) t before after →
      Done (handed_by s near flow count (get s.sessions near)) t before after
  hand_no_more count s t before after none once = subst (λ (d : Did). Done d t before after) (hand_none count s (get s.sessions near) none) once

-- the entry of the next message is added
pub handed_one : (near flow : ℕ) (s t : State) (entry : Entry) (before after : Added) → t ≡ (handed_once_by s near flow (get s.sessions near)).state →
    (handed_once_by s near flow (get s.sessions near)).entries ≡ entry ∷ [] → after.entries ≡ before.entries ++ entry ∷ [] → before.free ≤ after.free + 1 → after.room ≡ before.room →
    Done (handed_once_by s near flow (get s.sessions near)) t before after
handed_one near flow s t entry before after state one entries free room = record {
  state = state;
  entries = entries ∙ ap (λ (xs : List Entry). before.entries ++ xs) (sym one);
  free = subst (λ (xs : List Entry). before.free ≤ after.free + length xs) (sym one) free;
  room = room;
}

-- none is added
pub handed_none : (near flow : ℕ) (s t : State) (out : Added) → t ≡ (handed_once_by s near flow (get s.sessions near)).state →
    (handed_once_by s near flow (get s.sessions near)).entries ≡ [] → Done (handed_once_by s near flow (get s.sessions near)) t out out
handed_none near flow s t out state none = record {
  state = state;
  entries = sym (append-nil out.entries) ∙ ap (λ (xs : List Entry). out.entries ++ xs) (sym none);
  free = omega arith;
  room = refl;
}

-- and so many that are none
pub hand_zero : (near flow count : ℕ) (s : State) (out : Added) → count ≡ 0 → Done (handed_by s near flow count (get s.sessions near)) s out out
hand_zero near flow count s out none = subst (λ (n : ℕ). Done (handed_by s near flow n (get s.sessions near)) s out out) (sym none) (by (get s.sessions near) refl)
  where
    by : (o : Option Row) → get s.sessions near ≡ o → Done (handed_by s near flow 0 o) s out out
    by None found = done_nothing s out
    by (Some row) found = subst (λ (m : Sessions). Done (record { state = with_sessions s m; entries = [] }) s out out) (sym (insert_found s.sessions near row found)) (done_nothing s out)

-- ---- an exception that states nothing

set_same : (fs : List Flow) (i : ℕ) (f : Flow) → slice_get fs i ≡ Some f → slice_set fs i f ≡ fs
set_same [] i f e = refl
set_same (x ∷ xs) zero f e = let is : f ≡ x = cc in ap (λ (y : Flow). y ∷ xs) is
set_same (x ∷ xs) (suc i) f e = ap (λ (ys : List Flow). x ∷ ys) (set_same xs i f e)

module _ (s : FlowsState) (id : ℕ) where
  none_waits : (waiting : List Waiting) (f : Flow) (finish : Option ℕ) (rest : List Stated) → map (Abandoned id) (numbers_of waiting) ++ rest ≡ [] → all_abandoned waiting f.sender ≡ f.sender
  none_waits [] f finish rest e = refl
  none_waits (w ∷ ws) f finish rest e = absurd (cc)

  was_finished : (left t : Sender) (finish : Option ℕ) (front : List Stated) → front ++ finished_at id (last_by t finish) ≡ [] → finish_by left finish ≡ left
  was_finished left t (Some n) front e = refl
  was_finished left t None [] e = absurd (cc)
  was_finished left t None (x ∷ xs) e = absurd (cc)

  rejects_nothing : (o : Option Flow) → sending_at s id ≡ o → (rejecting_by s id o).stated ≡ [] → rejecting_by s id o ≡ record { flows = s; stated = [] }
  rejects_nothing None found e = refl
  rejects_nothing (Some f) found e =
      let left : finish_by (without_messages f.sender) f.sender.finish ≡ f.sender =
      was_finished (without_messages f.sender) (without_messages f.sender) f.sender.finish _ e ∙ none_waits f.sender.waiting f f.sender.finish _ e in
      let as_is : with_flow s id (with_sender f (finish_by (without_messages f.sender) f.sender.finish)) ≡ s =
      ap (λ (x : Sender). with_flow s id (with_sender f x)) left ∙ ap (with_sending s) (set_same s.sending id f found) in
      (λ i. record { flows = as_is i; stated = e i })

pub rejected_nothing : (s : State) (near flow : ℕ) (o : Option Row) → get s.sessions near ≡ o → rejected_in flow o ≡ [] → rejected s near flow o ≡ nothing s
rejected_nothing s near flow None found none = refl
rejected_nothing s near flow (Some row) found none =
    ap (flows_done s near row) (rejects_nothing row.flows flow (sending_at row.flows flow) refl none)
    ∙ ap (λ (m : Sessions). record { state = with_sessions s m; entries = [] }) (insert_found s.sessions near row found)

-- ---- data, by what is kept under the session ID

pub most_judged : (o : Option Row) (judged : JudgedData) (user : UserParts) → IfSome o (λ row. IsJudged judged row.flows user) → IfSome o (λ row. judged.most ≡ most_ready row.flows user.flow)
most_judged None judged user h = tt
most_judged (Some row) judged user h = h.most

pub data_by : (s t u : State) (near most : ℕ) (user : UserParts) (before after : Added) → IfSome (get s.sessions near) (λ row. most ≡ most_ready row.flows user.flow) →
    t ≡ data_kept s near user (get s.sessions near) → Done (handed_by t near user.flow most (get t.sessions near)) u before after → Done (flow_taken_by s near (Data user) (get s.sessions near)) u before after
data_by s t u near most user before after found kept done = by (get s.sessions near) refl found
  where
    by : (o : Option Row) → get s.sessions near ≡ o → IfSome o (λ row. most ≡ most_ready row.flows user.flow) → Done (flow_taken_by s near (Data user) (get s.sessions near)) u before after
    by None is few =
        let at : t ≡ s = kept ∙ ap (data_kept s near user) is in
        let none : get t.sessions near ≡ None = ap (λ (x : State). get x.sessions near) at ∙ is in
        let same : handed_by t near user.flow most (get t.sessions near) ≡ flow_taken_by s near (Data user) (get s.sessions near) =
        (λ i. handed_by (at i) near user.flow most (none i)) ∙ sym (ap (flow_taken_by s near (Data user)) is) in
        subst (λ (d : Did). Done d u before after) same done
    by (Some row) is few = data_is s t u near most user row before after is few kept done

-- ---- a chunk of flows that adds nothing

none_is : (o : Option Cause) → o ≡ None → IsSome o → ⊥
none_is None e some = absurd (cc)
none_is (Some cause) e some = absurd (cc)

module _ (s : State) (place : Place) (walk : Walk) (from : AddressParts) (draws : Draws) (c : Placed) (read : Result DataChunk DataFault) (is : read ≡ data_reading walk.cursor c.kind c.payload) (kind : is_of_flows c.kind ≡ true) where
  cause_as : chunk_cause s place walk from c ≡ read_cause_at s place read
  cause_as = flows_cause s walk from draws c place kind ∙ sym (ap (read_cause_at s place) is)

  states_of : is_idle_after s place walk from c ≡ true → states_nothing (get s.sessions (sid_at place)) read ≡ true
  states_of e = ap (states_nothing (get s.sessions (sid_at place))) is
      ∙ ap (λ (b : Bool). if b then states_nothing (get s.sessions (sid_at place)) (data_reading walk.cursor c.kind c.payload) else is_idle s place from c) (sym kind) ∙ e

-- the walk behind a chunk that is none of flows
pub gone_on : (walk new : Walk) (c : Placed) → is_of_flows c.kind ≡ false → new.keyed ≡ (walk.keyed || (c.kind == 0x38)) → new.gathered ≡ walk.gathered → new.cursor ≡ None → new ≡ walked walk c
gone_on walk new c kind keyed gathered cursor = λ i. record { keyed = keyed i; gathered = gathered i; cursor = (cursor ∙ sym (none_behind walk.cursor c.kind c.payload kind)) i }

no_length : {A : Type 0} (xs : List A) → length xs ≡ 0 → xs ≡ []
no_length [] e = refl
no_length (x ∷ xs) e = absurd (omega (arith, e))

pub reject_done : (s : State) (near flow : ℕ) (out : Added) → length (rejected_in flow (get s.sessions near)) ≡ 0 → Done (rejected s near flow (get s.sessions near)) s out out
reject_done s near flow out none =
    subst (λ (d : Did). Done d s out out) (sym (rejected_nothing s near flow (get s.sessions near) refl (no_length (rejected_in flow (get s.sessions near)) none))) (done_nothing s out)

-- what an exception states is told: the messages that it abandons, and then the end of the flow
pub rejected_done : (s t : State) (near flow : ℕ) (numbers : List ℕ) (last : Option ℕ) (before between after : Added) → t ≡ (rejected s near flow (get s.sessions near)).state →
    rejected_in flow (get s.sessions near) ≡ map (Abandoned flow) numbers ++ finished_at flow last → between.entries ≡ before.entries ++ map (flow_entry near) (map (Abandoned flow) numbers) →
    after.entries ≡ between.entries ++ map (flow_entry near) (finished_at flow last) → before.free ≤ after.free + (length numbers + length (finished_at flow last)) → after.room ≡ before.room →
    Done (rejected s near flow (get s.sessions near)) t before after
rejected_done s t near flow numbers last before between after state stated first second free room =
    let told : List Stated = map (Abandoned flow) numbers ++ finished_at flow last in
    let entries : (rejected s near flow (get s.sessions near)).entries ≡ map (flow_entry near) told = of (get s.sessions near) ∙ ap (λ (xs : List Stated). map (flow_entry near) xs) stated in
    let count : length (rejected s near flow (get s.sessions near)).entries ≡ length numbers + length (finished_at flow last) =
    ap (λ (xs : List Entry). length xs) entries ∙ length-map told (flow_entry near) ∙ length-append (map (Abandoned flow) numbers) (finished_at flow last)
    ∙ ap (λ (n : ℕ). n + length (finished_at flow last)) (length-map numbers (Abandoned flow)) in
    record {
      state = state;
      entries =
          second ∙ ap (λ (xs : List Entry). xs ++ map (flow_entry near) (finished_at flow last)) first
          ∙ append_assoc before.entries (map (flow_entry near) (map (Abandoned flow) numbers)) (map (flow_entry near) (finished_at flow last))
          ∙ ap (λ (xs : List Entry). before.entries ++ xs) (sym (entries ∙ map-append (flow_entry near) (map (Abandoned flow) numbers) (finished_at flow last)));
      free = omega (arith, free, count);
      room = room;
    }
  where
    of : (o : Option Row) → (rejected s near flow o).entries ≡ map (flow_entry near) (rejected_in flow o)
    of None = refl
    of (Some row) = refl

-- ---- why a chunk of flows isn't taken

abbrev pub IsTold : Option Cause → Result (Unit {0}) Untaken → Type 0
IsTold o r = MatchOption o (IfErr r (λ e. e ≡ NoMemory)) (λ c. r ≡ Err (Discarded c))

told_cause_is : (o : Option Cause) (r : Result (Unit {0}) Untaken) (cause : Cause) → r ≡ Err (Discarded cause) → IsTold o r → o ≡ Some cause
told_cause_is None r cause is m = let clash : Discarded cause ≡ NoMemory = subst (λ (q : Result (Unit {0}) Untaken). IfErr q (λ e. e ≡ NoMemory)) is m in absurd (cc)
told_cause_is (Some x) r cause is m = let both : ◌≡◌ {A = Result (Unit {0}) Untaken} (Err (Discarded x)) (Err (Discarded cause)) = sym m ∙ is in cc

no_cause_is : (o : Option Cause) (r : Result (Unit {0}) Untaken) → r ≡ Err NoMemory → IsTold o r → o ≡ None
no_cause_is None r is m = refl
no_cause_is (Some x) r is m = let both : ◌≡◌ {A = Result (Unit {0}) Untaken} (Err (Discarded x)) (Err NoMemory) = sym m ∙ is in absurd (cc)

none_if_taken : (o : Option Cause) (r : Result (Unit {0}) Untaken) → IsOk r → IsTold o r → o ≡ None
none_if_taken None r is m = refl
none_if_taken (Some x) r is m = let clash : false ≡ true = subst IsOk m is in absurd (cc)

-- a chunk is discarded once nothing was done
pub discard_after : {A E : Type 0} (r : Result A E) (s t u : State) (at : ℕ) (cause : Cause) (d : Did) (before between after : Added) → d ≡ discarded s at cause → Done (nothing s) t before between →
    OnOk r (Done (discarded t at cause) u between after) → OnOk r (Done d u before after)
discard_after (Ok x) s t u at cause d before between after is still done = subst (λ (x : Did). Done x u before after) (sym is) (joined (nothing s) (λ x. discarded x at cause) t u before between after still done)
discard_after (Err x) s t u at cause d before between after is still done = tt

-- ---- a chunk of flows that was read, as the end takes it

module _ (s : State) (place : Place) (walk : Walk) (from : AddressParts) (draws : Draws) (c : Placed) (read : Result DataChunk DataFault) (is : read ≡ data_reading walk.cursor c.kind c.payload) (kind : is_of_flows c.kind ≡ true) (r : Result (Unit {0}) Untaken) (told : IsTold (read_cause_at s place read) r) where
  cause_of : (o : Option Cause) → read_cause_at s place read ≡ o → chunk_did place from draws walk s c ≡ discarded_or s c.at o (effect s place walk from draws c)
  cause_of o e = ap (λ (x : Option Cause). discarded_or s c.at x (effect s place walk from draws c)) (cause_as s place walk from draws c read is kind ∙ e)

  pub read_taken : (t : State) (before after : Added) → IsOk r → Done (flow_taken s (sid_at place) read) t before after → Done (chunk_did place from draws walk s c) t before after
  read_taken t before after ok done =
      let same : chunk_did place from draws walk s c ≡ flow_taken s (sid_at place) read =
      cause_of None (none_if_taken (read_cause_at s place read) r ok told) ∙ flows_effect s walk from draws c place kind ∙ ap (flow_taken s (sid_at place)) (sym is) in
      subst (λ (d : Did). Done d t before after) (sym same) done

  pub read_discarded : {A E : Type 0} (q : Result A E) (cause : Cause) (t u : State) (before between after : Added) → r ≡ Err (Discarded cause) → Done (nothing s) t before between →
      OnOk q (Done (discarded t c.at cause) u between after) → OnOk q (Done (chunk_did place from draws walk s c) u before after)
  read_discarded q cause t u before between after e still done =
      discard_after q s t u c.at cause (chunk_did place from draws walk s c) before between after (cause_of (Some cause) (told_cause_is (read_cause_at s place read) r cause e told)) still done

  -- its discard wants no more than its room
  pub room_to_discard : (P : Type 0) (cause : Cause) (t : State) (before between : Added) → r ≡ Err (Discarded cause) → Done (nothing s) t before between → IsQuiet s place walk from c →
      discards_for (chunk_cause s place walk from c) ≤ before.free → (0 < between.free → P) → P
  room_to_discard P cause t before between e still quiet room enough =
      let cause_is : chunk_cause s place walk from c ≡ Some cause = cause_as s place walk from draws c read is kind ∙ told_cause_is (read_cause_at s place read) r cause e told in
      enough (omega (arith, room, still.free, ap discards_for cause_is))

  -- one that adds nothing wants no memory
  pub not_for_memory : (P : Type 0) → r ≡ Err NoMemory → IsQuiet s place walk from c → (states_nothing (get s.sessions (sid_at place)) read ≡ true → IfErr r (λ e. IsSome (read_cause_at s place read))) → P
  not_for_memory P e quiet told_only =
      let none : read_cause_at s place read ≡ None = no_cause_is (read_cause_at s place read) r e told in
      idle none quiet
    where
      idle : read_cause_at s place read ≡ None → IsQuiet s place walk from c → P
      idle none (inl some) = absurd (none_is (chunk_cause s place walk from c) (cause_as s place walk from draws c read is kind ∙ none) some)
      idle none (inr quiet) =
          absurd (none_is (read_cause_at s place read) none
          (subst (λ (q : Result (Unit {0}) Untaken). IfErr q (λ x. IsSome (read_cause_at s place read))) e (told_only (states_of s place walk from draws c read is kind quiet))))
