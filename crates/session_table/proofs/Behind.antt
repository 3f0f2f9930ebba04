-- A packet of flow data begins with the session's head.
use Prim.Native.Nat.{zero, suc}
use Rattle.std.proofs.Common.{ℕ, ◌≡◌, ◌<◌, ◌≤◌, ◌++◌, List, [], length, drop, true, Option, Some, None, append_assoc, refl, sym, ap, ◌∙◌, subst, arith}
use Rattle.std.proofs.lemmas.List.{append-nil}
use Rattle.rtmfp_data_chunks.specs.Runs.{Chunk}
use Rattle.rtmfp_data_chunks.specs.Writing.{data_bytes}
use Rattle.flow_send.specs.declared.outcome.NoChunk.{NoChunk}
use Rattle.flow_send.specs.Choice.{chunk_for}
use Rattle.flow_send.specs.Flow.{Flow, user_data, chunk_options}
use Rattle.session_core.specs.Session.{head_at}
use Rattle.session_flows.specs.declared.pace.Pace.{Pace}
use Rattle.session_flows.specs.Keeping.{FlowsState, with_sending}
use Rattle.session_flows.specs.Packing.{Packing, packing, packed, packed_by, put_back, packed_of, packed_once, packs, packs_on, filled, first_to_send, session_flight, refused_of, chosen, is_first, as_chunk, pace_of, is_data_due, left_to_send}
use Rattle.session_flows.specs.Waiting.{waiting_in}
use Rattle.endpoint_model.proofs.Parts.{past_front}
use Rattle.endpoint_model.specs.declared.row.Row.{Row}
use Rattle.endpoint_model.specs.Sending.{packet_head, session_packet}
use Rattle.endpoint_model.specs.FlowTimes.{data_body, data_packed}
use Rattle.session_table.specs.FlowTimes.{DataFalls}
use Rattle.session_table.proofs.SealedParts.{head_at_most}

abbrev Begins : List ℕ → List ℕ → Type 0
Begins front whole = (rest : List ℕ) × (whole ≡ front ++ rest)

some_packing : {p q : Packing} → ◌≡◌ {A = Option Packing} (Some p) (Some q) → p ≡ q
some_packing e = cc

flow_begins : (pace : Pace) (p q : Packing) (f : Flow) (x : Option NoChunk) (c : Option Chunk) → put_back p.sending (packed_by pace (packed f p.packet p.marks) x c) ≡ Some q → Begins p.packet q.packet
flow_begins pace p q f (Some refused) c e = absurd cc
flow_begins pace p q f None None e = absurd cc
flow_begins pace p q f None (Some c) e =
    subst (λ (y : Packing). (rest : List ℕ) × (y.packet ≡ p.packet ++ rest)) (some_packing e) (data_bytes (as_chunk p.marks.before (user_data f.id (chunk_options f (is_first p.marks f.id)) c)), refl)

once_begins : (pace : Pace) (p q : Packing) (o : Option Flow) → packed_of pace p o ≡ Some q → Begins p.packet q.packet
once_begins pace p q None e = absurd cc
once_begins pace p q (Some f) e = flow_begins pace p q f (refused_of pace (session_flight p.sending) (packed f p.packet p.marks)) (chunk_for f.sender (chosen pace f)) e

begins_twice : (a b c : List ℕ) → Begins a b → Begins b c → Begins a c
begins_twice a b c first then_ = (first.0 ++ then_.0, then_.1 ∙ ap (λ (x : List ℕ). x ++ then_.0) first.1 ∙ append_assoc a first.0 then_.0)

begins_itself : (a : List ℕ) → Begins a a
begins_itself a = ([], sym (append-nil a))

begins_on : (p : Packing) (later : Packing → Packing) (o : Option Packing) → ((q : Packing) → o ≡ Some q → Begins p.packet q.packet) → ((q : Packing) → Begins q.packet (later q).packet) →
    Begins p.packet (packs_on later p o).packet
begins_on p later None one more = begins_itself p.packet
begins_on p later (Some q) one more = begins_twice p.packet q.packet (later q).packet (one q refl) (more q)

packs_begin : (pace : Pace) (count : ℕ) (p : Packing) → Begins p.packet (packs pace count p).packet
unfolding packs
packs_begin pace zero p = begins_itself p.packet
packs_begin pace (suc count) p = begins_on p (packs pace count) (packed_once pace p) (λ q e. once_begins pace p q (first_to_send pace p.sending) e) (λ q. packs_begin pace count q)

front_and_rest : (front whole : List ℕ) → Begins front whole → front ++ drop (length front) whole ≡ whole
front_and_rest front whole begins =
    ap (λ (x : List ℕ). front ++ drop (length front) x) begins.1 ∙ ap (λ (x : List ℕ). front ++ x) (past_front (length front) front begins.0 refl) ∙ sym begins.1

-- the packet is the head with what is behind it
pub behind_head : (row : Row) (moment : ℕ) → session_packet row.session moment (data_body row moment) ≡ (data_packed row moment).packet
behind_head row moment =
    front_and_rest (packet_head row.session moment) (data_packed row moment).packet
    (packs_begin (pace_of row.session moment) 1165 (packing row.flows.sending (packet_head row.session moment)))

-- ---- as it is filled and sealed

module _ (row : Row) (moment : ℕ) (begun packed_now : List ℕ) (begun_is : begun ≡ packet_head row.session moment) where
  pub packet_behind : packed_now ≡ (filled (pace_of row.session moment) row.flows.sending begun).packet → packed_now ≡ session_packet row.session moment (data_body row moment)
  packet_behind is =
      let whole : packed_now ≡ (data_packed row moment).packet = is ∙ ap (λ (x : List ℕ). (filled (pace_of row.session moment) row.flows.sending x).packet) begun_is in
      whole ∙ sym (behind_head row moment)

  pub flows_behind : (new : FlowsState) → new ≡ with_sending row.flows (filled (pace_of row.session moment) row.flows.sending begun).sending → new ≡ with_sending row.flows (data_packed row moment).sending
  flows_behind new is = is ∙ ap (λ (x : List ℕ). with_sending row.flows (filled (pace_of row.session moment) row.flows.sending x).sending) begun_is

  pub falls_behind : (new : FlowsState) → new ≡ with_sending row.flows (filled (pace_of row.session moment) row.flows.sending begun).sending →
      (is_data_due row.session row.flows moment ≡ true → length begun ≤ 51 → left_to_send (pace_of row.session moment) new.sending < left_to_send (pace_of row.session moment) row.flows.sending) →
      waiting_in new.sending ≡ waiting_in row.flows.sending → DataFalls moment row
  falls_behind new is falls waits =
      let short : length begun ≤ 51 = omega (arith, ap length begun_is, head_at_most (head_at row.session moment)) in
      let same : new.sending ≡ (data_packed row moment).sending = ap (λ (x : FlowsState). x.sending) (flows_behind new is) in
      record {
        less = λ due. subst (λ (fs : List Flow). left_to_send (pace_of row.session moment) fs < left_to_send (pace_of row.session moment) row.flows.sending) same (falls due short);
        waits = sym (ap (λ (fs : List Flow). waiting_in fs) same) ∙ waits;
      }
