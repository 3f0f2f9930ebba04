-- What the chunks of flows do, and the acks after them: they state no fact, the session in the row is changed to one like it, and what goes out is acks.
use Rattle.std.proofs.Common.{◌≡◌, ℕ, ◌+◌, List, [], map, Bool, true, false, Option, Some, None, Result, Ok, Err, refl, inl}
use Rattle.std.specs.FinMap.{get}
use Rattle.rtmfp_data_chunks.specs.declared.view.DataFault.{DataFault}
use Rattle.rtmfp_data_chunks.specs.Chunk.{DataChunk, Data, Next, AckBitmap, AckRanges, Probe, Exception}
use Rattle.rtmfp_data_chunks.specs.Acked.{acked as numbers_acked}
use Rattle.flow_send.specs.Acks.{Told, told, new_bytes, makes_lost}
use Rattle.flow_send.specs.Flow.{Flow}
use Rattle.session_core.specs.Session.{SessionState}
use Rattle.session_core.specs.Closing.{with_acknowledged}
use Rattle.session_flows.specs.Keeping.{FlowsState, sending_at}
use Rattle.session_flows.specs.Chunks.{lost_if, opened_by, chunk_done, session_after}
use Rattle.session_flows.specs.Owing.{after_acks, owing_none}
use Rattle.endpoint_model.specs.declared.row.Row.{Row}
use Rattle.endpoint_model.specs.declared.entry.Entry.{Entry}
use Rattle.endpoint_model.specs.Event.{Setup, Call}
use Rattle.endpoint_model.specs.State.{State, nothing}
use Rattle.endpoint_model.specs.Sending.{packet_head}
use Rattle.endpoint_model.specs.OnFlows.{flow_entry, with_flows}
use Rattle.endpoint_model.specs.FlowChunks.{flow_taken_by, flow_taken, acks_body, acked_by, unowed_by}
use Rattle.endpoint_laws.specs.Contexts.{Secrets}
use Rattle.endpoint_laws.specs.Past.{Past}
use Rattle.endpoint_laws.proofs.Unseen.{flows_unseen}
use Rattle.endpoint_laws.proofs.Tied.{Tied}
use Rattle.endpoint_laws.proofs.Going.{Goes, Keeps, goes_nothing}
use Rattle.endpoint_laws.proofs.InSessions.{goes_and_home}
use Rattle.endpoint_laws.proofs.OutSends.{Sent, Meets, meets_nothing}
use Rattle.endpoint_laws.proofs.OutSessions.{and_home}
use Rattle.endpoint_laws.proofs.OutAcks.{acks_are_modest}
use Rattle.endpoint_laws.proofs.OnFlows.{IsLike, like_itself, goes_unseen, meets_unseen}

-- ---- what a chunk leaves of its session: only the window of its flows changes

like_lost : (moment bytes : ℕ) (session : SessionState) (lost : Bool) → IsLike moment session (lost_if lost (with_acknowledged bytes session))
like_lost moment bytes session true = record {
  alike = record { joined = refl; own = refl; generation = refl; inward = refl; outward = refl; role = refl; held = refl; thing = λ e. refl; stage = λ f. f; since = λ e. inl refl };
  descends = record { same = refl; opening = λ e. (e, refl) };
  sealed = refl;
}
like_lost moment bytes session false = record {
  alike = record { joined = refl; own = refl; generation = refl; inward = refl; outward = refl; role = refl; held = refl; thing = λ e. refl; stage = λ f. f; since = λ e. inl refl };
  descends = record { same = refl; opening = λ e. (e, refl) };
  sealed = refl;
}

like_opened : (moment : ℕ) (session : SessionState) (a : Told) (o : Option Flow) → IsLike moment session (opened_by session a o)
like_opened moment session a None = like_itself moment session
like_opened moment session a (Some f) = like_lost moment (new_bytes a (f.sender.forward + 1) f.sender.rows) session (makes_lost a f.sender)

pub like_after : (moment : ℕ) (session : SessionState) (flows : FlowsState) (chunk : DataChunk) → IsLike moment session (session_after session flows chunk)
like_after moment session flows (Data user) = like_itself moment session
like_after moment session flows (Next user) = like_itself moment session
like_after moment session flows (AckBitmap flow blocks upto bits) = like_opened moment session (told blocks upto (numbers_acked (AckBitmap flow blocks upto bits))) (sending_at flows flow)
like_after moment session flows (AckRanges flow blocks upto pairs) = like_opened moment session (told blocks upto (numbers_acked (AckRanges flow blocks upto pairs))) (sending_at flows flow)
like_after moment session flows (Probe flow) = like_itself moment session
like_after moment session flows (Exception flow code) = like_itself moment session

-- ---- a chunk of flows

module _ (s : State) (near : ℕ) (chunk : DataChunk) where
  -- the row that it leaves, and what it adds
  abbrev left : Row → Row
  left row = record row { session = session_after row.session row.flows chunk; flows = (chunk_done row.flows chunk).flows }

  abbrev added : Row → List Entry
  added row = map (flow_entry near) (chunk_done row.flows chunk).stated

  goes_by : (secrets : Secrets) (setup : Setup) (call : Call) (o : Option Row) → get s.sessions near ≡ o → Keeps secrets setup call s (flow_taken_by s near chunk o)
  goes_by secrets setup call None is = goes_nothing secrets setup call s
  goes_by secrets setup call (Some row) is = goes_unseen s near row (left row) is (like_after s.moment row.session row.flows chunk) (added row) (flows_unseen near (chunk_done row.flows chunk).stated) secrets setup call

  meets_by : (secrets : Secrets) (setup : Setup) (call : Call) (past : Past) → Sent secrets setup past s → (o : Option Row) → get s.sessions near ≡ o → Meets secrets setup s.moment call past (flow_taken_by s near chunk o)
  meets_by secrets setup call past sent None is = meets_nothing secrets setup s.moment call past s sent
  meets_by secrets setup call past sent (Some row) is =
      meets_unseen s near row (left row) is (like_after s.moment row.session row.flows chunk) (added row) (flows_unseen near (chunk_done row.flows chunk).stated) secrets setup call past sent

pub goes_flow_taken : (secrets : Secrets) (setup : Setup) (call : Call) (s : State) (near : ℕ) (read : Result DataChunk DataFault) → Keeps secrets setup call s (flow_taken s near read)
goes_flow_taken secrets setup call s near (Ok chunk) = goes_by s near chunk secrets setup call (get s.sessions near) refl
goes_flow_taken secrets setup call s near (Err fault) = goes_nothing secrets setup call s

pub meets_flow_taken : (secrets : Secrets) (setup : Setup) (call : Call) (past : Past) (s : State) → Sent secrets setup past s → (near : ℕ) (read : Result DataChunk DataFault) → Meets secrets setup s.moment call past (flow_taken s near read)
meets_flow_taken secrets setup call past s sent near (Ok chunk) = meets_by s near chunk secrets setup call past sent (get s.sessions near) refl
meets_flow_taken secrets setup call past s sent near (Err fault) = meets_nothing secrets setup s.moment call past s sent

-- ---- a packet of acks, and acks that aren't sent any more

module _ (s : State) (near : ℕ) where
  -- the row once they are paid, or owed no more
  abbrev with_these : Row → FlowsState → Row
  with_these row flows = record row { flows = flows }

  abbrev paid_flows : Row → FlowsState
  paid_flows row = after_acks row.flows (packet_head row.session s.moment)

  module _ (secrets : Secrets) (setup : Setup) (call : Call) (past : Past) (tied : Tied secrets setup past s) where
    goes_these : (row : Row) (flows : FlowsState) → get s.sessions near ≡ Some row → Goes secrets setup call past s (nothing (with_flows s near row flows))
    goes_these row flows is = goes_unseen s near row (with_these row flows) is (like_itself s.moment row.session) [] tt secrets setup call past tied

    meets_these : Sent secrets setup past s → (row : Row) (flows : FlowsState) → get s.sessions near ≡ Some row → Meets secrets setup s.moment call past (nothing (with_flows s near row flows))
    meets_these sent row flows is = meets_unseen s near row (with_these row flows) is (like_itself s.moment row.session) [] tt secrets setup call past sent

    pub goes_acked_by : (o : Option Row) → get s.sessions near ≡ o → Goes secrets setup call past s (acked_by s near o)
    goes_acked_by None is = goes_nothing secrets setup call s past tied
    goes_acked_by (Some row) is = goes_and_home secrets setup call s near (acks_body row s.moment) past (nothing (with_flows s near row (paid_flows row))) (goes_these row (paid_flows row) is)

    pub meets_acked_by : Sent secrets setup past s → (o : Option Row) → get s.sessions near ≡ o → Meets secrets setup s.moment call past (acked_by s near o)
    meets_acked_by sent None is = meets_nothing secrets setup s.moment call past s sent
    meets_acked_by sent (Some row) is =
        and_home secrets setup call past s near (nothing (with_flows s near row (paid_flows row))) (goes_these row (paid_flows row) is) (meets_these sent row (paid_flows row) is) (acks_body row s.moment) (acks_are_modest row s.moment)

    pub goes_unowed_by : (o : Option Row) → get s.sessions near ≡ o → Goes secrets setup call past s (nothing (unowed_by s near o))
    goes_unowed_by None is = goes_nothing secrets setup call s past tied
    goes_unowed_by (Some row) is = goes_these row (owing_none row.flows) is

    pub meets_unowed_by : Sent secrets setup past s → (o : Option Row) → get s.sessions near ≡ o → Meets secrets setup s.moment call past (nothing (unowed_by s near o))
    meets_unowed_by sent None is = meets_nothing secrets setup s.moment call past s sent
    meets_unowed_by sent (Some row) is = meets_these sent row (owing_none row.flows) is
