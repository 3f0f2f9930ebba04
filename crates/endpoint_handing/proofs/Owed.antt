-- What is to be shown of all that an end does with flows, thing by thing.
use Rattle.std.proofs.Common.{◌≡◌, ℕ, List, length, Bool, true, Some, None}
use Rattle.std.specs.FinMap.{get}
use Rattle.rtmfp_data_chunks.specs.HandsOver.{IsIn}
use Rattle.rtmfp_data_chunks.specs.Chunk.{DataChunk}
use Rattle.glare_core.specs.declared.facts.Fact.{Fact}
use Rattle.session_flows.specs.Told.{begins_with_a}
use Rattle.session_flows.specs.Owing.{owes}
use Rattle.session_flows.specs.Timing.{overdue_in, overdue_done}
use Rattle.endpoint_model.specs.declared.row.Row.{Row}
use Rattle.endpoint_model.specs.State.{State, nothing}
use Rattle.endpoint_model.specs.FlowCall.{FlowCall, OpenFlow}
use Rattle.endpoint_model.specs.InSessions.{held_row}
use Rattle.endpoint_model.specs.OnFlows.{flows_done, call_refusal, flow_called}
use Rattle.endpoint_model.specs.FlowChunks.{taking_cause, flow_taken_by, acked_by, unowed_by}
use Rattle.endpoint_model.specs.FlowTimes.{late_at, data_sent}
use Rattle.flow_history.specs.Deeds.{back, name, Piece, History}
use Rattle.flow_history.specs.Lawful.{CameIn}
use Rattle.rtmfp_data_chunks.specs.Fitting.{FitsIn}
use Rattle.session_deeds.specs.Pieces.{pieces_in}
use Rattle.endpoint_handing.proofs.Kept.{End, away, Stands, Hands, Does}

-- A flow that is opened has the order that is asked of it.
abbrev pub OpensAsAsked : End → State → ℕ → FlowCall → Type 0
OpensAsAsked e s near (OpenFlow priority metadata answers) =
    (row : Row) → held_row s near ≡ Some row → (b : Bool) →
    e.orders b (name (away row.session) (length row.flows.sending)) → begins_with_a metadata ≡ b
OpensAsAsked e s near call = Unit {0}

-- The pieces of a chunk came in the context towards this session.
abbrev pub HasCome : End → Row → DataChunk → History → Type 0
HasCome e row chunk h = (x : Piece) → IsIn x (pieces_in chunk) →
    CameIn e.who (back (away row.session)) x h

pub record FlowsHand (e : End) : Type 0 where
  pub called : (facts : List Fact) (s : State) (near : ℕ) (call : FlowCall) →
      call_refusal s near call ≡ None → OpensAsAsked e s near call →
      Does e facts s (flow_called s near call)
  pub taken : (facts : List Fact) (s : State) (near : ℕ) (row : Row) →
      get s.sessions near ≡ Some row → (chunk : DataChunk) → taking_cause (Some row) chunk ≡ None →
      FitsIn chunk → (h : History) → Stands e facts s h → HasCome e row chunk h →
      Hands e facts (flow_taken_by s near chunk (Some row)) h
  pub acks : (facts : List Fact) (s : State) (near : ℕ) (row : Row) →
      get s.sessions near ≡ Some row → owes row.flows ≡ true →
      Does e facts s (acked_by s near (Some row))
  pub unowed : (facts : List Fact) (s : State) (near : ℕ) (row : Row) →
      get s.sessions near ≡ Some row → Does e facts s (nothing (unowed_by s near (Some row)))
  pub late : (facts : List Fact) (s : State) (near : ℕ) (row : Row) →
      get s.sessions near ≡ Some row → Does e facts s (nothing (late_at s near (Some row)))
  pub abandoned : (facts : List Fact) (s : State) (near : ℕ) (row : Row) →
      get s.sessions near ≡ Some row → (flow seq : ℕ) →
      overdue_in row.session row.flows s.moment ≡ Some (flow, seq) →
      Does e facts s (flows_done s near row (overdue_done row.flows (Some (flow, seq))))
  pub sent : (facts : List Fact) (s : State) (near : ℕ) (row : Row) →
      get s.sessions near ≡ Some row → Does e facts s (data_sent s near row)
