use Rattle.std.proofs.Common.{◌≤◌, ◌+◌, ◌-◌}
use Rattle.std.specs.FinMap.{get}
use Rattle.rtmfp_data_chunks.specs.Chunk.{Data, user_parts}
use Rattle.endpoint_model.specs.Added.{Added}
use Rattle.endpoint_model.specs.FlowChunks.{flow_taken_by}
use Rattle.endpoint_model.specs.State.{State, Done}
use Rattle.end_chunks.specs.FlowChunks.{handed_by}
use Rattle.end_chunks.proofs.flows.take_data.Given as goal

abbrev pub invariant-loop : goal.invariant-loop
invariant-loop l = record {
  rest : (u : State) (after : Added) → Done (handed_by l.end l.near l.user.flow (l.most - l.counter) (get l.end.sessions l.near)) u l.out after →
      Done (flow_taken_by l.fn.end l.near (Data (user_parts l.user)) (get l.fn.end.sessions l.near)) u l.fn.out after;
  room : l.most ≤ l.out.free + l.counter;
}
