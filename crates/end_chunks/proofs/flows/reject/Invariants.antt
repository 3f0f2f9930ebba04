use Rattle.std.proofs.Common.{◌≡◌, ◌≤◌, ◌+◌, ◌++◌, length, map, take}
use Rattle.session_flows.specs.Keeping.{Abandoned}
use Rattle.session_flows.specs.Chunks.{finished_at}
use Rattle.endpoint_model.specs.OnFlows.{flow_entry}
use Rattle.end_chunks.proofs.flows.reject.Given as goal

abbrev pub invariant-loop-index : goal.invariant-loop-index
invariant-loop-index l = record {
  entries : l.out.entries ≡ l.fn.out.entries ++ map (flow_entry l.near) (map (Abandoned l.flow) (take l.index l.numbers));
  free : l.fn.out.free ≤ l.out.free + l.index;
  space : length l.numbers + length (finished_at l.flow l.last) ≤ l.out.free + l.index;
  room : l.out.room ≡ l.fn.out.room;
}
