use Rattle.std.proofs.Common.{◌≡◌, ◌<◌, true}
use Rattle.std.specs.FinMap.{get}
use Rattle.endpoint_model.specs.State.{Done}
use Rattle.endpoint_model.specs.FlowChunks.{acked_in, owes_by}
use Rattle.end_loops.proofs.walking.send_acks.Given as goal

abbrev pub invariant-loop : goal.invariant-loop
invariant-loop l = record {
  so_far : Done (acked_in l.counter l.fn.end l.near) l.end l.fn.out l.out;
  owed : 0 < l.counter → owes_by (get l.fn.end.sessions l.near) ≡ true;
}
