use Rattle.std.proofs.Common.{◌≡◌, take, drop}
use Rattle.session_flows.specs.Owing.{acks_put}
use Rattle.session_flows.proofs.Acked.{with_all}
use Rattle.session_flows.proofs.Fewer.{IsFewer}
use Rattle.session_flows.proofs.acks.put_acks.Given as goal

abbrev pub invariant-loop-flow : goal.invariant-loop-flow
invariant-loop-flow l = record {
  same : with_all (take l.flow-index l.taking) (acks_put (drop l.flow-index l.taking) l.out) ≡ acks_put l.fn.taking l.fn.out;
  fewer : IsFewer l.flow-index l.taking l.fn.taking l.out l.fn.out;
}
