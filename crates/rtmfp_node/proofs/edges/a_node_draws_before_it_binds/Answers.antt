use Rattle.std.proofs.Common.{ap}
use Rattle.rtmfp_node.specs.Outside.{Told}
use Rattle.rtmfp_node.proofs.Called.{binds_later, draws_first}
use Rattle.rtmfp_node.proofs.edges.a_node_draws_before_it_binds.Goals as goal

pub returns-clause-untouched : goal.returns-clause-untouched
returns-clause-untouched c = draws_first

pub returns-clause-bound : goal.returns-clause-bound
returns-clause-bound c = binds_later

pub returns-clause-failed : goal.returns-clause-failed
returns-clause-failed c v x y cut = ap (λ (z : Told). z.blocks) cut
