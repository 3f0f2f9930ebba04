use Rattle.rtmfp_node.proofs.Called.{whole_called, zero_called}
use Rattle.rtmfp_node.proofs.edges.what_succeeds_comes_first.Goals as goal

pub returns-clause-zero : goal.returns-clause-zero
returns-clause-zero c = zero_called

pub returns-clause-turn : goal.returns-clause-turn
returns-clause-turn c = whole_called
