use Rattle.rtmfp_node.proofs.Called.{openings_called}
use Rattle.rtmfp_node.proofs.edges.turn_zero_makes_its_openings.Goals as goal

pub returns : goal.returns
returns c = openings_called
