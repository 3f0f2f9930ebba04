use Rattle.std.proofs.Common.{rules}
use Rattle.rtmfp_node.proofs.draw.draws_of.Goals as goal

pub returns : goal.returns
returns c = search rules
