use Rattle.std.proofs.Common.{rules}
use Rattle.rtmfp_node.proofs.turn.is_failed.Goals as goal

pub returns-in-Quiet-clause-yes : goal.returns-in-Quiet-clause-yes
returns-in-Quiet-clause-yes c = search rules
