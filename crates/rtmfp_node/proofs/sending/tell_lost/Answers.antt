use Rattle.std.proofs.Common.{rules}
use Rattle.rtmfp_node.proofs.sending.tell_lost.Goals as goal

pub returns-in-Done-clause-ends : goal.returns-in-Done-clause-ends
returns-in-Done-clause-ends g c = search rules
