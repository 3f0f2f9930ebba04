use Rattle.std.proofs.Common.{rules}
use Rattle.flow_send.proofs.marks.Marks.mark.Goals as goal

pub invariant_of-self-2 : goal.invariant_of-self-2
invariant_of-self-2 c = search rules
