use Rattle.std.proofs.Common.{rules}
use Rattle.flow_recv.proofs.receiver.passes_buffer.Goals as goal

pub returns-else-sum-gt2097152 : goal.returns-else-sum-gt2097152
returns-else-sum-gt2097152 c = search rules
