use Rattle.std.proofs.Common.{rules}
use Rattle.flow_recv.proofs.receiver.took_by.Goals as goal

pub returns-else-missing : goal.returns-else-missing
returns-else-missing c = search rules
