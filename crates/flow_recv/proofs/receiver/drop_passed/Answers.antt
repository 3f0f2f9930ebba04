use Rattle.std.proofs.Common.{rules}
use Rattle.flow_recv.proofs.receiver.drop_passed.Goals as goal

pub returns-clause-kept : goal.returns-clause-kept
returns-clause-kept c = search rules
