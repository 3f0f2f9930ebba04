use Rattle.std.proofs.Common.{rules}
use Rattle.flow_send.proofs.passed.Passed.reserve.Goals as goal

pub returns-clause-room : goal.returns-clause-room
returns-clause-room c = search rules
