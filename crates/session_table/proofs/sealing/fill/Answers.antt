use Rattle.std.proofs.Common.{rules}
use Rattle.session_table.proofs.sealing.fill.Goals as goal

pub returns-clause-datagram : goal.returns-clause-datagram
returns-clause-datagram c = search rules
