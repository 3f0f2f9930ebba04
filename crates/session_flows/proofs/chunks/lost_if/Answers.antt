use Rattle.std.proofs.Common.{rules}
use Rattle.session_flows.proofs.chunks.lost_if.Goals as goal

pub returns-then-lost : goal.returns-then-lost
returns-then-lost c = search rules

pub returns-else-lost : goal.returns-else-lost
returns-else-lost c = search rules
