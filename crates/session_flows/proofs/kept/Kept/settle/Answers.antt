use Rattle.std.proofs.Common.{rules}
use Rattle.session_flows.proofs.kept.Kept.settle.Goals as goal

pub returns-then-may_send : goal.returns-then-may_send
returns-then-may_send c = search rules

pub returns-else-may_send : goal.returns-else-may_send
returns-else-may_send c = search rules
