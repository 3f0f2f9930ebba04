use Rattle.std.proofs.Common.{rules}
use Rattle.flow_send.proofs.sender.FlowSender.is_quiet.Goals as goal

pub returns-then-last-moment : goal.returns-then-last-moment
returns-then-last-moment c = search rules
