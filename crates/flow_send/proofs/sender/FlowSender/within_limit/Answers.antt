use Rattle.std.proofs.Common.{rules}
use Rattle.flow_send.proofs.sender.FlowSender.within_limit.Goals as goal

pub returns : goal.returns
returns c = search rules
