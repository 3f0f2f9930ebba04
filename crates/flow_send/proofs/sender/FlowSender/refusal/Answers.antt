use Rattle.std.proofs.Common.{rules}
use Rattle.flow_send.proofs.sender.FlowSender.refusal.Goals as goal

pub returns-then-held-length-gt-BACKLOG : goal.returns-then-held-length-gt-BACKLOG
returns-then-held-length-gt-BACKLOG c = search rules
