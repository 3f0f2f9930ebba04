use Rattle.std.proofs.Common.{rules}
use Rattle.flow_send.proofs.backlog.Backlog.low_from.Goals as goal

pub loop-sharer-preserved : goal.loop-sharer-preserved
loop-sharer-preserved c = search rules
