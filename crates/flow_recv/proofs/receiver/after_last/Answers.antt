use Rattle.std.proofs.Common.{rules}
use Rattle.flow_recv.proofs.receiver.after_last.Goals as goal

pub returns-then-chunk-highest : goal.returns-then-chunk-highest
returns-then-chunk-highest c = search rules
