use Rattle.std.proofs.Common.{rules}
use Rattle.flow_send.proofs.acking.greatest.Goals as goal

pub loop-last-init : goal.loop-last-init
loop-last-init c = search rules
