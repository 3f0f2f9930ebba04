use Rattle.std.proofs.Common.{rules}
use Rattle.flow_send.proofs.finder.Finder.any_with_mark.Goals as goal

pub loop-block-preserved : goal.loop-block-preserved
loop-block-preserved c = search rules
