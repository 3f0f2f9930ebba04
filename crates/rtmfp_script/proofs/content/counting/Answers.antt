use Rattle.std.proofs.Common.{rules}
use Rattle.rtmfp_script.specs.Grammar.{counting}
use Rattle.rtmfp_script.proofs.content.counting.Goals as goal

pub loop-at-preserved : goal.loop-at-preserved
unfolding counting
loop-at-preserved c = search rules
