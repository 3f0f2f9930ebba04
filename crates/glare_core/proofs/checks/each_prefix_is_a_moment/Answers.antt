use Rattle.glare_core.proofs.Moments.{prefix_is_moment}
use Rattle.glare_core.proofs.checks.each_prefix_is_a_moment.Goals as goal

pub returns : goal.returns
returns c = prefix_is_moment
