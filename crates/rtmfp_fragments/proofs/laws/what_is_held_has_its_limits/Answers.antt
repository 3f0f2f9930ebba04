use Rattle.rtmfp_fragments.proofs.Limits.{within}
use Rattle.rtmfp_fragments.proofs.laws.what_is_held_has_its_limits.Goals as goal

pub returns : goal.returns
returns c = within
