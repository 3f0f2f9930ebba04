use Rattle.rtmfp_play.proofs.Placing.{each_line_is_flat}
use Rattle.rtmfp_play.proofs.laws.each_line_is_flat.Goals as goal

pub returns : goal.returns
returns c = each_line_is_flat
