use Rattle.rtmfp_play.proofs.Reported.{each_line_is_told}
use Rattle.rtmfp_play.proofs.laws.each_line_is_told.Goals as goal

pub returns : goal.returns
returns c = each_line_is_told
