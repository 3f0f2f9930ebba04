use Rattle.rtmfp_play.proofs.Journaled.{each_journaled_line_is_played}
use Rattle.rtmfp_play.proofs.laws.each_journaled_line_is_played.Goals as goal

pub returns : goal.returns
returns c = each_journaled_line_is_played
