use Rattle.rtmfp_play.proofs.Journaled.{each_line_adds_its_text}
use Rattle.rtmfp_play.proofs.laws.each_line_adds_its_text.Goals as goal

pub returns : goal.returns
returns c = each_line_adds_its_text
