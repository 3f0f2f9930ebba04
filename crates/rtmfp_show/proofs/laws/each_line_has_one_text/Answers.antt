use Rattle.rtmfp_show.proofs.Texts.{line_same}
use Rattle.rtmfp_show.proofs.laws.each_line_has_one_text.Goals as goal

pub returns : goal.returns
returns c = line_same
