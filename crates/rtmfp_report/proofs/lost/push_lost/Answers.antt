use Rattle.rtmfp_report.specs.LineText.{line_text}
use Rattle.rtmfp_text.proofs.Pushes.{push_then, push_end}
use Rattle.rtmfp_report.proofs.lost.push_lost.Goals as goal

pub returns : goal.returns
unfolding line_text
returns c = (push_then _ c.in_ok-push_head.ensures (push_then _ c.in_ok-push_number_and_why.ensures (push_end _ c.in_ok-push.ensures))).joined
