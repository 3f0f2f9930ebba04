use Rattle.rtmfp_report.specs.LineText.{line_text}
use Rattle.rtmfp_text.proofs.Pushes.{push_then, push_end}
use Rattle.rtmfp_report.proofs.entries.push_entry.Goals as goal

pub returns : goal.returns
unfolding line_text
returns c = (push_then _ c.in_ok-push_head.ensures (push_then _ c.in_ok-push_told.ensures (push_end _ c.in_ok-push.ensures))).joined
