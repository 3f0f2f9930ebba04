use Rattle.rtmfp_report.specs.LineText.{line_text}
use Rattle.rtmfp_report.specs.RefusalText.{refused_line}
use Rattle.rtmfp_text.proofs.Pushes.{push_then, push_end, pushed}
use Rattle.rtmfp_report.proofs.refusals.push_seek_refusal.Goals as goal

pub returns : goal.returns
unfolding refused_line line_text
returns c =
    (push_then _ c.in_ok-push_head.ensures
    (pushed (push_then _ c.in_ok-push.ensures (push_end _ c.in_ok-push_seek_name.ensures)) (push_end _ c.in_ok-push-2.ensures))).joined
