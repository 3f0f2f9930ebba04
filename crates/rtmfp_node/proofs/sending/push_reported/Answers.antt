use Rattle.rtmfp_report.specs.LineText.{head_text, line_text}
use Rattle.rtmfp_node.specs.Report.{unsent_line}
use Rattle.rtmfp_text.proofs.Pushes.{push_then, push_end, pushed}
use Rattle.rtmfp_node.proofs.sending.push_reported.Goals as goal

pub returns : goal.returns
unfolding unsent_line line_text head_text
returns c =
    let head = push_then _ c.in_ok-push_number.ensures (push_then _ c.in_ok-push.ensures (push_then _ c.in_ok-push-2.ensures (push_end _ c.in_ok-push-3.ensures))) in
    (pushed head (push_then _ c.in_ok-push_number_field.ensures (push_end _ c.in_ok-push-4.ensures))).joined
