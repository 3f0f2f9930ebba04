use Rattle.rtmfp_report.specs.Tally.{summary_text}
use Rattle.rtmfp_text.proofs.Pushes.{push_then, push_end}
use Rattle.rtmfp_report.proofs.tally.push_summary.Goals as goal

pub returns : goal.returns
unfolding summary_text
returns c =
    (push_then _ c.in_ok-push_number_field.ensures (push_then _ c.in_ok-push_number_field-2.ensures (push_then _ c.in_ok-push_number_field-3.ensures
    (push_then _ c.in_ok-push_number_field-4.ensures (push_then _ c.in_ok-push_number_field-5.ensures (push_then _ c.in_ok-push_number_field-6.ensures
    (push_then _ c.in_ok-push_number_field-7.ensures (push_then _ c.in_ok-push_number_field-8.ensures (push_then _ c.in_ok-push_number_field-9.ensures
    (push_then _ c.in_ok-push_number_field-10.ensures (push_end _ c.in_ok-push.ensures))))))))))).joined
