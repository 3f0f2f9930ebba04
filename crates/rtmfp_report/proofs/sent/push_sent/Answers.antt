use Rattle.rtmfp_report.specs.SentText.{sent_text}
use Rattle.rtmfp_text.proofs.Pushes.{push_then, push_end}
use Rattle.rtmfp_report.proofs.sent.push_sent.Goals as goal

pub returns : goal.returns
unfolding sent_text
returns c =
    (push_then _ c.in_ok-push_number_field.ensures (push_then _ c.in_ok-push.ensures (push_then _ c.in_ok-push_address.ensures
    (push_then _ c.in_ok-push-2.ensures (push_end _ c.in_ok-push_sent_kinds.ensures))))).joined
