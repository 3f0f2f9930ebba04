use Rattle.rtmfp_report.specs.EntryText.{unsought_text}
use Rattle.rtmfp_text.proofs.Pushes.{push_then, push_end}
use Rattle.rtmfp_report.proofs.entries.push_unsought.Goals as goal

pub returns : goal.returns
unfolding unsought_text
returns c =
    (push_then _ c.in_ok-push_number_field.ensures (push_then _ c.in_ok-push.ensures (push_end _ c.in_ok-push_why.ensures))).joined
