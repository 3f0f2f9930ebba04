use Rattle.rtmfp_report.specs.EntryText.{queued_text}
use Rattle.rtmfp_text.proofs.Pushes.{push_then, push_end}
use Rattle.rtmfp_report.proofs.entries.push_queued.Goals as goal

pub returns : goal.returns
unfolding queued_text
returns c = (push_then _ c.in_ok-push_numbered.ensures (push_end _ c.in_ok-push_number_field.ensures)).joined
