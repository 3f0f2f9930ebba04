use Rattle.rtmfp_report.specs.EntryText.{numbered_text}
use Rattle.rtmfp_text.proofs.Pushes.{push_then, push_end}
use Rattle.rtmfp_report.proofs.entries.push_numbered.Goals as goal

pub returns : goal.returns
unfolding numbered_text
returns c = (push_then _ c.in_ok-push.ensures (push_then _ c.in_ok-push_number_field.ensures (push_then _ c.in_ok-push_number_field-2.ensures (push_end _ c.in_ok-push_number_field-3.ensures)))).joined
