use Rattle.rtmfp_report.specs.EntryText.{handed_text}
use Rattle.rtmfp_text.proofs.Pushes.{push_then, push_end}
use Rattle.rtmfp_report.proofs.entries.push_handed.Goals as goal

pub returns : goal.returns
unfolding handed_text
returns c = (push_then _ c.in_ok-push_numbered.ensures (push_end _ c.in_ok-push_field.ensures)).joined
