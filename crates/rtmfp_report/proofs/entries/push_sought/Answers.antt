use Rattle.rtmfp_report.specs.EntryText.{sought_text}
use Rattle.rtmfp_text.proofs.Pushes.{push_then, push_end}
use Rattle.rtmfp_report.proofs.entries.push_sought.Goals as goal

pub returns : goal.returns
unfolding sought_text
returns c = (push_then _ c.in_ok-push_number_field.ensures (push_end _ c.in_ok-push_field.ensures)).joined
