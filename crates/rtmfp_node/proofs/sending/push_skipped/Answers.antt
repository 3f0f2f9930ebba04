use Rattle.rtmfp_node.specs.Report.{unsent_line}
use Rattle.rtmfp_text.proofs.Pushes.{push_then, push_end}
use Rattle.rtmfp_node.proofs.sending.push_skipped.Goals as goal

pub returns : goal.returns
unfolding unsent_line
returns c = (push_then _ c.in_ok-push_number_field.ensures (push_end _ c.in_ok-push.ensures)).joined
