use Rattle.rtmfp_lines.specs.Status.{numbered}
use Rattle.rtmfp_text.proofs.Pushes.{push_then, push_end}
use Rattle.rtmfp_lines.proofs.status.push_numbered.Goals as goal

pub returns : goal.returns
unfolding numbered
returns c = (push_then _ c.in_ok-push.ensures (push_then _ c.in_ok-push_number.ensures (push_end _ c.in_ok-push-2.ensures))).joined
