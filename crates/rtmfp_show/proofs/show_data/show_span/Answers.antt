use Rattle.rtmfp_show.specs.DataText.{span_text}
use Rattle.rtmfp_text.proofs.Pushes.{push_then, push_end}
use Rattle.rtmfp_show.proofs.show_data.show_span.Goals as goal

pub returns : goal.returns
unfolding span_text
returns c = (push_then _ c.in_ok-push_number.ensures (push_then _ c.in_ok-push.ensures (push_end _ c.in_ok-push_number-2.ensures))).joined
