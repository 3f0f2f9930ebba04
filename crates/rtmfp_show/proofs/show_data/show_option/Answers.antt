use Rattle.rtmfp_show.specs.DataText.{option_text}
use Rattle.rtmfp_text.proofs.Pushes.{push_then, push_end}
use Rattle.rtmfp_show.proofs.show_data.show_option.Goals as goal

pub returns : goal.returns
unfolding option_text
returns c = (push_then _ c.in_ok-push_number.ensures (push_end _ c.in_ok-push_field.ensures)).joined
