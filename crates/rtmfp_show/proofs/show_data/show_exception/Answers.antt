use Rattle.rtmfp_show.specs.DataText.{data_text}
use Rattle.rtmfp_text.proofs.Pushes.{push_then, push_end}
use Rattle.rtmfp_show.proofs.show_data.show_exception.Goals as goal

pub returns : goal.returns
unfolding data_text
returns c = (push_then _ c.in_ok-push_number_field.ensures (push_end _ c.in_ok-push_number_field-2.ensures)).joined
