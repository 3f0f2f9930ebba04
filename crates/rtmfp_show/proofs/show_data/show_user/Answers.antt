use Rattle.rtmfp_show.specs.DataText.{user_text}
use Rattle.rtmfp_text.proofs.Pushes.{push_then, push_end}
use Rattle.rtmfp_show.proofs.show_data.show_user.Goals as goal

pub returns : goal.returns
unfolding user_text
returns c = (push_then _ c.in_ok-push.ensures (push_then _ c.in_ok-show_marks.ensures (push_then _ c.in_ok-show_numbers.ensures (push_then _ c.in_ok-push-2.ensures (push_then _ c.in_ok-show_options.ensures (push_end _ c.in_ok-push_field.ensures)))))).joined
