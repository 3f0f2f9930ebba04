use Rattle.std.proofs.Common.{ap, ◌∙◌, ◌++◌}
use Rattle.rtmfp_show.specs.DataText.{marks_text}
use Rattle.rtmfp_text.proofs.Pushes.{push_then, push_end}
use Rattle.rtmfp_show.proofs.show_data.show_marks.Goals as goal

pub returns : goal.returns
unfolding marks_text
returns c =
    let part = c.in_ok-push-2.ensures ∙ ap (λ xs. c.push.new.self ++ xs) c.part_name.ensures in
    (push_then _ c.in_ok-push.ensures (push_then _ part (push_then _ c.in_ok-push_bit_field.ensures (push_end _ c.in_ok-push_bit_field-2.ensures)))).joined
