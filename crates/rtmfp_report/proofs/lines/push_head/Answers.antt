use Rattle.std.proofs.Common.{◌++◌, ap, ◌∙◌}
use Rattle.rtmfp_report.specs.LineText.{head_text}
use Rattle.rtmfp_text.proofs.Pushes.{push_then, push_end}
use Rattle.rtmfp_report.proofs.lines.push_head.Goals as goal

pub returns : goal.returns
unfolding head_text
returns c =
    let name = c.in_ok-push_plain.ensures ∙ ap (λ xs. c.push.new.self ++ xs) c.bytes.ensures in
    (push_then _ c.in_ok-push_number.ensures (push_then _ c.in_ok-push.ensures (push_then _ name (push_end _ c.in_ok-push-2.ensures)))).joined
