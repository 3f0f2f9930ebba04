use Rattle.std.proofs.Common.{◌++◌, ap, ◌∙◌}
use Rattle.rtmfp_report.specs.FactText.{ended_text}
use Rattle.rtmfp_text.proofs.Pushes.{push_then, push_end}
use Rattle.rtmfp_report.proofs.facts.push_ended.Goals as goal

pub returns : goal.returns
unfolding ended_text
returns c =
    let why = c.in_ok-push-2.ensures ∙ ap (λ xs. c.push.new.self ++ xs) c.why_name.ensures in
    (push_then _ c.in_ok-push_number_field.ensures (push_then _ c.in_ok-push.ensures (push_end _ why))).joined
