use Rattle.std.proofs.Common.{ap, ◌∙◌, ◌++◌}
use Rattle.rtmfp_show.specs.ShowText.{malformed_text}
use Rattle.rtmfp_text.proofs.Pushes.{push_then, push_end}
use Rattle.rtmfp_show.proofs.show.show_malformed.Goals as goal

pub returns : goal.returns
unfolding malformed_text
returns c =
    let name = c.in_ok-push-2.ensures ∙ ap (λ xs. c.push.new.self ++ xs) c.kind_name.ensures in
    (push_then _ c.in_ok-push.ensures (push_then _ name (push_then _ c.in_ok-push-3.ensures (push_end _ c.in_ok-push_number.ensures)))).joined
