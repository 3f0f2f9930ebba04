use Rattle.std.proofs.Common.{◌++◌, ap, ◌∙◌}
use Rattle.rtmfp_text.proofs.Pushes.{push_then}
use Rattle.audit_text.proofs.Written.{push_only}
use Rattle.audit_text.proofs.texts.push_sender.Goals as goal

pub returns : goal.returns
returns c =
    let letter = c.in_ok-push-2.ensures ∙ ap (λ xs. c.push.new.self ++ xs) c.sender_name.ensures in
    (push_then _ c.in_ok-push.ensures (push_only _ letter)).joined
