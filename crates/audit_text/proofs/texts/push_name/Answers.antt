use Rattle.std.proofs.Common.{◌++◌, ap, ◌∙◌}
use Rattle.rtmfp_text.proofs.Pushes.{push_then}
use Rattle.audit_text.proofs.Written.{push_only}
use Rattle.audit_text.proofs.texts.push_name.Goals as goal

pub returns : goal.returns
returns c =
    let name = c.in_ok-push_plain.ensures ∙ ap (λ xs. c.push.new.self ++ xs) c.bytes.ensures in
    (push_then _ c.in_ok-push.ensures (push_only _ name)).joined
