use Rattle.rtmfp_text.proofs.Pushes.{push_then}
use Rattle.audit_text.proofs.Written.{push_only}
use Rattle.audit_text.proofs.texts.push_digits.Goals as goal

pub returns : goal.returns
returns c = (push_then _ c.in_ok-push.ensures (push_only _ c.in_ok-push_hex.ensures)).joined
