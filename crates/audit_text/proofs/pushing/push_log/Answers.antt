use Rattle.rtmfp_text.proofs.Pushes.{push_then}
use Rattle.audit_text.specs.Grammar.{line_text}
use Rattle.audit_text.proofs.Written.{push_only}
use Rattle.audit_text.proofs.pushing.push_log.Goals as goal

pub returns : goal.returns
unfolding line_text
returns c = (push_then _ c.in_ok-push.ensures (push_then _ c.in_ok-push_name.ensures (push_then _ c.in_ok-push_number32.ensures (push_then _ c.in_ok-push_number32-2.ensures (push_then _ c.in_ok-push_number.ensures (push_then _ c.in_ok-push_digits.ensures (push_then _ c.in_ok-push_digits-2.ensures (push_only _ c.in_ok-push_cert.ensures)))))))).joined
