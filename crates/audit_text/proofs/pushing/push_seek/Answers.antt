use Rattle.rtmfp_text.proofs.Pushes.{push_then}
use Rattle.audit_text.specs.Grammar.{call_text}
use Rattle.audit_text.proofs.Written.{push_only}
use Rattle.audit_text.proofs.pushing.push_seek.Goals as goal

pub returns : goal.returns
unfolding call_text
returns c = (push_then _ c.in_ok-push.ensures (push_then _ c.in_ok-push_service.ensures (push_only _ c.in_ok-push_digits.ensures))).joined
