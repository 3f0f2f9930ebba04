use Rattle.std.proofs.Common.{refl}
use Rattle.rtmfp_text.proofs.Pushes.{push_then}
use Rattle.audit_text.specs.Grammar.{call_text, line_text}
use Rattle.audit_text.proofs.Written.{push_only}
use Rattle.audit_text.proofs.pushing.push_front.Goals as goal

pub returns : goal.returns
unfolding line_text
returns c = λ call. (push_then _ c.in_ok-push.ensures (push_then _ c.in_ok-push_name.ensures (push_then _ c.in_ok-push_number.ensures (push_then _ c.in_ok-push_digits.ensures (push_then _ c.in_ok-push-2.ensures (push_only (call_text call) refl)))))).joined
