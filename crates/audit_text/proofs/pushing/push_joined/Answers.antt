use Rattle.rtmfp_text.proofs.Pushes.{push_then}
use Rattle.audit_text.specs.Grammar.{joined_text}
use Rattle.audit_text.proofs.Written.{push_only}
use Rattle.audit_text.proofs.pushing.push_joined.Goals as goal

pub returns : goal.returns
unfolding joined_text
returns c = (push_then _ c.in_ok-push_digits.ensures (push_then _ c.in_ok-push_number.ensures (push_then _ c.in_ok-push_number32.ensures (push_then _ c.in_ok-push_number32-2.ensures (push_then _ c.in_ok-push_digits-2.ensures (push_then _ c.in_ok-push_digits-3.ensures (push_only _ c.in_ok-push_number-2.ensures))))))).joined
