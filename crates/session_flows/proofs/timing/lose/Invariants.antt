use Rattle.session_flows.proofs.Losses.{IsLosing}
use Rattle.session_flows.proofs.timing.lose.Given as goal

abbrev pub invariant-loop-sender : goal.invariant-loop-sender
invariant-loop-sender l = IsLosing l.moment l.resend_after l.any l.sender-index l.sending l.fn.sending l.kept
