use Rattle.rtmfp_text.proofs.Pushes.{push_then}
use Rattle.audit_text.specs.Grammar.{fact_text}
use Rattle.audit_text.proofs.Written.{push_only}
use Rattle.audit_text.proofs.pushing.push_born.Goals as goal

pub returns : goal.returns
unfolding fact_text
returns c = (push_then _ c.in_ok-push.ensures (push_only _ c.in_ok-push_joined.ensures)).joined
