use Rattle.rtmfp_text.proofs.Pushes.{push_then}
use Rattle.audit_text.specs.Grammar.{line_text}
use Rattle.audit_text.proofs.Written.{push_only}
use Rattle.audit_text.proofs.writing.push_entry_line.Goals as goal

pub returns : goal.returns
unfolding line_text
returns c = (push_then _ c.in_ok-push.ensures (push_only _ c.in_ok-push_entry.ensures)).joined
