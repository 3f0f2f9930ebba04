use Rattle.std.proofs.Common.{◌≡◌, length, Some}
use Rattle.log_verdict.specs.Told.{with_entries}
use Rattle.log_audit.proofs.secrets.add_learnt.Given as goal

abbrev pub invariant-loop-rest : goal.invariant-loop-rest
invariant-loop-rest l = with_entries (Some l.secret) l.rest l.secrets ≡ with_entries (Some l.secret) l.event.entries.items l.fn.secrets

abbrev pub decreases-loop-rest : goal.decreases-loop-rest
decreases-loop-rest l = length l.rest
