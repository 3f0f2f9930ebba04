use Rattle.std.proofs.Common.{◌≡◌, length}
use Rattle.log_verdict.specs.Told.{setups_of, with_firsts}
use Rattle.log_audit.proofs.secrets.add_firsts.Given as goal

abbrev pub invariant-loop-rest : goal.invariant-loop-rest
invariant-loop-rest l = with_firsts (setups_of l.rest) l.secrets ≡ with_firsts (setups_of l.logs) l.fn.secrets

abbrev pub decreases-loop-rest : goal.decreases-loop-rest
decreases-loop-rest l = length l.rest
