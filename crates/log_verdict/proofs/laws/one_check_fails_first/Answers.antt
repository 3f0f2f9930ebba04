use Rattle.log_verdict.proofs.Once.{one_check_fails_first}
use Rattle.log_verdict.proofs.laws.one_check_fails_first.Goals as goal

pub returns : goal.returns
returns c = one_check_fails_first
