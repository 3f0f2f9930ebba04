use Rattle.log_verdict.proofs.Whole.{what_passes_is_audited}
use Rattle.log_verdict.proofs.laws.what_passes_is_audited.Goals as goal

pub returns : goal.returns
returns c = what_passes_is_audited
