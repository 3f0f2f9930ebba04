use Rattle.session_deeds.proofs.Timing.{losing_goes, overdue_goes}
use Rattle.session_deeds.proofs.laws.timing.Goals as goal

pub returns-clause-losing : goal.returns-clause-losing
returns-clause-losing c = losing_goes

pub returns-clause-overdue : goal.returns-clause-overdue
returns-clause-overdue c = overdue_goes
