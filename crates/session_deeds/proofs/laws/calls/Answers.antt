use Rattle.session_deeds.proofs.Calls.{opening_goes, queueing_goes, abandoning_goes, finishing_goes}
use Rattle.session_deeds.proofs.laws.calls.Goals as goal

pub returns-clause-opening : goal.returns-clause-opening
returns-clause-opening c = opening_goes

pub returns-clause-queueing : goal.returns-clause-queueing
returns-clause-queueing c = queueing_goes

pub returns-clause-abandoning : goal.returns-clause-abandoning
returns-clause-abandoning c = abandoning_goes

pub returns-clause-finishing : goal.returns-clause-finishing
returns-clause-finishing c = finishing_goes
