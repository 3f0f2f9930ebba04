use Rattle.endpoint_laws.proofs.OfTheLog.{state_of_log}
use Rattle.endpoint_laws.proofs.laws.state_of_the_log.Goals as goal

pub returns : goal.returns
returns c = state_of_log
