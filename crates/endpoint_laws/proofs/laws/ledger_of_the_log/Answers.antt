use Rattle.endpoint_laws.proofs.Logged.{ledger_of_log}
use Rattle.endpoint_laws.proofs.laws.ledger_of_the_log.Goals as goal

pub returns : goal.returns
returns c = ledger_of_log
