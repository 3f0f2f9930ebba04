use Rattle.flow_exchange.proofs.Pairing.{exchanged_in_order, exchanged_arriving}
use Rattle.flow_exchange.proofs.laws.exchange.Goals as goal

pub returns-clause-in_order : goal.returns-clause-in_order
returns-clause-in_order c = exchanged_in_order

pub returns-clause-arriving : goal.returns-clause-arriving
returns-clause-arriving c = exchanged_arriving
