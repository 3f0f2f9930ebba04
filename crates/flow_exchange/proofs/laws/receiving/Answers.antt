use Rattle.flow_exchange.proofs.Following.{stands, in_order, all_handed}
use Rattle.flow_exchange.proofs.Refusing.{lowest, counts, refuses}
use Rattle.flow_exchange.proofs.laws.receiving.Goals as goal

pub returns-clause-stands : goal.returns-clause-stands
returns-clause-stands c = stands

pub returns-clause-in_order : goal.returns-clause-in_order
returns-clause-in_order c = in_order

pub returns-clause-arriving : goal.returns-clause-arriving
returns-clause-arriving c = all_handed

pub returns-clause-lowest : goal.returns-clause-lowest
returns-clause-lowest c = lowest

pub returns-clause-counts : goal.returns-clause-counts
returns-clause-counts c = counts

pub returns-clause-refuses : goal.returns-clause-refuses
returns-clause-refuses c = refuses
