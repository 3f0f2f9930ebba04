use Rattle.flow_history.proofs.Lively.{lively_lawful, lively_honest, lively_ordered, lively_hands}
use Rattle.flow_history.proofs.laws.lively.Goals as goal

pub returns-clause-lawful : goal.returns-clause-lawful
returns-clause-lawful c = lively_lawful

pub returns-clause-honest : goal.returns-clause-honest
returns-clause-honest c = lively_honest

pub returns-clause-ordered : goal.returns-clause-ordered
returns-clause-ordered c = lively_ordered

pub returns-clause-hands : goal.returns-clause-hands
returns-clause-hands c = lively_hands
