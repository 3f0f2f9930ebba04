use Rattle.flow_history.proofs.Hands.{hands_over, hands_once}
use Rattle.flow_history.proofs.laws.one_flow.Goals as goal

pub returns-clause-in_order : goal.returns-clause-in_order
returns-clause-in_order c = hands_over

pub returns-clause-arriving : goal.returns-clause-arriving
returns-clause-arriving c = hands_once
