use Rattle.flow_history.proofs.Entries.{history_hands_over, history_hands_once}
use Rattle.flow_history.proofs.Orders.{has_an_order}
use Rattle.flow_history.proofs.laws.hands_over.Goals as goal

pub returns-clause-in_order : goal.returns-clause-in_order
returns-clause-in_order c = history_hands_over

pub returns-clause-arriving : goal.returns-clause-arriving
returns-clause-arriving c = history_hands_once

pub returns-clause-orders : goal.returns-clause-orders
returns-clause-orders c = has_an_order
