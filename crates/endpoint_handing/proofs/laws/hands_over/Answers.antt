use Rattle.endpoint_handing.proofs.AllFlows.{all_flows_hand}
use Rattle.endpoint_handing.proofs.HandsOver.{every_history_hands_over, every_history_hands_once}
use Rattle.endpoint_handing.proofs.HandsOver.{every_flow_has_an_order, every_message_is_told}
use Rattle.endpoint_handing.proofs.laws.hands_over.Goals as goal

pub returns-clause-in_order : goal.returns-clause-in_order
returns-clause-in_order c = every_history_hands_over all_flows_hand

pub returns-clause-arriving : goal.returns-clause-arriving
returns-clause-arriving c = every_history_hands_once all_flows_hand

pub returns-clause-orders : goal.returns-clause-orders
returns-clause-orders c = every_flow_has_an_order all_flows_hand

pub returns-clause-told : goal.returns-clause-told
returns-clause-told c = every_message_is_told all_flows_hand
