use Rattle.flow_history.proofs.Rows.{in_queueing_order}
use Rattle.flow_history.proofs.edges.in_queueing_order.Goals as goal

pub returns : goal.returns
returns c = in_queueing_order
