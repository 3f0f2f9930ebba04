use Rattle.flow_history.proofs.Rows.{in_arrival_order}
use Rattle.flow_history.proofs.edges.in_arrival_order.Goals as goal

pub returns : goal.returns
returns c = in_arrival_order
