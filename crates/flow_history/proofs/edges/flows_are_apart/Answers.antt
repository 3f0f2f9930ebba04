use Rattle.flow_history.proofs.Rows.{flows_are_apart}
use Rattle.flow_history.proofs.edges.flows_are_apart.Goals as goal

pub returns : goal.returns
returns c = flows_are_apart
