use Rattle.endpoint_handing.proofs.Rows.{tells_of_flows}
use Rattle.endpoint_handing.proofs.edges.entries_tell_of_flows.Goals as goal

pub returns : goal.returns
returns c = tells_of_flows
