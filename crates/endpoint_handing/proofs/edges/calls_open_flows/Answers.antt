use Rattle.endpoint_handing.proofs.Rows.{opens_flows}
use Rattle.endpoint_handing.proofs.edges.calls_open_flows.Goals as goal

pub returns : goal.returns
returns c = opens_flows
