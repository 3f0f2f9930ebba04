use Rattle.endpoint_laws.proofs.FlowsFew.{flows_hold_few}
use Rattle.endpoint_laws.proofs.laws.flows_hold_few.Goals as goal

pub returns : goal.returns
returns c = flows_hold_few
