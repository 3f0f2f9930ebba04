use Rattle.endpoint_laws.proofs.FlowsWithin.{flows_are_within}
use Rattle.endpoint_laws.proofs.laws.flows_are_within.Goals as goal

pub returns : goal.returns
returns c = flows_are_within
