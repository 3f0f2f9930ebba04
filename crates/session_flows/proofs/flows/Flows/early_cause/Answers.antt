use Rattle.std.proofs.Common.{rules}
use Rattle.session_flows.proofs.flows.Flows.early_cause.Goals as goal

pub returns : goal.returns
returns c = search rules
