use Rattle.std.proofs.Common.{rules}
use Rattle.session_flows.proofs.flows.Flows.lose_late.Goals as goal

pub returns-clause-session : goal.returns-clause-session
returns-clause-session c = search rules
