use Rattle.std.proofs.Common.{rules}
use Rattle.log_outs.proofs.sessions.to_initiator.Goals as goal

pub returns : goal.returns
returns c = search rules
