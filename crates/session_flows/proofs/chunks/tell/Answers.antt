use Rattle.std.proofs.Common.{rules}
use Rattle.session_flows.proofs.chunks.tell.Goals as goal

pub returns : goal.returns
returns c = search rules
