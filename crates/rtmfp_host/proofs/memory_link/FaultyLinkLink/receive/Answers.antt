use Rattle.std.proofs.Common.{rules}
use Rattle.rtmfp_host.proofs.memory_link.FaultyLinkLink.receive.Goals as goal

pub returns-then-next_fails-clause-call : goal.returns-then-next_fails-clause-call
returns-then-next_fails-clause-call c = search rules
