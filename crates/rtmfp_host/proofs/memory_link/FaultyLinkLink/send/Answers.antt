use Rattle.std.proofs.Common.{rules}
use Rattle.rtmfp_host.proofs.memory_link.FaultyLinkLink.send.Goals as goal

pub returns-then-next_fails-clause-faults : goal.returns-then-next_fails-clause-faults
returns-then-next_fails-clause-faults c = search rules

pub returns-then-next_fails-clause-call : goal.returns-then-next_fails-clause-call
returns-then-next_fails-clause-call c = search rules
