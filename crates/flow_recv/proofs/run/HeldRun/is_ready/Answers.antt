use Rattle.std.proofs.Common.{rules}
use Rattle.flow_recv.proofs.run.HeldRun.is_ready.Goals as goal

pub returns-then-is_whole : goal.returns-then-is_whole
returns-then-is_whole c = search rules
