use Rattle.std.proofs.Common.{rules}
use Rattle.log_contexts.proofs.threads.Threads.start.Goals as goal

pub returns-clause-ok : goal.returns-clause-ok
returns-clause-ok c = search rules
