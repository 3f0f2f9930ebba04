use Rattle.std.proofs.Common.{rules}
use Rattle.log_sent.proofs.prints.Prints.put.Goals as goal

pub returns-clause-is_new : goal.returns-clause-is_new
returns-clause-is_new c = search rules
