use Rattle.std.proofs.Common.{rules}
use Rattle.startup.proofs.rows.due_from.Goals as goal

pub returns : goal.returns
returns c = search rules
