use Rattle.std.proofs.Common.{rules}
use Rattle.session_table.proofs.due.row_due.Goals as goal

-- so that a wrong body is refused fast
pub returns-in-Some : goal.returns-in-Some
returns-in-Some c = search rules
