use Rattle.std.proofs.Common.{rules}
use Rattle.session_table.proofs.due.still_due.Goals as goal

-- so that a wrong body is refused fast
pub returns-then-is_data_due : goal.returns-then-is_data_due
returns-then-is_data_due c = search rules
