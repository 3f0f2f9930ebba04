use Rattle.std.proofs.Common.{rules}
use Rattle.glare_core.proofs.rows.Rows.note_after.Goals as goal

pub returns-in-false-default-clause-rows : goal.returns-in-false-default-clause-rows
returns-in-false-default-clause-rows c = search rules
