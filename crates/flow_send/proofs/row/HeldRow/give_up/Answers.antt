use Rattle.std.proofs.Common.{rules}
use Rattle.flow_send.proofs.row.HeldRow.give_up.Goals as goal

pub returns-then-ne : goal.returns-then-ne
returns-then-ne c = search rules
