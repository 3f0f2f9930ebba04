use Rattle.std.proofs.Common.{rules}
use Rattle.flow_send.proofs.row.HeldRow.is_third.Goals as goal

pub returns-then-self-ordinal : goal.returns-then-self-ordinal
returns-then-self-ordinal c = search rules
