use Rattle.std.proofs.Common.{rules}
use Rattle.flow_send.proofs.row.HeldRow.send.Goals as goal

pub returns : goal.returns
returns c = search rules
