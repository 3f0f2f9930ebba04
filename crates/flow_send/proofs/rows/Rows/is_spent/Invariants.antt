use Rattle.std.proofs.Common.{◌≡◌, false}
use Rattle.flow_send.specs.Rows.{any_between}
use Rattle.flow_send.specs.Sender.{is_spent_row}
use Rattle.flow_send.proofs.rows.Rows.is_spent.Given as goal

abbrev pub invariant-loop-at : goal.invariant-loop-at
invariant-loop-at l = any_between (is_spent_row l.limit) l.from l.at l.self.rows ≡ false
