use Rattle.std.proofs.Common.{◌≡◌}
use Rattle.flow_send.specs.Rows.{between}
use Rattle.flow_send.specs.Sender.{give_up_row}
use Rattle.flow_send.proofs.rows.Rows.give_up.Given as goal

abbrev pub invariant-loop-at : goal.invariant-loop-at
invariant-loop-at l = record {
  rows : l.self.rows ≡ between give_up_row l.from l.at l.fn.self.rows;
  room : l.self.room ≡ l.fn.self.room;
}
