use Rattle.std.proofs.Common.{◌≡◌}
use Rattle.flow_send.specs.Rows.{between, any_between}
use Rattle.flow_send.specs.Sender.{lost_if_late, is_late}
use Rattle.flow_send.proofs.rows.Rows.lose_late.Given as goal

abbrev pub invariant-loop-at : goal.invariant-loop-at
invariant-loop-at l = record {
  rows : l.self.rows ≡ between (lost_if_late l.moment l.resend_after) 0 l.at l.fn.self.rows;
  room : l.self.room ≡ l.fn.self.room;
  late : l.late ≡ any_between (is_late l.moment l.resend_after) 0 l.at l.fn.self.rows;
}
