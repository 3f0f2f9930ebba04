use Rattle.std.proofs.Common.{◌≡◌}
use Rattle.flow_send.specs.Rows.{between, any_between}
use Rattle.flow_send.specs.Acks.{count_ack, is_third}
use Rattle.flow_send.proofs.rows.Rows.count_acks.Given as goal

abbrev pub invariant-loop-at : goal.invariant-loop-at
invariant-loop-at l = record {
  rows : l.self.rows ≡ between (count_ack l.ordinal) 0 l.at l.fn.self.rows;
  room : l.self.room ≡ l.fn.self.room;
  lost : l.lost ≡ any_between (is_third l.ordinal) 0 l.at l.fn.self.rows;
}
