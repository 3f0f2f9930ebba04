use Rattle.std.proofs.Common.{◌≡◌, ◌-◌, ◌≤◌}
use Rattle.flow_send.specs.Rows.{between, most_between}
use Rattle.flow_send.specs.Acks.{acknowledge_row, new_ordinal}
use Rattle.flow_send.proofs.rows.Rows.acknowledge.Given as goal

abbrev pub invariant-loop-at : goal.invariant-loop-at
invariant-loop-at l = record {
  order : l.from ≤ l.at;
  inside : l.at ≤ l.to;
  rows : l.self.rows ≡ between acknowledge_row l.from l.at l.fn.self.rows;
  room : l.self.room ≡ l.fn.self.room;
  ordinal : l.ordinal ≡ most_between new_ordinal l.from l.at l.fn.self.rows;
}

abbrev pub decreases-loop-at : goal.decreases-loop-at
decreases-loop-at l = l.to - l.at
