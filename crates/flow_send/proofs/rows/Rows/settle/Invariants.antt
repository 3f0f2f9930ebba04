use Rattle.std.proofs.Common.{◌≡◌, ◌+◌, ◌-◌, ◌≤◌, drop, length}
use Rattle.flow_send.specs.Rows.{settled_front}
use Rattle.flow_send.proofs.rows.Rows.settle.Given as goal

abbrev pub invariant-loop-count : goal.invariant-loop-count
invariant-loop-count l = record {
  rows : l.self.rows ≡ drop l.count l.fn.self.rows;
  count : l.count + settled_front l.self.rows ≡ settled_front l.fn.self.rows;
  all : l.count + length l.self.rows ≡ length l.fn.self.rows;
  room : l.fn.self.room ≤ l.self.room;
}

abbrev pub decreases-loop-count : goal.decreases-loop-count
decreases-loop-count l = l.all - l.count
