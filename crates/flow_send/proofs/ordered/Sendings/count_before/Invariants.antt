use Rattle.std.proofs.Common.{◌≡◌, ◌+◌, ◌-◌, ◌≤◌, drop, length}
use Rattle.flow_send.specs.Rows.{map_rows}
use Rattle.flow_send.specs.Ordered.{count_before}
use Rattle.flow_send.proofs.Orders.{Walks, after_index}
use Rattle.flow_send.proofs.ordered.Sendings.count_before.Given as goal

abbrev pub invariant-loop-index : goal.invariant-loop-index
invariant-loop-index l = record {
  rows : l.rows.rows ≡ map_rows (count_before (l.forward + 1 + l.to) l.ordinal (after_index l.self.queue l.index)) (l.forward + 1) l.fn.rows.rows;
  room : l.rows.room ≡ l.fn.rows.room;
  most : after_index l.self.queue l.index ≤ l.ordinal;
  walks : Walks l.self.queue (drop l.index l.self.queue) (after_index l.self.queue l.index);
}

abbrev pub decreases-loop-index : goal.decreases-loop-index
decreases-loop-index l = length l.self.queue - l.index
