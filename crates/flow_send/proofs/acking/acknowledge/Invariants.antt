use Rattle.std.proofs.Common.{◌≡◌, ◌+◌, ◌<◌, max, length}
use Rattle.flow_send.specs.Rows.{map_rows}
use Rattle.flow_send.specs.Acks.{greatest, acknowledge, last_ordinal}
use Rattle.flow_send.proofs.Tellings.{acknowledge_by, last_by}
use Rattle.flow_send.proofs.acking.acknowledge.Given as goal

abbrev pub invariant-loop-first : goal.invariant-loop-first
invariant-loop-first l = record {
  rows : map_rows (acknowledge_by l.left) (l.forward + 1) l.rows.rows ≡ map_rows (acknowledge (record { blocks = 0; upto = l.upto; spans = l.fn.spans })) (l.forward + 1) l.fn.rows.rows;
  ordinal : max l.ordinal (last_by l.left (l.forward + 1) l.rows.rows) ≡ last_ordinal (record { blocks = 0; upto = l.upto; spans = l.fn.spans }) (l.forward + 1) l.fn.rows.rows;
  room : l.rows.room ≡ l.fn.rows.room;
  inside : greatest 0 l.left < l.forward + 1 + length l.rows.rows;
}

abbrev pub decreases-loop-first : goal.decreases-loop-first
decreases-loop-first l = length l.left
