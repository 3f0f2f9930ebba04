use Rattle.std.proofs.Common.{◌≡◌, ◌+◌, ◌||◌, map, length}
use Rattle.std.specs.List.{list_any}
use Rattle.flow_send.specs.Sender.{is_late, lost_if_late}
use Rattle.flow_send.specs.Ordered.{IsComplete}
use Rattle.flow_send.proofs.ordered.Sendings.lose_oldest.Given as goal

abbrev pub invariant-loop-number : goal.invariant-loop-number
invariant-loop-number l = record {
  complete : IsComplete l.self-inside.queue.items (l.forward + 1) l.rows.rows;
  same : map (lost_if_late l.moment l.resend_after) l.rows.rows ≡ map (lost_if_late l.moment l.resend_after) l.fn.rows.rows;
  late : (l.late || list_any (is_late l.moment l.resend_after) l.rows.rows) ≡ list_any (is_late l.moment l.resend_after) l.fn.rows.rows;
  room : l.rows.room ≡ l.fn.rows.room;
}

abbrev pub decreases-loop-number : goal.decreases-loop-number
decreases-loop-number l = length l.self-inside.queue.items
