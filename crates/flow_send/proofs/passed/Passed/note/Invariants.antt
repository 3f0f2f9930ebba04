use Rattle.std.proofs.Common.{◌≡◌, ◌-◌, ◌<◌, ◌≤◌, List, drop, get_or, length}
use Rattle.std.specs.VecDeque.{deque_len, deque_capacity}
use Rattle.flow_send.specs.Rows.{Row}
use Rattle.flow_send.specs.Passed.{AllAcked, ArePassed}
use Rattle.flow_send.proofs.passed.Passed.note.Given as goal

abbrev pub invariant-loop-at : goal.invariant-loop-at
invariant-loop-at l = record {
  from : l.from ≤ l.at;
  counts : (rows : List Row) → AllAcked (l.to - l.from) (drop l.from rows) → ArePassed l.fn.self.counts rows → ArePassed l.self-inside.counts.items rows;
  all : length l.self-inside.counts.items ≡ length l.fn.self.counts;
  reaches : l.from < l.at → l.from < length l.fn.self.counts → l.to - l.from ≤ get_or l.self-inside.counts.items l.from 0;
  room : deque_capacity l.self-inside.counts - deque_len l.self-inside.counts ≡ l.fn.self.room;
}

abbrev pub decreases-loop-at : goal.decreases-loop-at
decreases-loop-at l = l.to - l.at
