use Rattle.std.proofs.Common.{◌≡◌, ◌+◌, length}
use Rattle.std.specs.List.{filter}
use Rattle.flow_send.specs.Acks.{still_waits}
use Rattle.flow_send.specs.Steady.{Line}
use Rattle.flow_send.proofs.Walking.{passes}
use Rattle.flow_send.proofs.backlog.Backlog.drop_done.Given as goal

abbrev pub invariant-loop-first : goal.invariant-loop-first
invariant-loop-first l = record {
  kept : filter (passes (l.forward + 1) l.fn.rows.rows l.left) l.self ≡ filter (still_waits (l.forward + 1) l.fn.rows.rows) l.fn.self;
  line : Line 0 (l.forward + 1 + length l.fn.rows.rows) l.self;
  same : l.rows ≡ l.fn.rows;
}

abbrev pub decreases-loop-first : goal.decreases-loop-first
decreases-loop-first l = length l.left
