use Rattle.std.proofs.Common.{◌≡◌, ◌+◌, length}
use Rattle.std.specs.List.{filter}
use Rattle.flow_send.specs.Messages.{keeps}
use Rattle.flow_send.specs.Steady.{Line}
use Rattle.flow_send.proofs.backlog.Backlog.drop_upto.Given as goal

abbrev pub invariant-loop-message : goal.invariant-loop-message
invariant-loop-message l = record {
  kept : filter (keeps (l.forward + 1) l.fn.rows.rows 0 l.upto) l.self ≡ filter (keeps (l.forward + 1) l.fn.rows.rows 0 l.upto) l.fn.self;
  line : Line 0 (l.forward + 1 + length l.fn.rows.rows) l.self;
  same : l.rows ≡ l.fn.rows;
}

abbrev pub decreases-loop-message : goal.decreases-loop-message
decreases-loop-message l = length l.self
