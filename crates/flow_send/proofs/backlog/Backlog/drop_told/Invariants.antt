use Rattle.std.proofs.Common.{◌≡◌, ◌+◌, ◌||◌}
use Rattle.std.specs.List.{filter}
use Rattle.flow_send.specs.declared.waiting.Waiting.{Waiting}
use Rattle.flow_send.specs.Messages.{keeps, is_left}
use Rattle.flow_send.proofs.Walking.{left_numbers}
use Rattle.flow_send.proofs.backlog.Backlog.drop_told.Given as goal

abbrev pub invariant-loop-next : goal.invariant-loop-next
invariant-loop-next l = record {
  left : l.self ≡ filter (λ (y : Waiting). is_left l.next y || keeps (l.forward + 1) l.fn.rows.rows l.low l.high y) l.fn.self;
  same : l.rows ≡ l.fn.rows;
}

abbrev pub decreases-loop-next : goal.decreases-loop-next
decreases-loop-next l = left_numbers l.next
