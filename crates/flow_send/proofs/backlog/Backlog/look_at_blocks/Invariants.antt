use Rattle.std.proofs.Common.{◌+◌, ◌^◌, ◌<◌}
use Rattle.std.specs.Prelude.{IfSome}
use Rattle.flow_send.proofs.Lowest.{Passed}
use Rattle.flow_send.proofs.Walking.{left_numbers}
use Rattle.flow_send.proofs.backlog.Backlog.look_at_blocks.Given as goal

abbrev pub invariant-loop-next : goal.invariant-loop-next
invariant-loop-next l = record {
  passed : Passed l.moment (l.forward + 1) l.rows.rows l.self l.next;
  few : IfSome l.next (λ g. g < 2 ^ 60);
}

abbrev pub decreases-loop-next : goal.decreases-loop-next
decreases-loop-next l = left_numbers l.next
