use Rattle.std.proofs.Common.{◌≡◌, ◌+◌, false}
use Rattle.flow_send.specs.declared.waiting.Waiting.{Waiting}
use Rattle.flow_send.specs.Sender.{is_overdue}
use Rattle.flow_send.proofs.Lowest.{Walked}
use Rattle.flow_send.proofs.Walking.{left_numbers}
use Rattle.flow_send.proofs.backlog.Backlog.look_in.Given as goal

abbrev pub invariant-loop-next : goal.invariant-loop-next
invariant-loop-next l = Walked (λ (w : Waiting). is_overdue l.moment (l.forward + 1) l.rows.rows w ≡ false) l.block l.self l.next

abbrev pub decreases-loop-next : goal.decreases-loop-next
decreases-loop-next l = left_numbers l.next
