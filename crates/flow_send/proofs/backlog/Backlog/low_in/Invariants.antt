use Rattle.flow_send.specs.declared.waiting.Waiting.{Waiting}
use Rattle.flow_send.specs.Deadlines.{IsNotBefore}
use Rattle.flow_send.proofs.Lowest.{Walked}
use Rattle.flow_send.proofs.Walking.{left_numbers}
use Rattle.flow_send.proofs.backlog.Backlog.low_in.Given as goal

abbrev pub invariant-loop-next : goal.invariant-loop-next
invariant-loop-next l = Walked (λ (w : Waiting). IsNotBefore l.low w.options.deadline) l.block l.self l.next

abbrev pub decreases-loop-next : goal.decreases-loop-next
decreases-loop-next l = left_numbers l.next
