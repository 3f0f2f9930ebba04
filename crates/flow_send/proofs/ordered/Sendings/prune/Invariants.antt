use Rattle.std.proofs.Common.{◌+◌, length}
use Rattle.flow_send.specs.Ordered.{Follows}
use Rattle.flow_send.proofs.ordered.Sendings.prune.Given as goal

abbrev pub invariant-loop-sent : goal.invariant-loop-sent
invariant-loop-sent l =
    Follows l.fn.self (l.forward + 1) l.rows.rows →
    Follows (record { whole = l.self-inside.whole; queue = l.self-inside.queue.items; room = 0 }) (l.forward + 1) l.rows.rows

abbrev pub decreases-loop-sent : goal.decreases-loop-sent
decreases-loop-sent l = length l.self-inside.queue.items
