use Rattle.std.proofs.Common.{◌+◌, ◌-◌, drop, length}
use Rattle.flow_send.specs.Marks.{AllRows, Grows}
use Rattle.flow_send.proofs.Marking.{ToCome}
use Rattle.flow_send.proofs.ordered.Sendings.mark_oldest.Given as goal

abbrev pub invariant-loop-sent : goal.invariant-loop-sent
invariant-loop-sent l = record {
  come : AllRows (ToCome l.marks l.waiting l.loss (drop l.index l.self.queue)) (l.forward + 1) l.rows.rows;
  grows : Grows l.fn.marks l.marks;
}

abbrev pub decreases-loop-sent : goal.decreases-loop-sent
decreases-loop-sent l = length l.self.queue - l.index
