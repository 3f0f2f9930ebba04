use Rattle.std.proofs.Common.{◌≡◌, ◌+◌, ◌-◌, ◌≤◌, ◌∷◌, length}
use Rattle.flow_recv.specs.Receiver.{Apart, span}
use Rattle.flow_recv.specs.Above.{spans_of}
use Rattle.flow_recv.specs.Acking.{pairs_in}
use Rattle.flow_recv.proofs.acking.pairs_len.Given as goal

abbrev pub invariant-loop-first : goal.invariant-loop-first
invariant-loop-first l = record {
  apart : Apart (span 0 l.after ∷ spans_of l.first-iterator);
  within : l.left ≤ l.room;
  length : l.room - l.left + length (pairs_in l.left l.after (spans_of l.first-iterator)) ≡ length (pairs_in l.room l.through l.above);
}
