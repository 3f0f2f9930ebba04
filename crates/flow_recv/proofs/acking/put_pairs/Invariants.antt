use Rattle.std.proofs.Common.{◌≡◌, ◌+◌, ◌≤◌, ◌∷◌, ◌++◌, length}
use Rattle.rtmfp_forms.specs.Outgoing.{packet_limit}
use Rattle.flow_recv.specs.Receiver.{Apart, span}
use Rattle.flow_recv.specs.Above.{spans_of}
use Rattle.flow_recv.specs.Acking.{pairs_in}
use Rattle.flow_recv.proofs.acking.put_pairs.Given as goal

abbrev pub invariant-loop-first : goal.invariant-loop-first
invariant-loop-first l = record {
  apart : Apart (span 0 l.after ∷ spans_of l.first-iterator);
  room : length l.out + l.left ≤ packet_limit;
  put : l.out ++ pairs_in l.left l.after (spans_of l.first-iterator) ≡ l.fn.out ++ pairs_in l.room l.through l.above;
}
