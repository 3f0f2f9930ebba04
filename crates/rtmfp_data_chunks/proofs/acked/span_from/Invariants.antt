use Rattle.std.proofs.Common.{◌≡◌, ◌+◌}
use Rattle.rtmfp_data_chunks.specs.Acked.{in_front}
use Rattle.rtmfp_data_chunks.specs.AckedLeft.{bits_left, AreThere}
use Rattle.rtmfp_data_chunks.proofs.acked.span_from.Given as goal

abbrev pub invariant-loop-after : goal.invariant-loop-after
invariant-loop-after l = record {
  there : AreThere l.after;
  follows : l.last + 1 ≡ l.after.upto + 2 + l.after.at;
  same : bits_left l.fn.bits ≡ in_front l.first l.last (bits_left l.after);
}

abbrev pub decreases-loop-after : goal.decreases-loop-after
decreases-loop-after l = l.after.left
