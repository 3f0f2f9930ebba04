use Rattle.std.proofs.Common.{◌≡◌}
use Rattle.rtmfp_data_chunks.specs.AckedLeft.{bits_left, AreThere}
use Rattle.rtmfp_data_chunks.proofs.acked.skip_unset.Given as goal

abbrev pub invariant-loop-rest : goal.invariant-loop-rest
invariant-loop-rest l = record {
  there : AreThere l.rest;
  same : bits_left l.rest ≡ bits_left l.fn.bits;
}

abbrev pub decreases-loop-rest : goal.decreases-loop-rest
decreases-loop-rest l = l.rest.left
