use Rattle.std.proofs.Common.{◌≡◌, ◌^◌, ◌<◌, ◌≤◌, length}
use Rattle.rtmfp_vlu.proofs.Bytes.{IsBytes}
use Rattle.rtmfp_data_chunks.specs.Reader.{pairs_then}
use Rattle.rtmfp_data_chunks.proofs.reading.last_told.Given as goal

abbrev pub invariant-loop-rest : goal.invariant-loop-rest
invariant-loop-rest l = record {
  small : l.end < 2 ^ 64;
  within : length l.rest ≤ l.size;
  fits : IsBytes l.rest;
  same : pairs_then l.fn.size l.fn.above l.fn.pairs ≡ pairs_then l.size l.end l.rest;
}

abbrev pub decreases-loop-rest : goal.decreases-loop-rest
decreases-loop-rest l = length l.rest
