use Rattle.std.proofs.Common.{◌≡◌, drop, length}
use Rattle.rtmfp_vlu.proofs.Tails.{Tail}
use Rattle.rtmfp_vlu.proofs.writing.write_vlu.Given as goal

abbrev pub invariant-loop-at : goal.invariant-loop-at
invariant-loop-at l = record {
  tail : Tail l.value l.len l.at l.rest l.out;
  kept : drop l.len l.out ≡ drop l.len l.fn.out;
  size : length l.out ≡ 10;
}

abbrev pub decreases-loop-at : goal.decreases-loop-at
decreases-loop-at l = l.at
