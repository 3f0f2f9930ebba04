use Rattle.std.proofs.Common.{◌≡◌, ◌≤◌, take}
use Rattle.rtmfp_vlu.specs.Vlu.{value, AllContinued}
use Rattle.rtmfp_vlu.proofs.reading.decode.Given as goal

abbrev pub invariant-loop-i : goal.invariant-loop-i
invariant-loop-i l = record {
  short : l.i ≤ 9;
  sum : value (take l.i l.bytes) ≡ l.value;
  continued : AllContinued (take l.i l.bytes);
}
