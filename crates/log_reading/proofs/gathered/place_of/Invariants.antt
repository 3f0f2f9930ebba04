use Rattle.std.proofs.Common.{◌≡◌, ◌+◌, ◌≤◌, length}
use Rattle.log_reading.specs.Gathered.{place_from, place_of}
use Rattle.log_reading.proofs.gathered.place_of.Given as goal

abbrev pub invariant-loop-rest : goal.invariant-loop-rest
invariant-loop-rest l = record {
  value : place_from l.at l.name l.rest ≡ place_of l.name l.names;
  small : l.at + length l.rest ≤ 1024;
}

abbrev pub decreases-loop-rest : goal.decreases-loop-rest
decreases-loop-rest l = length l.rest
