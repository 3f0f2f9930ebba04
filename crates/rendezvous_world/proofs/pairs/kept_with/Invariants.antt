use Rattle.std.proofs.Common.{◌≡◌, ◌+◌, ◌≤◌, length, map}
use Rattle.rendezvous_world.specs.Inside.{end_seen}
use Rattle.rendezvous_world.specs.Pairs.{kept_with}
use Rattle.rendezvous_world.proofs.pairs.kept_with.Given as goal

abbrev pub invariant-loop-rest : goal.invariant-loop-rest
invariant-loop-rest l = record {
  counted : l.count + kept_with (end_seen l.end) (map end_seen l.rest) ≡ kept_with (end_seen l.end) (map end_seen l.others);
  few : l.count + length l.rest ≤ length l.others;
}

abbrev pub decreases-loop-rest : goal.decreases-loop-rest
decreases-loop-rest l = length l.rest
