use Rattle.std.proofs.Common.{◌≡◌, ◌+◌, ◌*◌, ◌≤◌, length, map}
use Rattle.rendezvous_world.specs.Inside.{end_seen}
use Rattle.rendezvous_world.specs.Pairs.{kept_pairs}
use Rattle.rendezvous_world.proofs.pairs.kept_pairs.Given as goal

abbrev pub invariant-loop-rest : goal.invariant-loop-rest
invariant-loop-rest l = record {
  counted : l.count + kept_pairs (map end_seen l.rest) (map end_seen l.all) ≡ kept_pairs (map end_seen l.ends) (map end_seen l.all);
  few : l.count + length l.rest * length l.all ≤ length l.ends * length l.all;
}

abbrev pub decreases-loop-rest : goal.decreases-loop-rest
decreases-loop-rest l = length l.rest
