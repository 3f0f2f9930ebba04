use Rattle.std.proofs.Common.{◌≡◌, ◌+◌}
use Rattle.rendezvous_world.specs.Sound.{AreBelow}
use Rattle.rtmfp_play.specs.Generated.{Generates, number_after}
use Rattle.rtmfp_play.proofs.generated.go.Given as goal

abbrev pub invariant-loop-count : goal.invariant-loop-count
invariant-loop-count l = record {
  runs : Generates l.seed l.count l.world;
  number : l.x ≡ number_after l.count l.seed;
  above : AreBelow l.world.lines (8 + l.count + 1);
}
