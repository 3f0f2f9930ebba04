use Rattle.std.proofs.Common.{◌+◌}
use Rattle.rendezvous_world.specs.Sound.{AreBelow}
use Rattle.rtmfp_play.specs.Generated.{Begun}
use Rattle.rtmfp_play.proofs.generated.begin.Given as goal

abbrev pub invariant-loop-who : goal.invariant-loop-who
invariant-loop-who l = record { begun : Begun l.who l.world; above : AreBelow l.world.lines (l.who + 1) }
