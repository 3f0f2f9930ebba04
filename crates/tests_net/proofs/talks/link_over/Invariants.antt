use Rattle.std.specs.List.{All}
use Rattle.rtmfp_host.specs.Linking.{IsShortGiven}
use Rattle.tests_net.proofs.talks.link_over.Given as goal

abbrev pub invariant-loop-line : goal.invariant-loop-line
invariant-loop-line l = All IsShortGiven l.left.items
