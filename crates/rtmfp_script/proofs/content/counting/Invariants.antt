use Rattle.std.proofs.Common.{◌≡◌}
use Rattle.rtmfp_script.specs.Grammar.{counting}
use Rattle.rtmfp_script.proofs.content.counting.Given as goal

abbrev pub invariant-loop-at : goal.invariant-loop-at
invariant-loop-at l = l.bytes.items ≡ counting l.at
