use Rattle.std.proofs.Common.{length}
use Rattle.rtmfp_forms.proofs.Lists.{Walked}
use Rattle.rtmfp_forms.proofs.options.listed.Given as goal

abbrev pub invariant-loop-after : goal.invariant-loop-after
invariant-loop-after l = Walked l.bytes l.rest

abbrev pub decreases-loop-after : goal.decreases-loop-after
decreases-loop-after l = length l.rest
