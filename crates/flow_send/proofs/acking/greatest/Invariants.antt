use Rattle.std.proofs.Common.{◌≡◌, length}
use Rattle.flow_send.specs.Acks.{greatest}
use Rattle.flow_send.proofs.acking.greatest.Given as goal

abbrev pub invariant-loop-last : goal.invariant-loop-last
invariant-loop-last l = greatest l.most l.left ≡ greatest l.upto l.spans

abbrev pub decreases-loop-last : goal.decreases-loop-last
decreases-loop-last l = length l.left
