use Rattle.std.proofs.Common.{◌≡◌, ◌∷◌, length}
use Rattle.flow_recv.specs.Receiver.{add_span, span}
use Rattle.flow_recv.proofs.spans.raise.Given as goal

abbrev pub invariant-loop-here : goal.invariant-loop-here
invariant-loop-here l = add_span 0 l.end l.above ≡ add_span 0 l.to (span 0 l.through ∷ l.fn.above)

abbrev pub decreases-loop-here : goal.decreases-loop-here
decreases-loop-here l = length l.above
