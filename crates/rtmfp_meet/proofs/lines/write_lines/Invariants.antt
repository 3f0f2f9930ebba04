use Rattle.std.specs.Prelude.{length}
use Rattle.rtmfp_meet.proofs.Written.{Written}
use Rattle.rtmfp_meet.proofs.lines.write_lines.Given as goal

abbrev pub invariant-loop-line : goal.invariant-loop-line
invariant-loop-line g l = Written l.prefix l.text l.rest (g.K.Sink.seen l.fn.sink) (g.K.Sink.seen l.sink)

abbrev pub decreases-loop-line : goal.decreases-loop-line
decreases-loop-line g l = length l.rest
