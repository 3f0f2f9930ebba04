use Rattle.std.proofs.Common.{◌-◌, ◌*◌, ◌<◌}
use Rattle.audit_text.specs.Grammar.{line_limit}
use Rattle.rtmfp_lines.specs.Outside.{outside}
use Rattle.rtmfp_audit.proofs.Going.{Going}
use Rattle.rtmfp_audit.proofs.reading.read_lines.Given as goal

abbrev pub invariant-lines : goal.invariant-lines
invariant-lines g l = record {
  going :
      Going
      (outside (g.S.Source.seen l.fn.source) (g.K.Sink.seen l.fn.sink))
      (outside (g.S.Source.seen l.source) (g.K.Sink.seen l.sink)) l.gathered l.buffer.bytes;
  capacity : 2 * line_limit < l.buffer.capacity;
}

abbrev pub decreases-lines : goal.decreases-lines
decreases-lines g l = 100001 - l.gathered.count
